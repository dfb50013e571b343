-- Equations that names/src/book.rt goes by: the trailer's fields, parts behind one another, soundness test by test.
-- Assumes nothing.
use Rattle.std.specs.Prelude.{◌≡◌, refl, Bool, true, false, ◌&&◌, List, ℕ, ◌+◌, ◌*◌, ◌-◌, length, get_or, leb, eqb, ◌<◌}
use Rattle.std.proofs.Common.{arith, eqb-true, le-leb, ne_eqb}
use Rattle.std.proofs.Math.Bool.{and-false}
use Rattle.terms.specs.Base.{within}
use Rattle.terms.specs.Rule.Num.{num}
use Rattle.terms.specs.Rule.Order.{sound_orders}
use Rattle.terms.specs.Rule.Listed.{sound_names}
use Rattle.terms.specs.Rule.Book.{order_size, trailer_size, trailer, orders_at, orders_count, book_form, names_at, names_count}
use Rattle.terms.specs.Rule.Book.{orders_from, names_from, end_from, orders, listed, legal_form, adjoins, sound_book}
use Rattle.terms.specs.Laws.Bools.{cases}
use Rattle.terms.specs.Laws.Book.{end_rises}

pub trailer_is : (b : List ℕ) → trailer b ≡ length b - trailer_size
unfolding trailer
trailer_is b = refl

pub orders_at_is : (b : List ℕ) → orders_at b ≡ num b (length b - trailer_size) 2
unfolding orders_at trailer
orders_at_is b = refl

pub orders_count_is : (b : List ℕ) → orders_count b ≡ get_or b (length b - trailer_size + 2) 0
unfolding orders_count trailer
orders_count_is b = refl

pub form_is : (b : List ℕ) → book_form b ≡ get_or b (length b - trailer_size + 3) 0
unfolding book_form trailer
form_is b = refl

pub names_at_is : (b : List ℕ) → names_at b ≡ num b (length b - trailer_size + 4) 2
unfolding names_at trailer
names_at_is b = refl

pub names_count_is : (b : List ℕ) → names_count b ≡ num b (length b - trailer_size + 6) 2
unfolding names_count trailer
names_count_is b = refl

pub legal_form_is : (x : ℕ) → legal_form x ≡ eqb x 0
unfolding legal_form
legal_form_is x = refl

pub ruleset trailer_reads = (orders_at_is, orders_count_is, form_is, names_at_is, names_count_is)

pub orders_is : (b : List ℕ) → orders b ≡ orders_from b 0 (orders_count b)
unfolding orders
orders_is b = refl

-- ---- the parts behind one another

pub gap : (b : List ℕ) (until : ℕ) (x y : Bool) → (names_at b ≡ order_size * orders_count b → ⊥) → adjoins b until && x && y ≡ false
unfolding adjoins
gap b until x y h = rw (ne_eqb (names_at b) (order_size * orders_count b) h)

pub overrun : (b : List ℕ) (until : ℕ) (x y : Bool) → until < names_at b → adjoins b until && x && y ≡ false
unfolding adjoins
overrun b until x y h =
    let r = end_rises b (names_at b) (names_count b) in
    let e : eqb (end_from b (names_at b) (names_count b)) until ≡ false =
    ne_eqb (end_from b (names_at b) (names_count b)) until (λ q. omega arith) in
    rw (e, and-false)

-- ---- soundness, test by test

-- names that begin past a place do not end there
not_past : (b : List ℕ) (until : ℕ)
    → eqb (end_from b (names_at b) (names_count b)) until
    ≡ leb (names_at b) until && eqb (end_from b (names_at b) (names_count b)) until
not_past b until =
    let r = end_rises b (names_at b) (names_count b) in
    let x = end_from b (names_at b) (names_count b) in
    cases (eqb x until) (λ e. let q = eqb-true x until e in rw (e, le-leb (names_at b) until (omega arith))) (λ e. rw (e, and-false))

-- the tests in the order in which they are made, where one of them follows from another
regroup : (w z f x l y o n : Bool) → y ≡ l && y
    → w && z && f && (x && y) && o && n ≡ w && (z && (f && (x && (l && (o && (y && n))))))
regroup false z f x l y o n e = refl
regroup true false f x l y o n e = refl
regroup true true false x l y o n e = refl
regroup true true true false l y o n e = refl
regroup true true true true false y o n e = rw e
regroup true true true true true false false n e = refl
regroup true true true true true false true n e = refl
regroup true true true true true true o n e = refl

pub sound_is : (b : List ℕ)
    → sound_book b
    ≡ within 8 32768 (length b) && (eqb (orders_at b) 0 && (eqb (book_form b) 0
    && (eqb (names_at b) (order_size * orders_count b) && (leb (names_at b) (length b - trailer_size)
    && (sound_orders (orders_from b 0 (orders_count b))
    && (eqb (end_from b (names_at b) (names_count b)) (length b - trailer_size)
    && sound_names (names_from b (names_at b) (names_count b))))))))
unfolding sound_book legal_form adjoins trailer orders listed
sound_is b =
    regroup (within 8 32768 (length b)) (eqb (orders_at b) 0) (eqb (book_form b) 0) (eqb (names_at b) (order_size * orders_count b))
    (leb (names_at b) (length b - trailer_size)) (eqb (end_from b (names_at b) (names_count b)) (length b - trailer_size))
    (sound_orders (orders_from b 0 (orders_count b))) (sound_names (names_from b (names_at b) (names_count b)))
    (not_past b (length b - trailer_size))
