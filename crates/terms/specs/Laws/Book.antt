-- Laws of a book: where its names end, and a sound book's parts. Assumes nothing.
use Rattle.std.specs.Prelude.{◌≡◌, true, ◌&&◌, List, ℕ, zero, suc, ◌+◌, ◌*◌, ◌-◌, ◌≤◌, ◌<◌, length, get_or, eqb}
use Rattle.std.proofs.Common.{arith, eqb-true}
use Rattle.terms.specs.Base.{within, Range}
use Rattle.terms.specs.Rule.Order.{sound_orders}
use Rattle.terms.specs.Rule.Listed.{sound_names}
use Rattle.terms.specs.Rule.Book.{order_size, trailer_size, trailer, orders_at, orders_count, book_form, names_at, names_count, next_at}
use Rattle.terms.specs.Rule.Book.{end_from, orders, listed, legal_form, adjoins, sound_book}
use Rattle.terms.specs.Laws.Bools.{and_left, and_right, within_at}

-- ---- where names end

pub end_rises : (b : List ℕ) (at k : ℕ) → at + k ≤ end_from b at k
unfolding end_from next_at
end_rises b at zero = omega arith
end_rises b at (suc k) = let h = end_rises b (at + 1 + get_or b at 0) k in omega arith

pub end_step : (b : List ℕ) (at k : ℕ) → 0 < k → end_from b at k ≡ end_from b (next_at b at) (k - 1)
unfolding end_from
end_step b at zero h = absurd (omega arith)
end_step b at (suc k) h = let e : suc k - 1 ≡ k = omega arith in rw e

pub end_fits : (b : List ℕ) (at k : ℕ) → 0 < k → next_at b at ≤ end_from b at k
end_fits b at k h = let e = end_step b at k h in let r = end_rises b (next_at b at) (k - 1) in omega arith

-- ---- a sound book

pub record Sound (b : List ℕ) : Type 0 where
  pub size : Range 8 32768 (length b)
  pub begins : names_at b ≡ order_size * orders_count b
  pub ends : end_from b (names_at b) (names_count b) ≡ length b - trailer_size
  pub orderly : sound_orders (orders b) ≡ true
  pub named : sound_names (listed b) ≡ true

pub sound_parts : (b : List ℕ) → sound_book b ≡ true → Sound b
unfolding sound_book adjoins trailer
sound_parts b e =
    let w = within 8 32768 (length b) in
    let z = eqb (orders_at b) 0 in
    let p = w && z && legal_form (book_form b) in
    let x = eqb (names_at b) (order_size * orders_count b) in
    let y = eqb (end_from b (names_at b) (names_count b)) (length b - trailer_size) in
    let o = sound_orders (orders b) in
    let e1 = and_left (p && (x && y) && o) (sound_names (listed b)) e in
    let e2 = and_left (p && (x && y)) o e1 in
    let e3 = and_left (w && z) (legal_form (book_form b)) (and_left p (x && y) e2) in
    let a = and_right p (x && y) e2 in
    record {
      size = within_at 8 32768 (length b) (and_left w z e3);
      begins = eqb-true (names_at b) (order_size * orders_count b) (and_left x y a);
      ends = eqb-true (end_from b (names_at b) (names_count b)) (length b - trailer_size) (and_right x y a);
      orderly = and_right (p && (x && y)) o e1;
      named = and_right (p && (x && y) && o) (sound_names (listed b)) e;
    }

-- the orders lie in the book
pub orders_fit : (b : List ℕ) → sound_book b ≡ true → order_size * orders_count b ≤ length b
orders_fit b e =
    let s = sound_parts b e in
    let r = end_rises b (names_at b) (names_count b) in
    let x = s.begins in
    let y = s.ends in
    omega arith

-- and so do the names
pub names_fit : (b : List ℕ) → sound_book b ≡ true → end_from b (names_at b) (names_count b) ≤ length b
names_fit b e = let s = sound_parts b e in let y = s.ends in omega arith

pub book_size : (b : List ℕ) → sound_book b ≡ true → trailer_size ≤ length b
book_size b e = (sound_parts b e).size.low
