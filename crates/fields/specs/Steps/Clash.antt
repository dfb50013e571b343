-- The test of soundness/src/row.rt of a process row beside the rows below it. Assumes nothing.
use Rattle.std.specs.Prelude.{◌≡◌, Bool, false, ◌&&◌, ◌||◌, ◌≢◌, ℕ, ◌-◌, length}
use Rattle.std.proofs.Math.Path.{refl, sym, ap}
use Rattle.std.proofs.Common.{◌∙◌, arith}
use Rattle.std.proofs.Math.Bool.{true, not, and-false}
use Rattle.std.proofs.Math.Dec.{eqb}
use borrow.Author.Tests.{eq-eqb, ne_eqb, eqb-true}
use Rattle.std.proofs.lemmas.Bool.{eqb-false}
use Rattle.terms.specs.Base.{within, Range}
use Rattle.terms.specs.Names.{folded, is_name, is_folded, has_dot}
use Rattle.terms.specs.Laws.Bools.{and_left, and_right, agree, cases, fails, within_at}
use Rattle.terms.specs.Laws.Fold.{folded_is}
use Rattle.fields.specs.Base.{each}
use Rattle.fields.specs.Rule.View.{View, number, owner, size, letter}
use Rattle.fields.specs.Rule.Clause.{empty_row, same_number, good_name, name_formed, same_pair}
use Rattle.fields.specs.Rule.Word.{used, name_of}
use Rattle.fields.specs.Good.{clash, row_good, Named}
use Rattle.fields.specs.Laws.Each.{each_of}
use Rattle.fields.specs.Laws.Sound.{if_then, or_else}
use Rattle.fields.specs.Laws.Letters.{name_length, room_name, name_room}
use Rattle.fields.specs.Laws.GoodParts.{good_row, empty_size}
use Rattle.fields.specs.Laws.Rows.{pair_parts, pair_of}

-- ---- a good name

good_size : (v : View) (p : ℕ) → good_name v p ≡ true → Range 3 64 (v (size p))
unfolding good_name
good_size v p e =
    let a = is_name (name_of v p) in
    let b = is_folded (name_of v p) in
    let d = within 3 64 (v (size p)) in
    within_at 3 64 (v (size p)) (and_right (a && b) d (and_left (a && b && d) (has_dot (name_of v p)) e))

good_folded : (v : View) (p : ℕ) → good_name v p ≡ true → is_folded (name_of v p) ≡ true
unfolding good_name
good_folded v p e =
    let a = is_name (name_of v p) in
    let b = is_folded (name_of v p) in
    let d = within 3 64 (v (size p)) in
    and_right a b (and_left (a && b) d (and_left (a && b && d) (has_dot (name_of v p)) e))

module _ (v : View) (p : ℕ) where
  pub clash_number : {n m : ℕ} (q : ℕ) → used v p ≡ true → m ≡ v (number q) → n ≡ v (number p) → m ≡ n → true ≡ clash v q p
  unfolding clash same_number
  clash_number q u e f z = rw (u, eq-eqb (v (number q)) (v (number p)) (sym e ∙ z ∙ f))

  -- with other numbers, rows clash if they are a pair
  clash_pair : {n m : ℕ} (q : ℕ) → m ≡ v (number q) → n ≡ v (number p) → m ≢ n → same_pair v q p ≡ clash v q p
  unfolding clash same_number
  clash_pair q e f h = rw (ne_eqb (v (number q)) (v (number p)) (λ z. h (e ∙ z ∙ sym f)), and-false (used v p))

  pub clash_owners : {n m a b : ℕ} (q : ℕ) → m ≡ v (number q) → n ≡ v (number p) → m ≢ n → a ≡ v (owner q) → b ≡ v (owner p)
      → a ≢ b
      → false ≡ clash v q p
  clash_owners q e f h i j k =
      sym (fails (same_pair v q p) (λ s. k (i ∙ (pair_parts v q p s).owners ∙ sym j))) ∙ clash_pair q e f h

  module _ (q : ℕ) (w : Named v p) (g : row_good v q ≡ true) where
    beside : used v q ≡ true → Named v q
    unfolding name_formed
    beside u =
        let x = good_row 0 v q g in
        record { live = u; name = if_then (used v q) (good_name v q) x.name u; fill = x.fill }

    -- a pair has one name
    pair_names : same_pair v q p ≡ true → name_of v q ≡ name_of v p
    pair_names s =
        let x = pair_parts v q p s in
        sym (folded_is (name_of v q) (good_folded v q (beside x.left).name))
        ∙ x.folds
        ∙ folded_is (name_of v p) (good_folded v p w.name)

    pub clash_sizes : {n m a b : ℕ} → m ≡ v (number q) → n ≡ v (number p) → m ≢ n → a ≡ v (size q) → b ≡ v (size p) → a ≢ b
        → false ≡ clash v q p
    clash_sizes e f h i j k =
        sym
        (fails (same_pair v q p) (λ s.
        k
        (i
        ∙ sym (name_length v q (good_size v q (beside (pair_parts v q p s).left).name).high)
        ∙ ap length (pair_names s)
        ∙ name_length v p (good_size v p w.name).high
        ∙ sym j)))
        ∙ clash_pair q e f h

    pub clash_letters : {n m a b x y : ℕ} {r : Bool} → m ≡ v (number q) → n ≡ v (number p) → m ≢ n → a ≡ v (owner q)
        → b ≡ v (owner p) → a ≡ b → x ≡ v (size q) → y ≡ v (size p) → x ≡ y
        → r ≡ each 64 (λ j. eqb (v (letter q j)) (v (letter p j))) → r ≡ clash v q p
    unfolding empty_row
    clash_letters e f h i j k l m o d =
        let z = sym l ∙ o ∙ m in
        let s = good_size v p w.name in
        let lo = s.low in
        let u : used v q ≡ true
        = cases (used v q) (λ u. u) (λ u.
        let x = empty_size 0 v q (or_else (used v q) (empty_row v q) (good_row 0 v q g).empty u) in absurd (omega arith)) in
        let same = each 64 (λ j. eqb (v (letter q j)) (v (letter p j))) in
        d
        ∙ agree same (same_pair v q p)
        (λ t. pair_of v q p
        (record { left = u; right = w.live; owners = sym i ∙ k ∙ j; folds = ap folded (room_name v q p z s.high t) }))
        (λ t. name_room v q p z s.high (beside u).fill w.fill (pair_names t))
        ∙ clash_pair q e f h

    pub clash_is : clash v q p
        ≡ eqb (v (number q)) (v (number p))
        || (eqb (v (owner q)) (v (owner p)) && eqb (v (size q)) (v (size p)) && each 64 (λ j. eqb (v (letter q j)) (v (letter p j))))
    clash_is =
        cases (eqb (v (number q)) (v (number p))) (λ e. rw e (sym (clash_number q w.live refl refl (eqb-true _ _ e)))) (λ e.
        let n = eqb-false _ _ e in
        cases (eqb (v (owner q)) (v (owner p)))
        (λ f.
        cases (eqb (v (size q)) (v (size p)))
        (λ h. rw (e, f, h) (sym (clash_letters refl refl n refl refl (eqb-true _ _ f) refl refl (eqb-true _ _ h) refl)))
        (λ h. rw (e, f, h) (sym (clash_sizes refl refl n refl refl (eqb-false _ _ h)))))
        (λ f. rw (e, f) (sym (clash_owners q refl refl n refl refl (eqb-false _ _ f)))))

  -- a free row clashes with none
  pub new_free : used v p ≡ false → each (p - 1) (λ q. not (clash v q p)) ≡ true
  unfolding clash same_number same_pair
  new_free u = each_of (p - 1) (λ q. not (clash v q p)) (λ q m. rw (u, and-false (used v q)))
