-- The clauses of soundness that speak of process rows, kept by a change of one row. Assumes nothing.
use Rattle.std.specs.Prelude.{◌≡◌, true, false, ◌&&◌, ◌≢◌, eqb}
use Rattle.std.proofs.Common.{sym, ◌∙◌, ⊎_elim, arith, eq-eqb, eqb-true}
use Rattle.std.proofs.Math.Path.{ap, ap₂, fun_ext}
use Rattle.std.proofs.Math.Bool.{not}
use Rattle.std.proofs.lemmas.Bool.{false≢true}
use Prim.Native.Nat.{ℕ, ◌≤◌, ◌<◌}
use Rattle.std.proofs.Math.ListN.{take}
use Rattle.terms.specs.Names.{same, folded}
use Rattle.terms.specs.Laws.Bools.{and_left, and_right, fails}
use Rattle.terms.specs.Base.{Range}
use Rattle.terms.specs.Laws.Under.{same_eq, same_of}
use Rattle.fields.specs.Base.{series}
use Rattle.fields.specs.Rule.View.{View, number, owner, size, row_zero, letter, last}
use Rattle.fields.specs.Rule.Clause.{good_name, same_pair}
use Rattle.fields.specs.Rule.Word.{used, name_of}
use Rattle.fields.specs.Laws.Each.{at_or, range, same_or, less}
use Rattle.fields.specs.Laws.Sound.{used_not, used_of}

pub record Bare (v : View) (p : ℕ) : Type 0 where
  pub owner0 : v (owner p) ≡ 0
  pub size0 : v (size p) ≡ 0

pub record Rows (v : View) : Type 0 where
  pub rows_spare : (p : ℕ) → Range 1 80 p → v (row_zero p) ≡ 0
  pub bare : (p : ℕ) → Range 1 80 p → used v p ≡ false → Bare v p
  pub fill : (p j : ℕ) → Range 1 80 p → Range 1 64 j → v (size p) < j → v (letter p j) ≡ 0
  pub numbers_apart : (q p : ℕ) → 1 ≤ q → q < p → p ≤ 80 → used v p ≡ true → v (number q) ≢ v (number p)
  pub numbers_fit : (p : ℕ) → Range 1 80 p → v (number p) ≤ v last
  pub names : (p : ℕ) → Range 1 80 p → used v p ≡ true → good_name v p ≡ true
  pub pairs_apart_lem : (q p : ℕ) → 1 ≤ q → q < p → p ≤ 80 → same_pair v q p ≡ false

-- row q but for its tab count
pub record KeptRow (v u : View) (q : ℕ) : Type 0 where
  pub number= : u (number q) ≡ v (number q)
  pub owner= : u (owner q) ≡ v (owner q)
  pub size= : u (size q) ≡ v (size q)
  pub letter= : (j : ℕ) → u (letter q j) ≡ v (letter q j)

-- u is v but for row p, tab counts, and a last number that does not fall
pub record RowChanged (v u : View) (p : ℕ) : Type 0 where
  pub row_zero= : (q : ℕ) → u (row_zero q) ≡ v (row_zero q)
  pub others : (q : ℕ) → q ≢ p → KeptRow v u q
  pub grown : v last ≤ u last

-- what is in row p now is in form, and new beside the others
pub record RowNow (u : View) (p : ℕ) : Type 0 where
  pub bare : used u p ≡ false → Bare u p
  pub fill : (j : ℕ) → Range 1 64 j → u (size p) < j → u (letter p j) ≡ 0
  pub fits : u (number p) ≤ u last
  pub number_new : used u p ≡ true → (q : ℕ) → Range 1 80 q → q ≢ p → u (number q) ≢ u (number p)
  pub name : used u p ≡ true → good_name u p ≡ true
  pub pair_new : used u p ≡ true → (q : ℕ) → Range 1 80 q → q ≢ p → same_pair u q p ≡ false

-- ---- pairs

pub record Pair (v : View) (q p : ℕ) : Type 0 where
  pub left : used v q ≡ true
  pub right : used v p ≡ true
  pub owners : v (owner q) ≡ v (owner p)
  pub folds : folded (name_of v q) ≡ folded (name_of v p)

pub pair_parts : (v : View) (q p : ℕ) → same_pair v q p ≡ true → Pair v q p
unfolding same_pair
pair_parts v q p e =
    let a = used v q in
    let b = used v p in
    let c = eqb (v (owner q)) (v (owner p)) in
    let d = same (name_of v q) (name_of v p) in
    let e3 = and_left (a && b && c) d e in
    let e2 = and_left (a && b) c e3 in
    record {
      left = and_left a b e2;
      right = and_right a b e2;
      owners = eqb-true (v (owner q)) (v (owner p)) (and_right (a && b) c e3);
      folds = same_eq (name_of v q) (name_of v p) (and_right (a && b && c) d e);
    }

pub pair_of : (v : View) (q p : ℕ) → Pair v q p → same_pair v q p ≡ true
unfolding same_pair
pair_of v q p w =
    rw (w.left, w.right, eq-eqb (v (owner q)) (v (owner p)) w.owners) (same_of (name_of v q) (name_of v p) w.folds)

turned : (v : View) (q p : ℕ) → Pair v q p → Pair v p q
turned v q p w = record { left = w.right; right = w.left; owners = sym w.owners; folds = sym w.folds }

pub pair_turned : (v : View) (q p : ℕ) → same_pair v q p ≡ false → same_pair v p q ≡ false
pair_turned v q p e =
    fails (same_pair v p q) (λ t. false≢true (sym e ∙ pair_of v q p (turned v p q (pair_parts v p q t))))

-- ---- a row that is the same

module _ (v u : View) (q : ℕ) (w : KeptRow v u q) where
  pub used= : used u q ≡ used v q
  unfolding used
  used= = ap (λ (x : ℕ). not (eqb x 0)) w.number=

  pub name= : name_of u q ≡ name_of v q
  unfolding name_of
  name= =
      ap₂ (λ (n : ℕ) (f : ℕ → ℕ). take n (series 64 f)) w.size= (fun_ext (λ j. w.letter= j))

  pub good= : good_name u q ≡ good_name v q
  unfolding good_name
  good= = rw (name=, w.size=)

pub pair= : (v u : View) (q p : ℕ) → KeptRow v u q → KeptRow v u p → same_pair u q p ≡ same_pair v q p
unfolding same_pair
pair= v u q p a b = rw (used= v u q a, used= v u p b, a.owner=, b.owner=, name= v u q a, name= v u p b)

-- ---- the clauses

module _ (v u : View) (p : ℕ) (w : Rows v) (c : RowChanged v u p) (n : RowNow u p) where
  kept_bare : (q : ℕ) → Range 1 80 q → used u q ≡ false → Bare u q
  kept_bare q r =
      at_or (λ q. used u q ≡ false → Bare u q) q p n.bare
      (λ m e.
      let o = c.others q m in
      let b = w.bare q r (sym (used= v u q o) ∙ e) in
      record { owner0 = o.owner= ∙ b.owner0; size0 = o.size= ∙ b.size0 })

  kept_fill : (q j : ℕ) → Range 1 80 q → Range 1 64 j → u (size q) < j → u (letter q j) ≡ 0
  kept_fill q j r i =
      at_or (λ q. u (size q) < j → u (letter q j) ≡ 0) q p (n.fill j i)
      (λ m l. let o = c.others q m in let e = o.size= in o.letter= j ∙ w.fill q j r i (omega arith))

  kept_fits : (q : ℕ) → Range 1 80 q → u (number q) ≤ u last
  kept_fits q r =
      at_or (λ q. u (number q) ≤ u last) q p n.fits
      (λ m. let a = (c.others q m).number= in let b = w.numbers_fit q r in let d = c.grown in omega arith)

  kept_names : (q : ℕ) → Range 1 80 q → used u q ≡ true → good_name u q ≡ true
  kept_names q r =
      at_or (λ q. used u q ≡ true → good_name u q ≡ true) q p n.name
      (λ m e. let o = c.others q m in good= v u q o ∙ w.names q r (sym (used= v u q o) ∙ e))

  kept_numbers : (q i : ℕ) → 1 ≤ q → q < i → i ≤ 80 → used u i ≡ true → u (number q) ≢ u (number i)
  kept_numbers q i a b d l =
      ⊎_elim
      (λ (e : i ≡ p).
      let m : used u p ≡ true = ap (used u) (sym e) ∙ l in
      λ z. n.number_new m q (range a (omega arith)) (λ x. omega arith) (z ∙ ap (λ (y : ℕ). u (number y)) e))
      (λ (h : i ≢ p).
      ⊎_elim
      (λ (e : q ≡ p) (z : u (number q) ≡ u (number i)).
      let y : u (number p) ≡ u (number i) = ap (λ (y : ℕ). u (number y)) (sym e) ∙ z in
      n.number_new (used_of u p (λ x. used_not u i l (sym y ∙ x))) i (range (omega arith) d) h (sym y))
      (λ (m : q ≢ p) (z : u (number q) ≡ u (number i)).
      let o = c.others q m in
      let x = c.others i h in
      w.numbers_apart q i a b d (sym (used= v u i x) ∙ l) (sym o.number= ∙ z ∙ x.number=))
      (same_or q p))
      (same_or i p)

  pair_here : (q : ℕ) → Range 1 80 q → q ≢ p → same_pair u q p ≡ false
  pair_here q r m =
      fails (same_pair u q p) (λ t. false≢true (sym (n.pair_new (pair_parts u q p t).right q r m) ∙ t))

  kept_pairs : (q i : ℕ) → 1 ≤ q → q < i → i ≤ 80 → same_pair u q i ≡ false
  kept_pairs q i a b d =
      ⊎_elim
      (λ (e : i ≡ p). ap (same_pair u q) e ∙ pair_here q (range a (omega arith)) (λ x. omega arith))
      (λ (h : i ≢ p).
      ⊎_elim
      (λ (e : q ≡ p). ap (λ (x : ℕ). same_pair u x i) e ∙ pair_turned u i p (pair_here i (range (omega arith) d) h))
      (λ (m : q ≢ p). pair= v u q i (c.others q m) (c.others i h) ∙ w.pairs_apart_lem q i a b d)
      (same_or q p))
      (same_or i p)

  pub rows_kept : Rows u
  rows_kept =
      record {
        rows_spare = λ q r. c.row_zero= q ∙ w.rows_spare q r;
        bare = kept_bare;
        fill = kept_fill;
        numbers_apart = kept_numbers;
        numbers_fit = kept_fits;
        names = kept_names;
        pairs_apart_lem = kept_pairs;
      }

-- ---- row p as it was

pub same_now : (v u : View) (p : ℕ) → Range 1 80 p → Rows v → RowChanged v u p → KeptRow v u p → RowNow u p
same_now v u p r w c o =
    record {
      bare = λ e.
          let b = w.bare p r (sym (used= v u p o) ∙ e) in record { owner0 = o.owner= ∙ b.owner0; size0 = o.size= ∙ b.size0 };
      fill = λ j i l. let e = o.size= in o.letter= j ∙ w.fill p j r i (omega arith);
      fits = let a = o.number= in let b = w.numbers_fit p r in let d = c.grown in omega arith;
      number_new = λ e q i m z.
          apart q i m (sym (used= v u p o) ∙ e) (sym (c.others q m).number= ∙ z ∙ o.number=);
      name = λ e. good= v u p o ∙ w.names p r (sym (used= v u p o) ∙ e);
      pair_new = λ e q i m. pair= v u q p (c.others q m) o ∙ no_pair q i m;
    }
  where
    apart : (q : ℕ) → Range 1 80 q → q ≢ p → used v p ≡ true → v (number q) ≢ v (number p)
    apart q i m e z =
        ⊎_elim
        (λ (l : q < p). w.numbers_apart q p i.low l r.high e z)
        (λ (l : p < q). w.numbers_apart p q r.low l i.high (used_of v q (λ x. used_not v p e (sym z ∙ x))) (sym z))
        (less q p m)

    no_pair : (q : ℕ) → Range 1 80 q → q ≢ p → same_pair v q p ≡ false
    no_pair q i m =
        ⊎_elim
        (λ (l : q < p). w.pairs_apart_lem q p i.low l r.high)
        (λ (l : p < q). pair_turned v p q (w.pairs_apart_lem p q r.low l i.high))
        (less q p m)
