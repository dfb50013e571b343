-- What a look-up of a slot or a process row gives: what is found is there, and what is there is found. Assumes nothing.
use Rattle.std.specs.Prelude.{◌≡◌, true, false, ◌&&◌, ◌≢◌, List, length}
use Rattle.std.proofs.Math.Path.{sym, ap}
use Rattle.std.proofs.Common.{◌∙◌}
use Rattle.std.proofs.Math.Bool.{Bool, not, false≢true}
use Prim.Native.Nat.{ℕ, ◌≤◌, ◌<◌}
use native.Mathlib.Omega.{arith}
use Rattle.std.proofs.Math.ListN.{length-take}
use Rattle.std.proofs.Math.Dec.{eqb}
use borrow.Author.Tests.{eq-eqb, eqb-true, not-true, not-false}
use Rattle.terms.specs.Base.{within, Range}
use Rattle.terms.specs.Names.{same, folded, is_name, is_folded, has_dot}
use Rattle.terms.specs.Laws.Fold.{folded_is}
use Rattle.terms.specs.Laws.Under.{same_eq}
use Rattle.terms.specs.Laws.Bools.{and_left, and_right, and_both, fails}
use Rattle.fields.specs.Base.{count, lowest, series}
use Rattle.fields.specs.Rule.View.{View, number, owner, size, letter}
use Rattle.fields.specs.Rule.Word.{live, used, name_of}
use Rattle.fields.specs.Rule.Clause.{good_name}
use Rattle.fields.specs.Rule.Find.{process_of, process_with, free_slot, free_process, live_tabs}
use Rattle.fields.specs.Laws.Sum.{count_lt, count_all}
use Rattle.fields.specs.Laws.Series.{length_series}
use Rattle.fields.specs.Laws.Lowest.{lowest_at, lowest_nil}
use Rattle.fields.specs.Laws.Sound.{Sound}

module _ (v : View) where
  -- a row's name fits its room
  pub name_short : (p : ℕ) → length (name_of v p) ≤ 64
  unfolding name_of
  name_short p =
      let a = length-take (v (size p)) (series 64 (λ j. v (letter p j))) in
      let b = length_series 64 (λ j. v (letter p j)) in
      omega (arith, a, b)

  -- ---- slots

  pub record FreeSlot (s k : ℕ) : Type 0 where
    pub slot : Range 1 10 k
    pub free : live v s k ≡ false
    pub below : (i : ℕ) → 1 ≤ i → i < k → live v s i ≡ true

  pub free_slot_lem : (s : ℕ) → live_tabs v s < 10 → FreeSlot s (free_slot v s)
  unfolding free_slot live_tabs
  free_slot_lem s h =
      let f : ℕ → Bool = λ k. not (live v s k) in
      let w = lowest_at 10 f (λ z. full (count_all 10 (λ k. live v s k) (λ k r. not-false (live v s k) (lowest_nil 10 f z k r)))) in
      record {
        slot = w.range;
        free = not-true (live v s (lowest 10 f)) w.passes;
        below = λ i a b. not-false (live v s i) (w.below i a b);
      }
    where
      full : count 10 (λ k. live v s k) ≡ 10 → ⊥
      full e = omega arith

  pub slot_found : (s k : ℕ) → Range 1 10 k → live v s k ≡ false → live_tabs v s < 10
  unfolding live_tabs
  slot_found s k r e = count_lt 10 (λ k. live v s k) k r e

  -- ---- process rows

  pub record FreeRow (p : ℕ) : Type 0 where
    pub row : Range 1 80 p
    pub free : used v p ≡ false
    pub below : (q : ℕ) → 1 ≤ q → q < p → used v q ≡ true

  pub free_process_lem : free_process v ≢ 0 → FreeRow (free_process v)
  unfolding free_process
  free_process_lem h =
      let f : ℕ → Bool = λ p. not (used v p) in
      let w = lowest_at 80 f h in
      record {
        row = w.range;
        free = not-true (used v (lowest 80 f)) w.passes;
        below = λ q a b. not-false (used v q) (w.below q a b);
      }

  pub row_found : (p : ℕ) → Range 1 80 p → used v p ≡ false → free_process v ≢ 0
  unfolding free_process
  row_found p r e z = false≢true (sym (lowest_nil 80 (λ q. not (used v q)) z p r) ∙ ap not e)

  pub record With (o : ℕ) (name : List ℕ) (p : ℕ) : Type 0 where
    pub row : Range 1 80 p
    pub there : used v p ≡ true
    pub own : v (owner p) ≡ o
    pub named : same (name_of v p) name ≡ true

  with_parts : (o p : ℕ) (name : List ℕ) → Range 1 80 p → used v p && eqb (v (owner p)) o && same (name_of v p) name ≡ true
      → With o name p
  with_parts o p name r e =
      let a = used v p in
      let b = eqb (v (owner p)) o in
      let d = same (name_of v p) name in
      let f = and_left (a && b) d e in
      record { row = r; there = and_left a b f; own = eqb-true (v (owner p)) o (and_right a b f); named = and_right (a && b) d e }

  pub process_with_lem : (o : ℕ) (name : List ℕ) → process_with v o name ≢ 0 → With o name (process_with v o name)
  unfolding process_with
  process_with_lem o name h =
      let w = lowest_at 80 (λ p. used v p && eqb (v (owner p)) o && same (name_of v p) name) h in
      with_parts o (lowest 80 (λ p. used v p && eqb (v (owner p)) o && same (name_of v p) name)) name w.range w.passes

  pub process_without : (o : ℕ) (name : List ℕ) → process_with v o name ≡ 0 → (q : ℕ) → Range 1 80 q → used v q ≡ true
      → v (owner q) ≡ o
      → same (name_of v q) name ≡ false
  unfolding process_with
  process_without o name z q r u e =
      fails (same (name_of v q) name) (λ t.
      false≢true
      (sym (lowest_nil 80 (λ p. used v p && eqb (v (owner p)) o && same (name_of v p) name) z q r)
      ∙ rw (u, eq-eqb (v (owner q)) o e) t))

  -- in a sound table the process that is found has the suffix that was asked for, in lower case
  pub with_name : (most o : ℕ) (name : List ℕ) → Sound most v → process_with v o name ≢ 0
      → name_of v (process_with v o name) ≡ folded name
  unfolding good_name
  with_name most o name w h =
      let p = process_with v o name in
      let x = process_with_lem o name h in
      let a = is_name (name_of v p) in
      let b = is_folded (name_of v p) in
      let d = within 3 64 (v (size p)) in
      let e = has_dot (name_of v p) in
      let good = w.names p x.row x.there in
      sym (folded_is (name_of v p) (and_right a b (and_left (a && b) d (and_left (a && b && d) e good))))
      ∙ same_eq (name_of v p) name x.named

  pub record Numbered (n p : ℕ) : Type 0 where
    pub row : Range 1 80 p
    pub there : used v p ≡ true
    pub is : v (number p) ≡ n

  pub process_of_lem : (n : ℕ) → process_of v n ≢ 0 → Numbered n (process_of v n)
  unfolding process_of
  process_of_lem n h =
      let f : ℕ → Bool = λ p. used v p && eqb (v (number p)) n in
      let w = lowest_at 80 f h in
      let p = lowest 80 f in
      record {
        row = w.range;
        there = and_left (used v p) (eqb (v (number p)) n) w.passes;
        is = eqb-true (v (number p)) n (and_right (used v p) (eqb (v (number p)) n) w.passes);
      }

  pub process_found : (p n : ℕ) → Range 1 80 p → used v p ≡ true → v (number p) ≡ n → process_of v n ≢ 0
  unfolding process_of
  process_found p n r u e z =
      let f : ℕ → Bool = λ q. used v q && eqb (v (number q)) n in
      false≢true (sym (lowest_nil 80 f z p r) ∙ and_both (used v p) (eqb (v (number p)) n) u (eq-eqb (v (number p)) n e))
