-- What table/src/find.rt seeks and finds. Assumes nothing.
use Rattle.std.specs.Prelude.{◌≡◌, refl, true, false, not, ◌&&◌, List, ℕ, eqb, leb, Some, None}
use Rattle.std.proofs.Math.Path.{sym}
use Rattle.std.proofs.Common.{ap, ◌∙◌}
use borrow.Author.Tests.{eq-eqb, ne_eqb}
use Rattle.terms.specs.Base.{within, if_any, Range}
use Rattle.terms.specs.Laws.Bools.{cases, fails, within_at}
use Rattle.fields.specs.Rule.View.{View, there, tenant}
use Rattle.fields.specs.Rule.Layout.{view, seat_of_id, serial_of_id}
use Rattle.fields.specs.Rule.Word.{live, used}
use Rattle.fields.specs.Rule.Find.{placed, tab_has, row_has, row_with, slot_of, place_in, tab_of, process_of, process_with, free_process}
use Rattle.fields.specs.Laws.Lowest.{lowest_none, any_none, any_some}
use Rattle.fields.specs.Laws.Each.{in_range}
use Rattle.std.proofs.lemmas.Bool.{false≢true}
use Rattle.fields.specs.Base.{lowest}
use Rattle.fields.specs.Laws.There.{absent, live_there}

-- a seat that is not of the eight shows no tenant
pub let_is : (t : List ℕ) (s : ℕ) → not (eqb (view t (tenant s)) 0) ≡ leb 1 s && leb s 8 && not (eqb (view t (tenant s)) 0)
unfolding there
let_is t s = cases (within 1 8 s) (λ e. rw e) (λ e. rw (e, eq-eqb (view t (tenant s)) 0 (absent t (tenant s) e)))

-- ---- a seat that is let

-- one that is not of the eight shows no tenant
pub unlet : (t : List ℕ) (s : ℕ) → (Range 1 8 s → ⊥) → false ≡ not (eqb (view t (tenant s)) 0)
unfolding there
unlet t s h =
    let none = cases (within 1 8 s) (λ e. absurd (h (within_at 1 8 s e))) (λ e. absent t (tenant s) e) in
    sym (ap not (eq-eqb (view t (tenant s)) 0 none))

module _ (v : View) where
  -- ---- what is sought

  pub slot_is : (s n : ℕ) → slot_of v s n ≡ lowest 10 (λ k. tab_has v s n k)
  unfolding slot_of
  slot_is s n = refl

  pub process_is : (n : ℕ) → process_of v n ≡ lowest 80 (λ p. row_has v n p)
  unfolding process_of
  process_is n = refl

  pub process_with_is : (o : ℕ) (name : List ℕ) → process_with v o name ≡ lowest 80 (λ p. row_with v o name p)
  unfolding process_with
  process_with_is o name = refl

  pub free_process_is : free_process v ≡ lowest 80 (λ p. not (used v p))
  unfolding free_process
  free_process_is = refl

  -- ---- the tab of an id, by its seat and its slot

  tab_place : {s n k : ℕ} (i : ℕ) → s ≡ seat_of_id i → n ≡ serial_of_id i → k ≡ slot_of v s n → place_in s k ≡ tab_of v i
  unfolding tab_of
  tab_place i e f g = rw (g, e, f)

  pub tab_none : {s n : ℕ} (i : ℕ) → s ≡ seat_of_id i → n ≡ serial_of_id i → None ≡ if_any (slot_of v s n) → None ≡ tab_of v i
  unfolding place_in
  tab_none {s} {n} i e f g =
      let z : slot_of v s n ≡ 0 = any_none _ g in
      rw (← tab_place i e f refl, eq-eqb (slot_of v s n) 0 z)

  pub tab_some : {s n k : ℕ} (i : ℕ) → s ≡ seat_of_id i → n ≡ serial_of_id i → Some k ≡ if_any (slot_of v s n)
      → Some (placed s k) ≡ tab_of v i
  unfolding place_in
  tab_some {s} {n} {k} i e f g =
      let q = any_some _ g in
      rw (← tab_place i e f q.0, ne_eqb k 0 q.1)

-- ---- no tab is live in a seat that is not there

module _ (t : List ℕ) where
  slot_none : (s n : ℕ) → ((k : ℕ) → live (view t) s k ≡ true → ⊥) → 0 ≡ slot_of (view t) s n
  unfolding slot_of
  slot_none s n h = sym (lowest_none 10 (λ x. tab_has (view t) s n x) (λ k r. rw (fails (live (view t) s k) (h k))))

  pub tab_out : {s : ℕ} (i : ℕ) → s ≡ seat_of_id i → leb 1 s && leb s 8 ≡ false → None ≡ tab_of (view t) i
  tab_out {s} i e z =
      tab_none (view t) i e refl
      (ap if_any
      (slot_none s (serial_of_id i) (λ k l. false≢true (sym z ∙ in_range (live_there t s k l).0))))
