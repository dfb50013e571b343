-- Live processes by their numbers: what is live has a number that is live and the other way round, and what becomes of the live
-- numbers at each update. Assumes nothing.
use Rattle.std.specs.Prelude.{ℕ, ◌+◌, ◌≡◌, refl, true, false, not, ◌≢◌, List, eqb}
use Rattle.std.proofs.Common.{sym, ap, ◌∙◌, arith, ne_eqb}
use Rattle.std.proofs.lemmas.Bool.{false≢true, eqb-false, not-true}
use Rattle.terms.specs.Names.{sound_book}
use Rattle.terms.specs.Laws.Bools.{agree, fails}
use Rattle.fields.specs.Table.{selected, row, number, tabs, last, view, sound_table, used, owner_at, process_of, process_with}
use Rattle.fields.specs.Table.{free_process, Openable, Closable, opened, closed, fresh}
use Rattle.fields.specs.Laws.Sound.{zero_unused}
use Rattle.fields.specs.Laws.There.{used_there}
use Rattle.fields.specs.Laws.Asked.{live_used, selected_tab}
use Rattle.fields.specs.Laws.Find.{process_of_lem, process_found}
use Rattle.fields.specs.Laws.Fresh.{fresh_fields}
use Rattle.rules.specs.Rule.Ids.{process_live}
use Rattle.rules.proofs.Time.Rows.{SameRow, number_apart, number_fits_lem, NewRow, renewed_rows, ended_row, ended_others}
use Rattle.rules.proofs.Time.Moves.{Flips}

-- ---- numbers and rows

-- what is live is found by its number
pub number_live : (t : List ℕ) (p n : ℕ) → used (view t) p ≡ true → view t (number p) ≡ n → process_live t n ≡ true
unfolding process_live
number_live t p n u e =
    ap not (ne_eqb (process_of (view t) n) 0 (process_found (view t) p n (used_there t p u) u e))

-- the live process of a number
pub record Process (t : List ℕ) (n : ℕ) : Type 0 where
  pub row : ℕ
  pub there : used (view t) row ≡ true
  pub is : view t (number row) ≡ n

pub process_there : (t : List ℕ) (n : ℕ) → process_live t n ≡ true → Process t n
unfolding process_live
process_there t n h =
    let p = process_of (view t) n in
    let w = process_of_lem (view t) n (eqb-false p 0 (not-true (eqb p 0) h)) in
    record { row = p; there = w.there; is = w.is }

-- ---- tables that agree on a number

module _ (t u : List ℕ) (n : ℕ) where
  pub process_same : ((p : ℕ) → used (view u) p ≡ true → view u (number p) ≡ n → SameRow t u p)
      → ((p : ℕ) → used (view t) p ≡ true → view t (number p) ≡ n → SameRow t u p)
      → process_live u n ≡ process_live t n
  process_same back on =
      agree (process_live u n) (process_live t n)
      (λ h.
      let w = process_there u n h in
      let z = back w.row w.there w.is in
      number_live t w.row n (sym z.used= ∙ w.there) (sym z.number= ∙ w.is))
      (λ h.
      let w = process_there t n h in
      let z = on w.row w.there w.is in
      number_live u w.row n (z.used= ∙ w.there) (z.number= ∙ w.is))

-- where every row stays, every number is as it was
pub rows_same : (t u : List ℕ) → ((p : ℕ) → SameRow t u p) → (n : ℕ) → process_live u n ≡ process_live t n
rows_same t u w n = process_same t u n (λ p a b. w p) (λ p a b. w p)

-- ---- a fresh table

pub fresh_idle : (b : List ℕ) → sound_book b ≡ true → (n : ℕ) → process_live (fresh b) n ≡ false
fresh_idle b e n =
    fails (process_live (fresh b) n) (λ h.
    let w = process_there (fresh b) n h in
    false≢true (sym (zero_unused (view (fresh b)) w.row ((fresh_fields b e).number0 w.row)) ∙ w.there))

-- ---- a process begins

renewed_turn : (t u : List ℕ) (s : ℕ) (x : List ℕ) (p : ℕ) → sound_table t ≡ true → NewRow t u s x p
    → Flips process_live t u (view t last + 1) false true
renewed_turn t u s x p e w =
    record {
      before =
          fails (process_live t (view t last + 1)) (λ h.
          let z = process_there t (view t last + 1) h in
          let a = number_fits_lem t z.row e z.there in
          let b = z.is in
          omega arith);
      after = number_live u p (view t last + 1) w.there w.number!;
      others = λ n h.
          process_same t u n
          (λ q a b.
          w.others q (λ (y : q ≡ p). h (sym b ∙ ap (λ (z : ℕ). view u (number z)) y ∙ w.number!)))
          (λ q a b. w.others q (λ (y : q ≡ p). false≢true (sym w.was_free ∙ ap (used (view t)) (sym y) ∙ a)));
    }

pub renewed_turns : (t : List ℕ) (s : ℕ) (x : List ℕ) → Openable t s x → process_with (view t) (owner_at (view t) s) x ≡ 0
    → Flips process_live t (opened t s x) (view t last + 1) false true
renewed_turns t s x w z = renewed_turn t (opened t s x) s x (free_process (view t)) w.sound (renewed_rows t s x w z)

-- ---- a process ends

module _ (t u : List ℕ) (p : ℕ) (e : sound_table t ≡ true) (was : used (view t) p ≡ true) (gone : used (view u) p ≡ false)
    (rest : (q : ℕ) → q ≢ p → SameRow t u q) where
  -- what is live afterwards is another
  left_other : (q : ℕ) → used (view u) q ≡ true → q ≢ p
  left_other q a y = false≢true (sym gone ∙ ap (used (view u)) (sym y) ∙ a)

  ended_dead : process_live u (view t (number p)) ≡ true → ⊥
  ended_dead h =
      let z = process_there u (view t (number p)) h in
      let q = z.row in
      let d = left_other q z.there in
      let r = rest q d in
      d (number_apart t q p e (sym r.used= ∙ z.there) was (sym r.number= ∙ z.is))

  ended_turn : Flips process_live t u (view t (number p)) true false
  ended_turn =
      record {
        before = number_live t p (view t (number p)) was refl;
        after = fails (process_live u (view t (number p))) ended_dead;
        others = λ n h.
            process_same t u n (λ q a b. rest q (left_other q a))
            (λ q a b. rest q (λ (y : q ≡ p). h (sym b ∙ ap (λ (z : ℕ). view t (number z)) y)));
      }

pub ended_turns : (t : List ℕ) (s : ℕ) → Closable t s → view t (tabs (view t (row s (view t (selected s))))) ≡ 1
    → Flips process_live t (closed t s) (view t (number (view t (row s (view t (selected s)))))) true false
ended_turns t s w z =
    ended_turn t (closed t s) (view t (row s (view t (selected s)))) w.sound (live_used (selected_tab w))
    (ended_row t s w z) (ended_others t s w z)
