-- What becomes of the process rows of a sound table at each update. Assumes nothing.
use Rattle.std.specs.Prelude.{ℕ, ◌+◌, ◌≤◌, ◌<◌, ◌≡◌, true, false, ◌≢◌, List}
use Rattle.std.proofs.Common.{sym, ⊎_elim, arith}
use Rattle.terms.specs.Names.{folded}
use Rattle.fields.specs.Table.{tenant, options, selected, opens, row, number, owner, tabs, last, view, sound_table, used}
use Rattle.fields.specs.Table.{owner_at, name_of, process_with, free_process, Openable, Closable, TabLive, opened, picked, closed}
use Rattle.fields.specs.Table.{waits, marked, unmarked}
use Rattle.fields.specs.declared.mark.Mark.{Mark}
use Rattle.fields.specs.Promises.{row_for_slot}
use Rattle.fields.specs.Laws.Each.{at_or, less, same_or}
use Rattle.fields.specs.Laws.Sound.{used_of, zero_unused}
use Rattle.fields.specs.Laws.Table.{table_facts}
use Rattle.fields.specs.Laws.There.{used_there}
use Rattle.fields.specs.Laws.Asked.{open_slot}
use Rattle.fields.specs.Laws.Find.{free_process_lem}
use Rattle.fields.specs.Laws.Seats.{Changed}
use Rattle.fields.specs.Laws.Rows.{KeptRow, used=, name=}
use Rattle.fields.specs.Laws.Quiet.{Quiet}
use Rattle.fields.specs.Laws.Opened.{opened_joins, opened_renews}
use Rattle.fields.specs.Laws.Closed.{closed_leaves, closed_ends}
use Rattle.fields.specs.Laws.Waited.{picked_quiet, marked_quiet, unmarked_quiet}

-- a process row that is as it was, but perhaps for its count
pub record SameRow (t u : List ℕ) (p : ℕ) : Type 0 where
  pub used= : used (view u) p ≡ used (view t) p
  pub number= : view u (number p) ≡ view t (number p)
  pub owner= : view u (owner p) ≡ view t (owner p)
  pub name= : name_of (view u) p ≡ name_of (view t) p

-- it is, where the table says so of its fields
same_row : {t u : List ℕ} {p : ℕ} → KeptRow (view t) (view u) p → SameRow t u p
same_row {t} {u} {p} w =
    record {
      used= = used= (view t) (view u) p w;
      number= = w.number=;
      owner= = w.owner=;
      name= = name= (view t) (view u) p w;
    }

-- letting, opens and last number as they were
pub record SameHeads (t u : List ℕ) : Type 0 where
  pub tenant= : (r : ℕ) → view u (tenant r) ≡ view t (tenant r)
  pub options= : (r : ℕ) → view u (options r) ≡ view t (options r)
  pub opens= : (r : ℕ) → view u (opens r) ≡ view t (opens r)
  pub last= : view u last ≡ view t last

-- no two live processes have one number, and none is above the last
pub number_apart : (t : List ℕ) (p q : ℕ) → sound_table t ≡ true → used (view t) p ≡ true → used (view t) q ≡ true
    → view t (number p) ≡ view t (number q) → p ≡ q
number_apart t p q e u v h =
    let w = (table_facts t e).shows in
    let a = used_there t p u in
    let b = used_there t q v in
    ⊎_elim (λ (z : p ≡ q). z)
    (λ (n : p ≢ q).
    ⊎_elim (λ (l : p < q). absurd (w.numbers_apart p q a.low l b.high v h))
    (λ (l : q < p). absurd (w.numbers_apart q p b.low l a.high u (sym h)))
    (less p q n))
    (same_or p q)

pub number_fits_lem : (t : List ℕ) (p : ℕ) → sound_table t ≡ true → used (view t) p ≡ true → view t (number p) ≤ view t last
number_fits_lem t p e u = (table_facts t e).shows.numbers_fit p (used_there t p u)

-- ---- open

pub record OpenHeads (t u : List ℕ) (s : ℕ) : Type 0 where
  pub tenant= : (r : ℕ) → view u (tenant r) ≡ view t (tenant r)
  pub options= : (r : ℕ) → view u (options r) ≡ view t (options r)
  pub opens! : view u (opens s) ≡ view t (opens s) + 1
  pub opens= : (r : ℕ) → r ≢ s → view u (opens r) ≡ view t (opens r)

open_heads : {t u : List ℕ} {s k : ℕ} → Changed (view t) (view u) s k → view u (opens s) ≡ view t (opens s) + 1
    → OpenHeads t u s
open_heads w e = record { tenant= = w.tenant=; options= = w.options=; opens! = e; opens= = w.opens= }

pub opened_heads : (t : List ℕ) (s : ℕ) (x : List ℕ) → Openable t s x → OpenHeads t (opened t s x) s
opened_heads t s x w =
    ⊎_elim
    (λ z. let a = opened_renews t s x w z in open_heads a.rest a.opens!)
    (λ h. let a = opened_joins t s x w h in open_heads a.rest a.opens!)
    (same_or (process_with (view t) (owner_at (view t) s) x) 0)

pub joined_last : (t : List ℕ) (s : ℕ) (x : List ℕ) → Openable t s x → process_with (view t) (owner_at (view t) s) x ≢ 0
    → view (opened t s x) last ≡ view t last
joined_last t s x w h = (opened_joins t s x w h).rows.last=

-- a tab joins: every row stays
pub joined_rows : (t : List ℕ) (s : ℕ) (x : List ℕ) → Openable t s x → process_with (view t) (owner_at (view t) s) x ≢ 0
    → (p : ℕ) → SameRow t (opened t s x) p
joined_rows t s x w h p = same_row ((opened_joins t s x w h).rows.same p)

-- a process begins, in row p
pub record NewRow (t u : List ℕ) (s : ℕ) (x : List ℕ) (p : ℕ) : Type 0 where
  pub was_free : used (view t) p ≡ false
  pub there : used (view u) p ≡ true
  pub number! : view u (number p) ≡ view t last + 1
  pub owner! : view u (owner p) ≡ owner_at (view t) s
  pub name! : name_of (view u) p ≡ folded x
  pub last! : view u last ≡ view t last + 1
  pub others : (q : ℕ) → q ≢ p → SameRow t u q

pub renewed_rows : (t : List ℕ) (s : ℕ) (x : List ℕ) → Openable t s x → process_with (view t) (owner_at (view t) s) x ≡ 0
    → NewRow t (opened t s x) s x (free_process (view t))
renewed_rows t s x w h =
    let a = opened_renews t s x w h in
    let p = free_process (view t) in
    record {
      was_free = (free_process_lem (view t) (row_for_slot t s (open_slot w))).free;
      there = used_of (view (opened t s x)) p (λ z. let n = a.number! in omega arith);
      number! = a.number!;
      owner! = a.owner!;
      name! = a.name!;
      last! = a.last!;
      others = λ q n. same_row (a.others q n);
    }

-- ---- close

-- a seat's opens too are as they were
same_heads : {t u : List ℕ} {s k : ℕ} → Changed (view t) (view u) s k → view u (opens s) ≡ view t (opens s)
    → view u last ≡ view t last
    → SameHeads t u
same_heads {t} {u} {s} w e l =
    record {
      tenant= = w.tenant=;
      options= = w.options=;
      opens= = λ r. at_or (λ r. view u (opens r) ≡ view t (opens r)) r s e (w.opens= r);
      last= = l;
    }

module _ (t : List ℕ) (s : ℕ) (w : Closable t s) where
  pub closed_heads : SameHeads t (closed t s)
  closed_heads =
      ⊎_elim
      (λ z. let a = closed_ends t s w z in same_heads a.rest a.opens! a.last=)
      (λ h. let a = closed_leaves t s w h in same_heads a.rest a.opens! a.rows.last=)
      (same_or (view t (tabs (view t (row s (view t (selected s)))))) 1)

  -- the process stays for other tabs
  pub left_rows : view t (tabs (view t (row s (view t (selected s))))) ≢ 1 → (p : ℕ) → SameRow t (closed t s) p
  left_rows h p = same_row ((closed_leaves t s w h).rows.same p)

  -- it was its last tab
  pub ended_row : view t (tabs (view t (row s (view t (selected s))))) ≡ 1
      → used (view (closed t s)) (view t (row s (view t (selected s)))) ≡ false
  ended_row h = zero_unused (view (closed t s)) (view t (row s (view t (selected s)))) (closed_ends t s w h).gone_row.number0

  pub ended_others : view t (tabs (view t (row s (view t (selected s))))) ≡ 1
      → (q : ℕ) → q ≢ view t (row s (view t (selected s)))
      → SameRow t (closed t s) q
  ended_others h q n = same_row ((closed_ends t s w h).others q n)

-- ---- updates of one live tab: every row stays

pub record RowsStay (t u : List ℕ) : Type 0 where
  pub heads : SameHeads t u
  pub rows : (p : ℕ) → SameRow t u p

rows_stay : {t u : List ℕ} {s k : ℕ} → Quiet (view t) (view u) s k → RowsStay t u
rows_stay w = record { heads = same_heads w.rest w.opens= w.rows.last=; rows = λ p. same_row (w.rows.same p) }

pub picked_rows : (t : List ℕ) (s k : ℕ) → TabLive t s k → RowsStay t (picked t s k)
picked_rows t s k w = rows_stay (picked_quiet t s k w)

pub marked_rows : (t : List ℕ) (s k : ℕ) (m : Mark) → TabLive t s k → waits (view t) s k m ≡ false → RowsStay t (marked t s k m)
marked_rows t s k m w e = rows_stay (marked_quiet t s k w m e)

pub unmarked_rows : (t : List ℕ) (s k : ℕ) (m : Mark) → TabLive t s k → RowsStay t (unmarked t s k m)
unmarked_rows t s k m w = rows_stay (unmarked_quiet t s k w m)
