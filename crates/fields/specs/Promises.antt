-- What this crate promises of its tables, each promise with a sentence above it; the proofs are a line into Laws.
-- Assumes nothing.
use Rattle.std.specs.Prelude.{◌≡◌, true, false, ◌≢◌, List, ℕ, ◌+◌, ◌≤◌, ◌<◌, length}
use Rattle.std.proofs.Common.{sym, subst, ⊎_elim, le_of_eq, le_trans, arith}
use Rattle.terms.specs.Names.{sound_book}
use Rattle.terms.specs.Base.{Range, Bytes}
use Rattle.fields.specs.Base.{sum}
use Rattle.fields.specs.declared.mark.Mark.{Mark}
use Rattle.fields.specs.Table.{selected, opens, serial, row, tabs, last, table_bytes}
use Rattle.fields.specs.Table.{view, most_opens, most_number, sound_table, owner_at}
use Rattle.fields.specs.Table.{process_with, free_slot, free_process, HasSlot, Openable, Closable, TabLive, fresh, opened}
use Rattle.fields.specs.Table.{picked, closed, waits, marked, unmarked}
use Rattle.fields.specs.Inner.{form}
use Rattle.fields.specs.Laws.Each.{same_or}
use Rattle.fields.specs.Laws.Cover.{form_covers, view_ext}
use Rattle.fields.specs.Rule.Layout.{Covered}
use Rattle.fields.specs.Laws.Room.{room, opens_sum_le, last_next}
use Rattle.fields.specs.Laws.Table.{table_facts}
use Rattle.fields.specs.Laws.Can.{numbers_enough}
use Rattle.fields.specs.Laws.Fresh.{fresh_sound}
use Rattle.fields.specs.Laws.Opened.{opened_sound, opened_joins, opened_renews}
use Rattle.fields.specs.Laws.Closed.{closed_sound, closed_leaves, closed_ends}
use Rattle.fields.specs.Laws.Waited.{picked_sound, picked_quiet, marked_sound, marked_quiet, unmarked_sound}
use Rattle.fields.specs.Laws.Waited.{unmarked_quiet}

-- ---- a table is what it shows

-- Every byte of a table belongs to a field.
pub bytes_covered : (n : ℕ) → n < table_bytes → Covered form n
bytes_covered n h = form_covers n h

-- Two tables of bytes that show the same are the same.
pub view_tells : (t u : List ℕ) → length t ≡ table_bytes → length u ≡ table_bytes → Bytes t → Bytes u → view t ≡ view u → t ≡ u
view_tells t u l m b d e = view_ext t u l m b d e

-- ---- a table stays sound

-- A start leaves a sound table.
pub fresh_is_sound : (b : List ℕ) → sound_book b ≡ true → sound_table (fresh b) ≡ true
fresh_is_sound b e = fresh_sound b e

-- So does every update of a sound one.
pub open_sound : (t : List ℕ) (s : ℕ) (suffix : List ℕ) → Openable t s suffix → sound_table (opened t s suffix) ≡ true
open_sound t s suffix w = opened_sound t s suffix w

pub pick_sound : (t : List ℕ) (s k : ℕ) → TabLive t s k → sound_table (picked t s k) ≡ true
pick_sound t s k w = picked_sound t s k w

pub close_sound : (t : List ℕ) (s : ℕ) → Closable t s → sound_table (closed t s) ≡ true
close_sound t s w = closed_sound t s w

pub mark_sound : (t : List ℕ) (s k : ℕ) (m : Mark) → TabLive t s k → waits (view t) s k m ≡ false
    → sound_table (marked t s k m) ≡ true
mark_sound t s k m w e = marked_sound t s k w m e

pub unmark_sound : (t : List ℕ) (s k : ℕ) (m : Mark) → TabLive t s k → waits (view t) s k m ≡ true
    → sound_table (unmarked t s k m) ≡ true
unmark_sound t s k m w e = unmarked_sound t s k w m

-- ---- there is room

-- A sound table with a free slot on some seat has a free process row.
pub row_for_slot : (t : List ℕ) (s : ℕ) → HasSlot t s → free_process (view t) ≢ 0
row_for_slot t s w = room most_opens (view t) s (table_facts t w.sound).shows w.seat w.slot

-- The last process number has a next one.
pub number_left : (t : List ℕ) → sound_table t ≡ true → view t last < most_number
number_left t e =
    let a = last_next most_opens (view t) (table_facts t e).shows in
    let b = numbers_enough in
    omega arith

-- The sum of opens is a number that a process number can reach.
pub opens_fit : (t : List ℕ) → sound_table t ≡ true → sum 8 (λ s. view t (opens s)) < most_number
opens_fit t e =
    let a = opens_sum_le most_opens (view t) (table_facts t e).shows in
    let b = numbers_enough in
    omega arith

-- ---- a serial is given once

-- the serial that an open of seat s gives
abbrev pub given : List ℕ → ℕ → ℕ
given t s = view t (opens s) + 1

-- It is what the new tab gets,
pub open_gives : (t : List ℕ) (s : ℕ) (suffix : List ℕ) → Openable t s suffix
    → view (opened t s suffix) (serial s (free_slot (view t) s)) ≡ given t s
open_gives t s suffix w =
    ⊎_elim (λ z. (opened_renews t s suffix w z).serial!) (λ h. (opened_joins t s suffix w h).serial!)
    (same_or (process_with (view t) (owner_at (view t) s) suffix) 0)

-- no tab of the seat has it,
pub given_new : (t : List ℕ) (s k : ℕ) → sound_table t ≡ true → Range 1 8 s → Range 1 10 k → view t (serial s k) < given t s
given_new t s k e r q = let a = (table_facts t e).shows.serials_fit s k r q in omega arith

-- opens never fall, whatever is done,
abbrev pub Grows : List ℕ → List ℕ → Type 0
Grows t u = (s : ℕ) → view t (opens s) ≤ view u (opens s)

grown : (t u : List ℕ) (s : ℕ) → view t (opens s) ≤ view u (opens s)
    → ((r : ℕ) → r ≢ s → view u (opens r) ≡ view t (opens r)) → Grows t u
grown t u s h g r =
    ⊎_elim (λ (e : r ≡ s). subst (λ (x : ℕ). view t (opens x) ≤ view u (opens x)) (sym e) h)
    (λ (n : r ≢ s). le_of_eq (sym (g r n))) (same_or r s)

pub grows_then : (t u w : List ℕ) → Grows t u → Grows u w → Grows t w
grows_then t u w g h s = le_trans (g s) (h s)

pub open_grows : (t : List ℕ) (s : ℕ) (suffix : List ℕ) → Openable t s suffix → Grows t (opened t s suffix)
open_grows t s suffix w =
    ⊎_elim
    (λ z.
    let x = opened_renews t s suffix w z in
    grown t (opened t s suffix) s (let a = x.opens! in omega arith) x.rest.opens=)
    (λ h.
    let x = opened_joins t s suffix w h in
    grown t (opened t s suffix) s (let a = x.opens! in omega arith) x.rest.opens=)
    (same_or (process_with (view t) (owner_at (view t) s) suffix) 0)

pub close_grows : (t : List ℕ) (s : ℕ) → Closable t s → Grows t (closed t s)
close_grows t s w =
    ⊎_elim
    (λ z. let x = closed_ends t s w z in grown t (closed t s) s (le_of_eq (sym x.opens!)) x.rest.opens=)
    (λ h. let x = closed_leaves t s w h in grown t (closed t s) s (le_of_eq (sym x.opens!)) x.rest.opens=)
    (same_or (view t (tabs (view t (row s (view t (selected s)))))) 1)

pub pick_grows : (t : List ℕ) (s k : ℕ) → TabLive t s k → Grows t (picked t s k)
pick_grows t s k w = let x = picked_quiet t s k w in grown t (picked t s k) s (le_of_eq (sym x.opens=)) x.rest.opens=

pub mark_grows : (t : List ℕ) (s k : ℕ) (m : Mark) → TabLive t s k → waits (view t) s k m ≡ false → Grows t (marked t s k m)
mark_grows t s k m w e =
    let x = marked_quiet t s k w m e in grown t (marked t s k m) s (le_of_eq (sym x.opens=)) x.rest.opens=

pub unmark_grows : (t : List ℕ) (s k : ℕ) (m : Mark) → TabLive t s k → Grows t (unmarked t s k m)
unmark_grows t s k m w =
    let x = unmarked_quiet t s k w m in grown t (unmarked t s k m) s (le_of_eq (sym x.opens=)) x.rest.opens=

-- and so what a later open of that seat gives is another, however many updates lie between. (A new start begins with opens 0.)
pub serial_once : (t u : List ℕ) (s : ℕ) (suffix : List ℕ) → Openable t s suffix → Grows (opened t s suffix) u
    → given t s < given u s
serial_once t u s suffix w g =
    let a = g s in
    ⊎_elim
    (λ z. let b = (opened_renews t s suffix w z).opens! in omega arith)
    (λ h. let b = (opened_joins t s suffix w h).opens! in omega arith)
    (same_or (process_with (view t) (owner_at (view t) s) suffix) 0)
