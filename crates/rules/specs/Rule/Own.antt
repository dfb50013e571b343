-- Who can change what: a tab is started and stopped by its own seat alone, and a seat's event leaves alone what is another's.
-- Assumes nothing.
use Rattle.std.specs.Prelude.{ℕ, ◌≡◌, true, ◌≢◌, List, get_or}
use Rattle.fields.specs.Table.{View, Field, tenant, options, selected, seat_zero, opens, slots, serial, row, waiting, number}
use Rattle.fields.specs.Table.{owner, tabs, size, row_zero, letter, seats_at, rows_at, last, view, seat_of_id, used, owner_at}
use Rattle.rules.specs.Sheet.{Frame}
use Rattle.rules.specs.Rule.Call.{Call, table, event, actions, left, Past, party_of, id_of, tag_of, Every, given}

-- A tab is started by an open of the seat in its id,
pub record ByOpen (c : Call) (a : Frame) : Type 0 where
  pub by_seat : party_of (event c) ≡ 1
  pub opens : tag_of (event c) ≡ 3
  pub own : id_of (event c) ≡ seat_of_id a.id

abbrev pub OwnOpens : List Call → Type 0
OwnOpens cs = (c : Call) (earlier : List Call) → Past c earlier cs → Every (ByOpen c) (given 5 1 (actions c))

-- and stopped by F12 of that seat.
pub record ByClose (c : Call) (a : Frame) : Type 0 where
  pub by_seat : party_of (event c) ≡ 1
  pub key : tag_of (event c) ≡ 1
  pub f12 : get_or (event c) 10 0 ≡ 25
  pub own : id_of (event c) ≡ seat_of_id a.id

abbrev pub OwnCloses : List Call → Type 0
OwnCloses cs = (c : Call) (earlier : List Call) → Past c earlier cs → Every (ByClose c) (given 5 2 (actions c))

-- A field that is another's, as seat s sees it: of another seat's record, of a live process row of another owner, and where
-- the records begin.
pub record Foreign (v : View) (s p : ℕ) : Type 0 where
  pub there : used v p ≡ true
  pub other : v (owner p) ≢ owner_at v s

unfoldable pub Anothers : View → ℕ → Field → Type 0
Anothers v s (tenant r) = r ≢ s
Anothers v s (options r) = r ≢ s
Anothers v s (selected r) = r ≢ s
Anothers v s (seat_zero r) = r ≢ s
Anothers v s (opens r) = r ≢ s
Anothers v s (slots r) = r ≢ s
Anothers v s (serial r k) = r ≢ s
Anothers v s (row r k) = r ≢ s
Anothers v s (waiting r k) = r ≢ s
Anothers v s (number p) = Foreign v s p
Anothers v s (owner p) = Foreign v s p
Anothers v s (tabs p) = Foreign v s p
Anothers v s (size p) = Foreign v s p
Anothers v s (row_zero p) = Foreign v s p
Anothers v s (letter p j) = Foreign v s p
Anothers v s seats_at = Unit {0}
Anothers v s rows_at = Unit {0}
Anothers v s last = ⊥

-- A seat's event changes none of them.
abbrev pub OwnRecord : List Call → Type 0
OwnRecord cs =
    (c : Call) (earlier : List Call) → Past c earlier cs → party_of (event c) ≡ 1 → (f : Field)
    → Anothers (view (table c)) (id_of (event c)) f → view (left c) f ≡ view (table c) f

pub record Own (cs : List Call) : Type 0 where
  pub opens : OwnOpens cs
  pub closes : OwnCloses cs
  pub record! : OwnRecord cs
