-- The fields of a table by name, document 01, "Table", whatever bytes they lie in; and a view, which gives each field's number.
-- Seats are 1 to 8, slots 1 to 10, process rows 1 to 80, the places of a name's bytes 1 to 64. Assumes nothing.
use Rattle.std.specs.Prelude.{ℕ, Bool, true, ◌&&◌}
use Rattle.terms.specs.Base.{within}

pub data Field : Type 0 where
  -- a seat's: the letting, the selected slot, its zero byte, opens, the map of occupied slots
  tenant options selected seat_zero opens slots : (s : ℕ) → Field
  -- a tab row's, by seat and slot: serial (0 = free), process row, waiting
  serial row waiting : (s k : ℕ) → Field
  -- a process row's: number (0 = free), owner, tabs, name length, its zero byte
  number owner tabs size row_zero : (p : ℕ) → Field
  -- a byte of the room for its name
  letter : (p j : ℕ) → Field
  -- the trailer's: offset of seats, offset of processes, last process number
  seats_at rows_at last : Field

-- the numbers of all fields
abbrev pub View : Type 0
View = Field → ℕ

-- there is such a seat, slot, process row, place
unfoldable pub there : Field → Bool
there (tenant s) = within 1 8 s
there (options s) = within 1 8 s
there (selected s) = within 1 8 s
there (seat_zero s) = within 1 8 s
there (opens s) = within 1 8 s
there (slots s) = within 1 8 s
there (serial s k) = within 1 8 s && within 1 10 k
there (row s k) = within 1 8 s && within 1 10 k
there (waiting s k) = within 1 8 s && within 1 10 k
there (number p) = within 1 80 p
there (owner p) = within 1 80 p
there (tabs p) = within 1 80 p
there (size p) = within 1 80 p
there (row_zero p) = within 1 80 p
there (letter p j) = within 1 80 p && within 1 64 j
there seats_at = true
there rows_at = true
there last = true
