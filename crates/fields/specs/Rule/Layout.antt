-- Where the fields lie in the bytes, document 01, "Table, exactly 6,152 bytes". The numbers of this file are known to no other
-- file but its laws and `src/layout.rt`: whatever else is said of a table is said of its view. Assumes nothing.
use Rattle.std.specs.Prelude.{ℕ, ◌+◌, ◌-◌, ◌*◌, ◌/◌, ◌%◌, ◌<◌, Bool, ◌&&◌, cond, true, List, eqb, ◌≡◌}
use Rattle.terms.specs.Names.{num, put}
use Rattle.fields.specs.Rule.View.{View, Field, there, tenant, options, selected, seat_zero, opens, slots, serial, row}
use Rattle.fields.specs.Rule.View.{waiting, number, owner, tabs, size, row_zero, letter, seats_at, rows_at, last}

-- ---- any layout

pub record Layout : Type 0 where
  -- the table's length
  pub bytes : ℕ
  -- where a field begins, and how many bytes it has
  pub at : Field → ℕ
  pub width : Field → ℕ
  -- the largest opens
  pub most : ℕ
  -- what the trailer says of where the process rows begin
  pub rows_begin : ℕ

-- what a table shows by a layout: 0 for a field that is not there
unfoldable pub view_by : Layout → List ℕ → View
view_by l t f = cond (there f) (num t (l.at f) (l.width f)) 0

-- the table with x in a field
unfoldable pub write_by : Layout → List ℕ → Field → ℕ → List ℕ
write_by l t f x = put t (l.at f) (l.width f) x

-- "both offsets as given"
unfoldable pub offsets_given : Layout → View → Bool
offsets_given l v = eqb (v seats_at) 0 && eqb (v rows_at) l.rows_begin

-- ---- the document's

-- "Eight seats of 48 bytes"
unfoldable pub seat_at : ℕ → ℕ
seat_at s = 48 * (s - 1)

-- ".. ten tab rows of 4"
unfoldable pub tab_at : ℕ → ℕ → ℕ
tab_at s k = 48 * (s - 1) + 8 + 4 * (k - 1)

-- "80 process rows of 72"
unfoldable pub row_at : ℕ → ℕ
row_at p = 384 + 72 * (p - 1)

unfoldable pub form_at : Field → ℕ
form_at (tenant s) = seat_at s
form_at (options s) = seat_at s + 1
form_at (selected s) = seat_at s + 2
form_at (seat_zero s) = seat_at s + 3
form_at (opens s) = seat_at s + 4
form_at (slots s) = seat_at s + 6
form_at (serial s k) = tab_at s k
form_at (row s k) = tab_at s k + 2
form_at (waiting s k) = tab_at s k + 3
form_at (number p) = row_at p
form_at (owner p) = row_at p + 4
form_at (tabs p) = row_at p + 5
form_at (size p) = row_at p + 6
form_at (row_zero p) = row_at p + 7
form_at (letter p j) = row_at p + 8 + (j - 1)
form_at seats_at = 6144
form_at rows_at = 6146
form_at last = 6148

unfoldable pub form_width : Field → ℕ
form_width (tenant s) = 1
form_width (options s) = 1
form_width (selected s) = 1
form_width (seat_zero s) = 1
form_width (opens s) = 2
form_width (slots s) = 2
form_width (serial s k) = 2
form_width (row s k) = 1
form_width (waiting s k) = 1
form_width (number p) = 4
form_width (owner p) = 1
form_width (tabs p) = 1
form_width (size p) = 1
form_width (row_zero p) = 1
form_width (letter p j) = 1
form_width seats_at = 2
form_width rows_at = 2
form_width last = 4

unfoldable pub form : Layout
form = record { bytes = 6152; at = form_at; width = form_width; most = 65535; rows_begin = 384 }

unfoldable pub table_bytes : ℕ
table_bytes = form.bytes

unfoldable pub most_opens : ℕ
most_opens = form.most

-- the largest process number, "number (4 ..)"
unfoldable pub most_number : ℕ
most_number = 4294967295

unfoldable pub view : List ℕ → View
view t = view_by form t

unfoldable pub write : List ℕ → Field → ℕ → List ℕ
write t f x = write_by form t f x

-- "Tab id = seat x 65,536 + serial"
unfoldable pub tab_id : ℕ → ℕ → ℕ
tab_id s n = s * 65536 + n

unfoldable pub seat_of_id : ℕ → ℕ
seat_of_id i = i / 65536

unfoldable pub serial_of_id : ℕ → ℕ
serial_of_id i = i % 65536

-- the byte at place n is one of a field that is there
pub record Covered (l : Layout) (n : ℕ) : Type 0 where
  pub field : Field
  pub is : there field ≡ true
  pub nth : ℕ
  pub inside : nth < l.width field
  pub place : l.at field + nth ≡ n
