-- What writes do to a view: a number for a field, a name for the 64 bytes of a process row, one after the other. `view_writes` in
-- Laws.Write proves that a table shows just this after the writes, and `change_here` and `change_else` in Laws.View what a change
-- of one field is. Assumes nothing.
use Rattle.std.specs.Prelude.{Bool, ◌&&◌, cond, List, [], ◌∷◌, ℕ, ◌-◌, eqb, get_or}
use Rattle.terms.specs.Base.{within}
use Rattle.fields.specs.Rule.View.{View, Field, tenant, options, selected, seat_zero, opens, slots, serial, row, waiting}
use Rattle.fields.specs.Rule.View.{number, owner, tabs, size, row_zero, letter, seats_at, rows_at, last}
use Rattle.fields.specs.Rule.Update.{Write, ◌≔◌, name_of_row}

-- fields are told apart by their kind, in the order of Rule.View, and by the two numbers they have at most
unfoldable pub kind : Field → ℕ
kind (tenant s) = 0
kind (options s) = 1
kind (selected s) = 2
kind (seat_zero s) = 3
kind (opens s) = 4
kind (slots s) = 5
kind (serial s k) = 6
kind (row s k) = 7
kind (waiting s k) = 8
kind (number p) = 9
kind (owner p) = 10
kind (tabs p) = 11
kind (size p) = 12
kind (row_zero p) = 13
kind (letter p j) = 14
kind seats_at = 15
kind rows_at = 16
kind last = 17

unfoldable pub major : Field → ℕ
major (tenant s) = s
major (options s) = s
major (selected s) = s
major (seat_zero s) = s
major (opens s) = s
major (slots s) = s
major (serial s k) = s
major (row s k) = s
major (waiting s k) = s
major (number p) = p
major (owner p) = p
major (tabs p) = p
major (size p) = p
major (row_zero p) = p
major (letter p j) = p
major seats_at = 0
major rows_at = 0
major last = 0

unfoldable pub minor : Field → ℕ
minor (tenant s) = 0
minor (options s) = 0
minor (selected s) = 0
minor (seat_zero s) = 0
minor (opens s) = 0
minor (slots s) = 0
minor (serial s k) = k
minor (row s k) = k
minor (waiting s k) = k
minor (number p) = 0
minor (owner p) = 0
minor (tabs p) = 0
minor (size p) = 0
minor (row_zero p) = 0
minor (letter p j) = j
minor seats_at = 0
minor rows_at = 0
minor last = 0

-- the same field
unfoldable pub same_field : Field → Field → Bool
same_field f g = eqb (kind f) (kind g) && eqb (minor f) (minor g) && eqb (major f) (major g)

-- the view with x for one field
unfoldable pub change : View → Field → ℕ → View
change v f x g = cond (same_field f g) x (v g)

-- the view with the first n bytes of row p's room spelling a name
unfoldable pub change_name : View → ℕ → List ℕ → ℕ → View
change_name v p name n g =
    cond (eqb 14 (kind g) && eqb p (major g) && within 1 n (minor g)) (get_or name (minor g - 1) 0) (v g)

unfoldable pub changes : View → List Write → View
changes v [] = v
changes v ((f ≔ x) ∷ ws) = changes (change v f x) ws
changes v (name_of_row p name ∷ ws) = changes (change_name v p name 64) ws
