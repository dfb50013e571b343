-- What sound means, document 01, "Table": clause by clause in the document's order, each said of one seat, tab row or process
-- row of a view. Assumes nothing.
use Rattle.std.specs.Prelude.{ℕ, Bool, not, ◌&&◌, ◌||◌, leb, eqb}
use Rattle.terms.specs.Base.{within}
use Rattle.terms.specs.Names.{is_name, is_folded, has_dot, same, legal_options}
use Rattle.fields.specs.Base.{each, sum, bits}
use Rattle.fields.specs.Rule.View.{View, tenant, options, selected, seat_zero, opens, slots, serial, row, waiting, number}
use Rattle.fields.specs.Rule.View.{owner, tabs, size, row_zero, letter, last}
use Rattle.fields.specs.Rule.Word.{live, used, owner_at, name_of, pointing}

-- ---- "every field in range (tenant 0 to 99, separate 0 or 1, selected 0 to 10, waiting 0 to 3 ..)"

unfoldable pub seat_in_range : View → ℕ → Bool
seat_in_range v s = leb (v (tenant s)) 99 && legal_options (v (options s)) && leb (v (selected s)) 10

-- as many as its bytes can say
unfoldable pub opens_in_range : ℕ → View → ℕ → Bool
opens_in_range most v s = leb (v (opens s)) most

unfoldable pub tab_in_range : View → ℕ → ℕ → Bool
tab_in_range v s k = leb (v (waiting s k)) 3

-- ---- "zero bytes, seats not let, free rows and the fill after a name zero"

unfoldable pub seat_spare : View → ℕ → Bool
seat_spare v s = eqb (v (seat_zero s)) 0

unfoldable pub row_spare : View → ℕ → Bool
row_spare v p = eqb (v (row_zero p)) 0

unfoldable pub empty_tab : View → ℕ → ℕ → Bool
empty_tab v s k = eqb (v (serial s k)) 0 && eqb (v (row s k)) 0 && eqb (v (waiting s k)) 0

-- the whole record but its zero byte, which is zero in every seat
unfoldable pub empty_seat : View → ℕ → Bool
empty_seat v s =
    eqb (v (options s)) 0 && eqb (v (selected s)) 0 && eqb (v (opens s)) 0 && eqb (v (slots s)) 0
    && each 10 (λ k. empty_tab v s k)

-- a seat that is not let is empty
unfoldable pub let_or_empty : View → ℕ → Bool
let_or_empty v s = not (eqb (v (tenant s)) 0) || empty_seat v s

-- a tab row that is free is empty
unfoldable pub live_or_empty : View → ℕ → ℕ → Bool
live_or_empty v s k = live v s k || empty_tab v s k

-- a free process row has no owner and no name, and no tabs: the bytes of its name are fill
unfoldable pub empty_row : View → ℕ → Bool
empty_row v p = eqb (v (owner p)) 0 && eqb (v (size p)) 0

unfoldable pub used_or_empty : View → ℕ → Bool
used_or_empty v p = used v p || (empty_row v p && eqb (v (tabs p)) 0)

unfoldable pub filled : View → ℕ → Bool
filled v p = each 64 (λ j. leb j (v (size p)) || eqb (v (letter p j)) 0)

-- ---- "the map agrees with the rows and bits 10 to 15 are zero; selected is 0 or live"

unfoldable pub map_agrees : View → ℕ → Bool
map_agrees v s = eqb (v (slots s)) (bits 10 (λ k. live v s k))

unfoldable pub selected_live : View → ℕ → Bool
selected_live v s = eqb (v (selected s)) 0 || live v s (v (selected s))

-- ---- "live serials of a seat are distinct and at most opens"

unfoldable pub same_serial : View → ℕ → ℕ → ℕ → Bool
same_serial v s i k = live v s k && eqb (v (serial s i)) (v (serial s k))

unfoldable pub serial_fits : View → ℕ → ℕ → Bool
serial_fits v s k = leb (v (serial s k)) (v (opens s))

-- ---- "every live tab points at a live process row of its seat's owner"

unfoldable pub hangs : View → ℕ → ℕ → Bool
hangs v s k = not (live v s k) || (used v (v (row s k)) && eqb (v (owner (v (row s k)))) (owner_at v s))

-- ---- "every process row's tab count is the number of live tabs pointing at it, 1 or more if live"

unfoldable pub counted : View → ℕ → Bool
counted v p = eqb (v (tabs p)) (pointing v p)

unfoldable pub has_tab : View → ℕ → Bool
has_tab v p = not (used v p) || leb 1 (v (tabs p))

-- ---- "live numbers are distinct and at most the last number, which is at most the sum of opens"

unfoldable pub same_number : View → ℕ → ℕ → Bool
same_number v q p = used v p && eqb (v (number q)) (v (number p))

unfoldable pub number_fits : View → ℕ → Bool
number_fits v p = leb (v (number p)) (v last)

unfoldable pub last_fits : View → Bool
last_fits v = leb (v last) (sum 8 (λ s. v (opens s)))

-- ---- "live names are well formed, folded, of 3 to 64 bytes, with at least one dot"

unfoldable pub good_name : View → ℕ → Bool
good_name v p = is_name (name_of v p) && is_folded (name_of v p) && within 3 64 (v (size p)) && has_dot (name_of v p)

unfoldable pub name_formed : View → ℕ → Bool
name_formed v p = not (used v p) || good_name v p

-- ---- "no two live rows have equal owner and name"

unfoldable pub same_pair : View → ℕ → ℕ → Bool
same_pair v q p = used v q && used v p && eqb (v (owner q)) (v (owner p)) && same (name_of v q) (name_of v p)

-- ---- a row well formed in itself: its tab count, zero byte and fill apart, and whatever other rows say

unfoldable pub tab_formed : View → ℕ → ℕ → Bool
tab_formed v s k = tab_in_range v s k && live_or_empty v s k && serial_fits v s k

unfoldable pub row_formed : View → ℕ → Bool
row_formed v p = (used v p || empty_row v p) && number_fits v p && name_formed v p
