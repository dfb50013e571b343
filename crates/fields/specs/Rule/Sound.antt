-- Sound, document 01, "Table": the clauses said of all seats, tab rows and process rows, a definition for each part of the
-- document's sentence. Assumes nothing.
use Rattle.std.specs.Prelude.{ℕ, Bool, ◌&&◌, List, eqb, length}
use Rattle.fields.specs.Base.{each, no_two}
use Rattle.fields.specs.Rule.View.{View}
use Rattle.fields.specs.Rule.Layout.{Layout, view_by, offsets_given, form}
use Rattle.fields.specs.Rule.Clause.{seat_in_range, opens_in_range, tab_in_range, seat_spare, row_spare, let_or_empty, live_or_empty}
use Rattle.fields.specs.Rule.Clause.{used_or_empty, filled, map_agrees, selected_live, same_serial, serial_fits, hangs, counted}
use Rattle.fields.specs.Rule.Clause.{has_tab, same_number, number_fits, last_fits, name_formed, same_pair}

-- "every field in range (..)"
unfoldable pub fields_in_range : ℕ → View → Bool
fields_in_range most v =
    each 8 (λ s. seat_in_range v s) && each 8 (λ s. opens_in_range most v s) && each 8 (λ s. each 10 (λ k. tab_in_range v s k))

-- "zero bytes, seats not let, free rows and the fill after a name zero"
unfoldable pub spares_zero : View → Bool
spares_zero v =
    each 8 (λ s. seat_spare v s) && each 80 (λ p. row_spare v p) && each 8 (λ s. let_or_empty v s)
    && each 8 (λ s. each 10 (λ k. live_or_empty v s k)) && each 80 (λ p. used_or_empty v p) && each 80 (λ p. filled v p)

-- "the map agrees with the rows and bits 10 to 15 are zero; selected is 0 or live"
unfoldable pub maps_agree : View → Bool
maps_agree v = each 8 (λ s. map_agrees v s) && each 8 (λ s. selected_live v s)

-- "live serials of a seat are distinct and at most opens"
unfoldable pub serials_apart : View → Bool
serials_apart v = each 8 (λ s. no_two 10 (λ i k. same_serial v s i k)) && each 8 (λ s. each 10 (λ k. serial_fits v s k))

-- "every live tab points at a live process row of its seat's owner"
unfoldable pub tabs_hang : View → Bool
tabs_hang v = each 8 (λ s. each 10 (λ k. hangs v s k))

-- "every process row's tab count is the number of live tabs pointing at it, 1 or more if live"
unfoldable pub counts_true : View → Bool
counts_true v = each 80 (λ p. counted v p) && each 80 (λ p. has_tab v p)

-- "live numbers are distinct and at most the last number, which is at most the sum of opens"
unfoldable pub numbers_apart : View → Bool
numbers_apart v = no_two 80 (λ q p. same_number v q p) && each 80 (λ p. number_fits v p) && last_fits v

-- "live names are well formed, folded, of 3 to 64 bytes, with at least one dot"
unfoldable pub names_formed : View → Bool
names_formed v = each 80 (λ p. name_formed v p)

-- "no two live rows have equal owner and name"
unfoldable pub pairs_apart : View → Bool
pairs_apart v = no_two 80 (λ q p. same_pair v q p)

unfoldable pub sound : ℕ → View → Bool
sound most v =
    fields_in_range most v && spares_zero v && maps_agree v && serials_apart v && tabs_hang v && counts_true v && numbers_apart v
    && names_formed v && pairs_apart v

-- a table by a layout: its length, its offsets, and what it shows
unfoldable pub sound_by : Layout → List ℕ → Bool
sound_by l t = eqb (length t) l.bytes && offsets_given l (view_by l t) && sound l.most (view_by l t)

unfoldable pub sound_table : List ℕ → Bool
sound_table t = sound_by form t
