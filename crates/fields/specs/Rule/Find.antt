-- What is looked up in a table, document 01, "Rules of a step" and "Numbers given back": the tab of an id, the process of a
-- number, the process of an owner and a suffix, the lowest free slot and process row. 0 says that there is none. Assumes nothing.
use Rattle.std.specs.Prelude.{ℕ, Bool, not, ◌&&◌, cond, List, eqb, Option, Some, None}
use Rattle.terms.specs.Names.{same}
use Rattle.fields.specs.Base.{count, lowest}
use Rattle.fields.specs.Rule.View.{View, serial, number, owner}
use Rattle.fields.specs.Rule.Layout.{seat_of_id, serial_of_id}
use Rattle.fields.specs.Rule.Word.{live, used, name_of}
use Rattle.fields.specs.declared.place.Place.{Place}

-- what is sought: a live tab with a serial, a live process with a number, a live process of an owner with a suffix. They are open
-- (`abbrev`), as the words of Base are.
abbrev pub tab_has : View → ℕ → ℕ → ℕ → Bool
tab_has v s n k = live v s k && eqb (v (serial s k)) n

abbrev pub row_has : View → ℕ → ℕ → Bool
row_has v n p = used v p && eqb (v (number p)) n

abbrev pub row_with : View → ℕ → List ℕ → ℕ → Bool
row_with v o name p = used v p && eqb (v (owner p)) o && same (name_of v p) name

-- the slot of a seat in which the tab with a serial is live
unfoldable pub slot_of : View → ℕ → ℕ → ℕ
slot_of v s n = lowest 10 (λ k. tab_has v s n k)

abbrev pub placed : ℕ → ℕ → Place
placed s k = record { seat = s; slot = k }

-- "tab or process not live": where the tab of an id is live, and in which row the process of a number
unfoldable pub place_in : ℕ → ℕ → Option Place
place_in s k = cond (eqb k 0) None (Some (placed s k))

unfoldable pub tab_of : View → ℕ → Option Place
tab_of v i = place_in (seat_of_id i) (slot_of v (seat_of_id i) (serial_of_id i))

unfoldable pub process_of : View → ℕ → ℕ
process_of v n = lowest 80 (λ p. row_has v n p)

-- "If no live process has this owner and suffix"
unfoldable pub process_with : View → ℕ → List ℕ → ℕ
process_with v o name = lowest 80 (λ p. row_with v o name p)

-- "lowest free slot", "the lowest free process row", "ten tabs live"
unfoldable pub free_slot : View → ℕ → ℕ
free_slot v s = lowest 10 (λ k. not (live v s k))

unfoldable pub free_process : View → ℕ
free_process v = lowest 80 (λ p. not (used v p))

unfoldable pub live_tabs : View → ℕ → ℕ
live_tabs v s = count 10 (λ k. live v s k)
