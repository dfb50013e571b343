-- The fields of every action that a step sends fit the bytes that a frame has for them. Party and tag are the document's, ids
-- are bounded by what a sound table can hold, and a payload by the room that all frames have. Assumes nothing.
use Rattle.std.specs.Prelude.{ℕ, ◌+◌, ◌≤◌, ◌<◌, ◌≡◌, refl, true, false, List, [], ◌∷◌, length, ltb}
use Rattle.std.proofs.Common.{subst, arith, ltb-true}
use Rattle.terms.specs.Laws.Bools.{cases}
use Rattle.terms.specs.Base.{Range}
use Rattle.fields.specs.Table.{serial, row, last, most_opens, view, tab_id, sound_table}
use Rattle.fields.specs.Promises.{number_left}
use Rattle.fields.specs.Laws.Asked.{live_row, live_serial}
use Rattle.fields.specs.Laws.Can.{number_small, numbers_enough}
use Rattle.fields.specs.Laws.Tab.{id_is}
use Rattle.fields.specs.Laws.Table.{table_facts}
use Rattle.fields.specs.Laws.There.{live_there}
use Rattle.rules.specs.Rule.Frame.{Frame, framed, frames, AllNarrow}
use Rattle.rules.specs.Rule.Step.{Outcome, refused, room_needed, step_of}
use Rattle.rules.specs.Rule.Desk.{new_id, process_at, TabAt}
use Rattle.rules.proofs.Laws.Cases.{either}
use Rattle.rules.proofs.Laws.Frame.{length_frames}
use Rattle.rules.proofs.Laws.Outcome.{step_orderly}
use Rattle.rules.proofs.Laws.Happens.{Opens, Happens, nothing, joins, renews, selects, leaves, ends}
use Rattle.rules.proofs.Laws.Happens.{types, points, paints, sockets, fetches, stores, gets, denies, results, documents}
use Rattle.rules.proofs.Laws.Happens.{at_live, refused_is}
use Rattle.rules.proofs.Laws.Happened.{step_happens}

-- ---- all but the payloads

-- parties and tags are small, by tests that compute, and ids fit
data Heads : List Frame → Type 0 where
  done : Heads []
  act : {p i g : ℕ} {x : List ℕ} {l : List Frame} → ltb p 256 ≡ true → ltb g 256 ≡ true → i < 4294967296 → Heads l
      → Heads (framed p i g x ∷ l)

-- and no payload is longer than all frames together
all_narrow : {l : List Frame} → Heads l → length (frames l) ≤ 4106 → AllNarrow l
all_narrow done h = tt
all_narrow (act {p} {i} {g} {x} {l} a b d w) h =
    let n = length_frames (framed p i g x ∷ l) in
    let m = length_frames l in (
      record { party = ltb-true p 256 a; id = d; tag = ltb-true g 256 b; size = omega arith },
      all_narrow w (omega arith),
    )

-- ---- ids

seat_lt : {s : ℕ} → Range 1 8 s → s < 4294967296
seat_lt r = let h = r.high in omega arith

id_lt : (s n : ℕ) → Range 1 8 s → n ≤ most_opens → tab_id s n < 4294967296
id_lt s n r h =
    let a = r.high in
    let b = numbers_enough in
    let d = number_small in
    omega (arith, id_is s n)

-- what an open gives: a tab's id, a process's number
new_lt : {t b e : List ℕ} {s : ℕ} → Opens t b e s → new_id (view t) s < 4294967296
new_lt {s = s} o = let h = o.takes.more in id_lt s _ o.takes.seat (omega arith)

next_lt : (t : List ℕ) → sound_table t ≡ true → view t last + 1 < 4294967296
next_lt t z = let a = number_left t z in let b = number_small in omega arith

-- of a live tab: its seat, its id, its process's number
module _ {t : List ℕ} {i s k : ℕ} (z : sound_table t ≡ true) (w : TabAt t i s k) where
  tab_seat : Range 1 8 s
  tab_seat = (live_there t s k w.there).0

  tab_lt : i < 4294967296
  tab_lt = subst (λ (j : ℕ). j < 4294967296) w.id (id_lt s (view t (serial s k)) tab_seat (live_serial (at_live z w)))

  process_lt : process_at t s k < 4294967296
  process_lt =
      let a = (table_facts t z).shows.numbers_fit (view t (row s k)) (live_row (at_live z w)).row in
      let b = next_lt t z in
      omega arith

-- ---- outcome by outcome

heads : {t b e : List ℕ} {x : Outcome} → sound_table t ≡ true → Happens t b e x → Heads x.actions
heads {t = t} z (nothing n h) = rw (refused_is n t) done
heads z (joins s o h) =
    let n = new_lt o in act refl refl n (act refl refl n (act refl refl (seat_lt o.takes.seat) done))
heads {t = t} z (renews s o h) =
    let n = new_lt o in
    act refl refl (next_lt t z) (act refl refl n (act refl refl n (act refl refl (seat_lt o.takes.seat) done)))
heads z (selects s k i f h w) = act refl refl (tab_lt z w) (act refl refl (seat_lt (tab_seat z w)) done)
heads z (leaves s i f h c w g) = act refl refl (tab_lt z w) (act refl refl (seat_lt (tab_seat z w)) done)
heads z (ends s i f h c w g) =
    act refl refl (tab_lt z w) (act refl refl (process_lt z w) (act refl refl (seat_lt (tab_seat z w)) done))
heads z (types s i f _ _ w) = act refl refl (tab_lt z w) done
heads z (points s i f _ w) = act refl refl (tab_lt z w) done
heads z (paints i s k f _ w h) = act refl refl (seat_lt (tab_seat z w)) done
heads z (sockets i s k f _ w h) = act refl refl (tab_lt z w) done
heads z (fetches i s k f w h g) = act refl refl (tab_lt z w) done
heads z (stores i s k f _ w h) = act refl refl (process_lt z w) done
heads z (gets i s k f w h g) = act refl refl (process_lt z w) done
heads z (denies tag i s k f w _) = act refl refl (tab_lt z w) done
heads z (results n i s k f _ w q g) = act refl refl (tab_lt z w) done
heads z (documents i s k f _ w g) = act refl refl (tab_lt z w) done

-- of an unsound table there are no actions
unsound_heads : (room : ℕ) (t b e : List ℕ) → sound_table t ≡ false → Heads (step_of room t b e).actions
unfolding step_of refused
unsound_heads room t b e u =
    rw u (either (λ (x : Outcome). Heads x.actions) (ltb room room_needed) _ _ (λ _. done) (λ _. done))

-- of every step
pub step_widths : (room : ℕ) (t b e : List ℕ) → AllNarrow (step_of room t b e).actions
step_widths room t b e =
    all_narrow
    (cases (sound_table t) (λ z. heads z (step_happens room t b e z)) (λ u. unsound_heads room t b e u))
    (step_orderly t b e room).fits
