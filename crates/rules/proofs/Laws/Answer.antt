-- What a caller reads out of an answer, and finds in the room. Assumes nothing.
use Rattle.std.specs.Prelude.{◌≡◌, refl, Bool, true, false, not, cond, ◌≢◌, ℕ, ◌≤◌, ◌<◌, length, take, drop, ltb}
use Rattle.std.proofs.Math.Path.{ap}
use Rattle.std.proofs.Common.{◌∙◌, zero-add, ltb-false}
use mathlib.Core.List.{List}
use native.Mathlib.Omega.{arith}
use Rattle.fields.specs.Table.{sound_table}
use Rattle.rules.specs.Rule.Frame.{Frame, frames, over}
use Rattle.rules.specs.Rule.Event.{reading_of}
use Rattle.rules.specs.Rule.Step.{Outcome, refused, read_rule, room_needed, step_of, packed, number_in, actions_in, bytes_in, answer, Stepped}
use Rattle.rules.proofs.Laws.Over.{over_nothing, over_front, over_past, length_over}
use Rattle.rules.proofs.Laws.Outcome.{step_orderly}

-- ---- the three numbers in one

module _ (n a w : ℕ) (h : n < 256) (k : a < 256) (l : w < 65536) where
  pub packed_number : number_in (packed n a w) ≡ n
  unfolding packed number_in
  packed_number = omega arith

  pub packed_actions : actions_in (packed n a w) ≡ a
  unfolding packed actions_in
  packed_actions = omega arith

  pub packed_bytes : bytes_in (packed n a w) ≡ w
  unfolding packed bytes_in
  packed_bytes = omega arith

-- ---- a step's

-- the frames of a step fit the room that is lent
pub frames_fit : (t b e : List ℕ) (room : ℕ) → length (frames (step_of room t b e).actions) ≤ room
unfolding step_of refused frames
frames_fit t b e room = go (ltb room room_needed) refl (step_orderly t b e room).fits
  where
    later : Outcome
    later = cond (not (sound_table t)) (refused 2 t) (read_rule t b e (reading_of e))

    go : (z : Bool) → ltb room room_needed ≡ z → length (frames (cond z (refused 1 t) later).actions) ≤ 4106
        → length (frames (cond z (refused 1 t) later).actions) ≤ room
    go true h k = omega arith
    go false h k = let m = ltb-false room room_needed h in omega arith

-- what a caller finds
module _ (t b e : List ℕ) {o t' o' : List ℕ} {r : ℕ} (w : Stepped (step_of (length o) t b e) o t' o' r) where
  small : (step_of (length o) t b e).number < 256
  small = let n = (step_orderly t b e (length o)).small in omega arith

  few : length (step_of (length o) t b e).actions < 256
  few = let n = (step_orderly t b e (length o)).few in omega arith

  short : length (frames (step_of (length o) t b e).actions) < 65536
  short = let n = (step_orderly t b e (length o)).fits in omega arith

  pub answer_number : number_in r ≡ (step_of (length o) t b e).number
  unfolding answer
  answer_number = rw w.says (packed_number _ _ _ small few short)

  pub answer_actions : actions_in r ≡ length (step_of (length o) t b e).actions
  unfolding answer
  answer_actions = rw w.says (packed_actions _ _ _ small few short)

  pub answer_bytes : bytes_in r ≡ length (frames (step_of (length o) t b e).actions)
  unfolding answer
  answer_bytes = rw w.says (packed_bytes _ _ _ small few short)

  pub room_front : take (bytes_in r) o' ≡ frames (step_of (length o) t b e).actions
  room_front = rw (answer_bytes, w.room) (over_front o (frames (step_of (length o) t b e).actions))

  pub room_past : drop (bytes_in r) o' ≡ drop (bytes_in r) o
  room_past = rw (answer_bytes, w.room) (over_past o (frames (step_of (length o) t b e).actions))

  pub room_length : length o' ≡ length o
  room_length =
      rw w.room (length_over o 0 (frames (step_of (length o) t b e).actions) (rw zero-add (frames_fit t b e (length o))))

  -- at a refusal: the table and the room as they were, and the number alone
  pub step_nothing : (step_of (length o) t b e).number ≢ 0 → (t' ≡ t) × (o' ≡ o) × (r ≡ (step_of (length o) t b e).number)
  unfolding answer packed frames
  step_nothing h =
      let x = step_of (length o) t b e in
      let none = (step_orderly t b e (length o)).refusal h in
      let says : r ≡ packed x.number 0 0
      = w.says ∙ ap (λ (l : List Frame). packed x.number (length l) (length (frames l))) none.0 in (
        w.table ∙ none.1,
        w.room ∙ ap (λ (l : List Frame). over o 0 (frames l)) none.0 ∙ over_nothing o 0,
        omega arith,
      )
