-- How the exits of the two calls, and of `decide`, come to what their contracts say. Assumes nothing.
use Rattle.std.specs.Prelude.{ℕ, ◌≤◌, ◌<◌, ◌≡◌, Bool, true, false, List, length, eqb, Option, Some, None, Result, Err}
use Rattle.std.proofs.Math.Path.{refl, sym}
use Rattle.std.proofs.Common.{◌∙◌, lt-ltb, le-ltb}
use Rattle.terms.specs.Names.{sound_book}
use Rattle.fields.specs.Table.{table_bytes, sound_table, fresh}
use Rattle.rules.specs.Rule.Frame.{frames}
use Rattle.rules.specs.Rule.Event.{reading_of}
use Rattle.rules.specs.Rule.Step.{Outcome, refused, event_rule, read_rule, room_needed, step_of, start_of, packed, answer}
use Rattle.rules.specs.Rule.Step.{Stepped, Started}
use Rattle.rules.specs.Held.{number_given, actions_given, written_given, Says, Decided}
use Rattle.rules.proofs.Steps.Decide.{decided_refused}
use Rattle.rules.specs.declared.verdict.Done.{Done}
use Rattle.rules.specs.declared.verdict.Refusal.{Refusal}
use Rattle.rules.specs.declared.verdict.Refusal.TheVariants.{ShortRoom, BadTable, BadFrame}
use Rattle.rules.specs.declared.event.Event.{Event}

-- ---- decide

module _ {t o : List ℕ} (b e : List ℕ) where
  pub room_small : length o < room_needed → Decided (step_of (length o) t b e) o t o (Err ShortRoom)
  unfolding step_of
  room_small h = decided_refused ShortRoom (rw (lt-ltb (length o) room_needed h))

  pub table_unsound : {r : Bool} → room_needed ≤ length o → r ≡ sound_table t → r ≡ false
      → Decided (step_of (length o) t b e) o t o (Err BadTable)
  unfolding step_of
  table_unsound h f k = decided_refused BadTable (rw (le-ltb (length o) room_needed h, sym f ∙ k))

  pub event_malformed : {r : Bool} {v : Option Event} → room_needed ≤ length o → r ≡ sound_table t → r ≡ true → v ≡ reading_of e
      → v ≡ None → Decided (step_of (length o) t b e) o t o (Err BadFrame)
  unfolding step_of read_rule
  event_malformed h f k q z = decided_refused BadFrame (rw (le-ltb (length o) room_needed h, sym f ∙ k, sym q ∙ z))

pub event_served : {o t' o' : List ℕ} {g : Result Done Refusal} {r : Bool} {v : Option Event} (t b e : List ℕ) (w : Event)
    → room_needed ≤ length o
    → r ≡ sound_table t → r ≡ true → v ≡ reading_of e → v ≡ Some w → Decided (event_rule t b e w) o t' o' g
    → Decided (step_of (length o) t b e) o t' o' g
unfolding step_of read_rule
event_served {o = o} t b e w h f k q z d = rw (le-ltb (length o) room_needed h, sym f ∙ k, sym q ∙ z) d

-- ---- step

pub step_packed : {x : Outcome} {o t' o' : List ℕ} {g : Result Done Refusal} {r : ℕ} → Decided x o t' o' g
    → r ≡ packed (number_given g) (actions_given g) (written_given g) → Stepped x o t' o' r
unfolding answer
step_packed d e =
    let y = d.says in
    record {
      says = e ∙ rw (y.number=, y.actions=, y.written=);
      table = d.table;
      room = d.room;
    }

-- ---- start

module _ {r : ℕ} (t b : List ℕ) where
  pub start_long : {l : Bool} → l ≡ eqb (length t) table_bytes → l ≡ false → r ≡ packed 2 0 0 → Started (start_of t b) t r
  unfolding start_of refused answer frames
  start_long e h f = rw (sym e ∙ h) (record { says = f; table = refl })

  pub start_book : {l q : Bool} → l ≡ eqb (length t) table_bytes → l ≡ true → q ≡ sound_book b → q ≡ false → r ≡ packed 6 0 0
      → Started (start_of t b) t r
  unfolding start_of refused answer frames
  start_book e h g k f = rw (sym e ∙ h, sym g ∙ k) (record { says = f; table = refl })

  pub start_done : {t' : List ℕ} {l q : Bool} {d : Result Done Refusal} → l ≡ eqb (length t) table_bytes → l ≡ true → q ≡ sound_book b → q ≡ true
      → t' ≡ fresh b → Says 0 0 0 d → r ≡ packed (number_given d) (actions_given d) (written_given d)
      → Started (start_of t b) t' r
  unfolding start_of answer frames
  start_done e h g k w y f =
      rw (sym e ∙ h, sym g ∙ k) (record { says = f ∙ rw (y.number=, y.actions=, y.written=); table = w })
