-- Streams and their runs: which chunks reads can bring, and how far a run over them comes. Assumes nothing.
use Rattle.std.specs.Prelude.{ℕ, ◌+◌, ◌-◌, ◌<◌, ◌≡◌, List, [], ◌∷◌, ◌++◌, length, get_or, true, cond}
use Rattle.terms.specs.Base.{Range}
use Rattle.reader.specs.Held.{held}
use Rattle.reader.specs.declared.place.Place.{Place}
use Rattle.logging.specs.Turn.{most_bytes}
use Rattle.logging.specs.Turns.{LogTurns, LogRun}
use Rattle.logs.specs.Log.{events, joined, log_from, table_after}

-- none is empty
abbrev pub SomeEach : List (List ℕ) → Type 0
SomeEach cs = (i : ℕ) → i < length cs → 0 < length (get_or cs i [])

-- a run as far as the chunks can come: to the end of the log, or up to one that the buffer has no room for beside what is held
pub data LogGoes (b buf t o : List ℕ) (cs : List (List ℕ)) : Type 0 where
  whole : {x t' : List ℕ} → LogRun b buf t o cs x t' → LogGoes b buf t o cs
  crowded : (front : List (List ℕ)) (c : List ℕ) (back : List (List ℕ)) {x buf' t' o' : List ℕ} {p' : Place}
      → cs ≡ front ++ (c ∷ back) → LogTurns b buf t o front x buf' t' o' p' → length (held buf' p') < most_bytes
      → length buf < length (held buf' p') + length c → LogGoes b buf t o cs

-- no fewer than one byte, and so many fewer than the buffer has that what is held never takes their room
abbrev pub SizedEach : List ℕ → List (List ℕ) → Type 0
SizedEach buf cs = (i : ℕ) → i < length cs → Range 1 (length buf - 4105) (length (get_or cs i []))

pub record LogRuns (b buf t o : List ℕ) (cs : List (List ℕ)) : Type 0 where
  pub text : List ℕ
  pub table : List ℕ
  pub run : LogRun b buf t o cs text table

-- the events that follow, where z is still to come: none, where the last was given
unfoldable pub later : List ℕ → Place → List ℕ → List (List ℕ)
later buf p z = cond p.done [] (events (held buf p ++ z))

-- what they gave, from the table t on: the text and the table are those of the events given, as many as are counted, and these
-- are the first events of the chunks cs and of whatever z is still to come; after the end of the stream nothing is
pub record LogGiven (b t : List ℕ) (cs : List (List ℕ)) (x buf' t' : List ℕ) (p' : Place) : Type 0 where
  pub given : List (List ℕ)
  pub text : x ≡ log_from 0 t b given
  pub table : t' ≡ table_after t b given
  pub number= : p'.number ≡ length given
  pub first : (z : List ℕ) → (p'.ended ≡ true → z ≡ []) → events (joined cs ++ z) ≡ given ++ later buf' p' z
