-- What the loop leaves, and what the whole log leaves. That each turn's text was written out, and what a read brought, no contract
-- can say. Assumes nothing.
use Rattle.std.specs.Prelude.{ℕ, ◌<◌, ◌≡◌, ◌≢◌, List}
use Rattle.rules.specs.Sheet.{start_of}
use Rattle.reader.specs.declared.place.Place.{Place}
use Rattle.logging.specs.Begin.{Begun}
use Rattle.logging.specs.Turns.{LogTurns, turn_count}

-- the loop: one turn at least. The last need not have given the last event, since a write may fail
pub record LogRan (b buf t o buf' t' o' : List ℕ) : Type 0 where
  pub chunks : List (List ℕ)
  pub text : List ℕ
  pub place : Place
  pub turns : LogTurns b buf t o chunks text buf' t' o' place
  pub some : 0 < turn_count turns

-- the log: a start that is refused leaves its line in the room and nothing else; from the table of one that is done the loop goes
pub data Logged (b buf t o buf' t' o' : List ℕ) : Type 0 where
  refused : (n : ℕ) → (start_of t b).number ≢ 0 → Begun t b o t' o' n → t' ≡ t → buf' ≡ buf → Logged b buf t o buf' t' o'
  ran : (start_of t b).number ≡ 0 → LogRan b buf (start_of t b).table o buf' t' o' → Logged b buf t o buf' t' o'
