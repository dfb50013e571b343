-- A run of the program: turn after turn from the outset, while none has given the last event. Each turn is what the contract of
-- `turn` says. The loop writes out each turn's text before the next. Assumes nothing.
use Rattle.std.specs.Prelude.{ℕ, suc, true, false, ◌≡◌, List, [], ◌++◌, take}
use Rattle.logs.specs.Log.{chunk}
use Rattle.reader.specs.Held.{outset, came}
use Rattle.reader.specs.declared.place.Place.{Place}
use Rattle.logging.specs.Turn.{Turn}

-- of book b, from buffer, table and room: the chunks that the turns read, their text end to end, and the buffer, table, room and
-- place that they leave
pub data LogTurns (b buf t o : List ℕ) : List (List ℕ) → List ℕ → List ℕ → List ℕ → List ℕ → Place → Type 0 where
  none : LogTurns b buf t o [] [] buf t o outset
  more : {cs : List (List ℕ)} {x buf₁ t₁ o₁ : List ℕ} {p₁ : Place} {buf₂ t₂ o₂ : List ℕ} {p₂ : Place}
      → LogTurns b buf t o cs x buf₁ t₁ o₁ p₁ → p₁.done ≡ false → Turn buf₁ t₁ b o₁ p₁ buf₂ t₂ o₂ p₂
      → LogTurns b buf t o (cs ++ chunk (came buf₁ p₁ buf₂ p₂)) (x ++ take p₂.filled o₂) buf₂ t₂ o₂ p₂

-- how many turns there are
unfoldable pub turn_count : {b buf t o : List ℕ} {cs : List (List ℕ)} {x buf' t' o' : List ℕ} {p' : Place}
    → LogTurns b buf t o cs x buf' t' o' p' → ℕ
turn_count none = 0
turn_count (more r on w) = suc (turn_count r)

-- a run to the end of the log, of a stream that comes in the chunks cs. Some may be left unread: those behind the last event,
-- where it was given before the end of the stream was seen
pub record LogRun (b buf t o : List ℕ) (cs : List (List ℕ)) (x t' : List ℕ) : Type 0 where
  pub chunks : List (List ℕ)
  pub unread : List (List ℕ)
  pub buf' : List ℕ
  pub o' : List ℕ
  pub p' : Place
  pub all : cs ≡ chunks ++ unread
  pub turns : LogTurns b buf t o chunks x buf' t' o' p'
  pub done : p'.done ≡ true
  pub seen : p'.ended ≡ true → unread ≡ []
