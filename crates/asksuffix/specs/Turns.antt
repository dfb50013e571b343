-- A run of the program: turn after turn from the outset, until one is the last. Each turn is what the contract of `turn` says. The
-- loop writes out each turn's text before the next. Assumes nothing.
use Rattle.std.specs.Prelude.{ℕ, suc, ◌<◌, true, false, ◌≡◌, List, [], ◌++◌, take}
use Rattle.logs.specs.Log.{chunk}
use Rattle.reader.specs.Held.{outset, came}
use Rattle.asksuffix.specs.Turn.{Turn}
use Rattle.reader.specs.declared.place.Place.{Place}

-- of book b, from buffer and room: the chunks that the turns read, their text end to end, and the buffer, room and place that they
-- leave
pub data AskTurns (b buf o : List ℕ) : List (List ℕ) → List ℕ → List ℕ → List ℕ → Place → Type 0 where
  none : AskTurns b buf o [] [] buf o outset
  more : {cs : List (List ℕ)} {x buf₁ o₁ : List ℕ} {p₁ : Place} {buf₂ o₂ : List ℕ} {p₂ : Place}
      → AskTurns b buf o cs x buf₁ o₁ p₁ → p₁.done ≡ false → Turn buf₁ b o₁ p₁ buf₂ o₂ p₂
      → AskTurns b buf o (cs ++ chunk (came buf₁ p₁ buf₂ p₂)) (x ++ take p₂.filled o₂) buf₂ o₂ p₂

-- how many turns there are
unfoldable pub turn_count : {b buf o : List ℕ} {cs : List (List ℕ)} {x buf' o' : List ℕ} {p' : Place}
    → AskTurns b buf o cs x buf' o' p' → ℕ
turn_count none = 0
turn_count (more r on w) = suc (turn_count r)

-- a run to the end of the stream
pub record AskRun (b buf o : List ℕ) (cs : List (List ℕ)) (x : List ℕ) : Type 0 where
  pub buf' : List ℕ
  pub o' : List ℕ
  pub p' : Place
  pub turns : AskTurns b buf o cs x buf' o' p'
  pub done : p'.done ≡ true

-- what the loop leaves: one turn at least. The last need not be at the end of the stream, since a write may fail; that each turn's
-- text was written out, and what a read brought, no contract can say
pub record AskRan (b buf o buf' o' : List ℕ) : Type 0 where
  pub chunks : List (List ℕ)
  pub text : List ℕ
  pub place : Place
  pub turns : AskTurns b buf o chunks text buf' o' place
  pub some : 0 < turn_count turns
