-- Streams and their runs: which chunks reads can bring, and how far a run over them comes. Assumes nothing.
use Rattle.std.specs.Prelude.{ℕ, ◌+◌, ◌-◌, ◌<◌, ◌≡◌, List, [], ◌∷◌, ◌++◌, length, get_or}
use Rattle.terms.specs.Base.{Bytes, Range}
use Rattle.reader.specs.Held.{held}
use Rattle.reader.specs.declared.place.Place.{Place}
use Rattle.asksuffix.specs.Rule.Hosts.{most_bytes}
use Rattle.asksuffix.specs.Turns.{AskTurns, AskRun}

-- what a read can bring: bytes, and one at least
pub record Brought (c : List ℕ) : Type 0 where
  pub some : 0 < length c
  pub bytes : Bytes c

abbrev pub BroughtEach : List (List ℕ) → Type 0
BroughtEach cs = (i : ℕ) → i < length cs → Brought (get_or cs i [])

-- a run as far as the chunks can come: to the end, or up to one that the buffer has no room for beside what is held
pub data AskGoes (b buf o : List ℕ) (cs : List (List ℕ)) : Type 0 where
  whole : {x : List ℕ} → AskRun b buf o cs x → AskGoes b buf o cs
  crowded : (front : List (List ℕ)) (c : List ℕ) (back : List (List ℕ)) {x buf' o' : List ℕ} {p' : Place}
      → cs ≡ front ++ (c ∷ back) → AskTurns b buf o front x buf' o' p' → length (held buf' p') < most_bytes
      → length buf < length (held buf' p') + length c → AskGoes b buf o cs

-- bytes, one at least, and so many fewer than the buffer has that what is held never takes their room
pub record SizedBytes (buf c : List ℕ) : Type 0 where
  pub size : Range 1 (length buf - 65536) (length c)
  pub bytes : Bytes c

abbrev pub SizedEach : List ℕ → List (List ℕ) → Type 0
SizedEach buf cs = (i : ℕ) → i < length cs → SizedBytes buf (get_or cs i [])

pub record AskRuns (b buf o : List ℕ) (cs : List (List ℕ)) : Type 0 where
  pub text : List ℕ
  pub run : AskRun b buf o cs text
