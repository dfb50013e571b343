-- What the functions of this crate leave, and when frames that lie end to end are all there. Assumes nothing.
use Rattle.std.specs.Prelude.{ℕ, zero, suc, ◌+◌, ◌≤◌, ◌≡◌, true, false, List, [], ◌∷◌, ◌++◌, length, take, drop}
use Rattle.terms.specs.Names.{num}
use Rattle.logs.specs.Rule.Stream.{whole, oversized}
use Rattle.logs.specs.declared.frame.Front.{Front}
use Rattle.logs.specs.declared.frame.Front.TheVariants.{Whole, Oversized, Cut}
use Rattle.rules.specs.Sheet.{frames_of, number_in, actions_in, bytes_in}
use Rattle.logs.specs.Rule.Line.{number, event_line, action_lines}

-- what the stream s begins with
abbrev pub IsFront : List ℕ → Front → Type 0
IsFront s (Whole n) = (whole s ≡ true) × (oversized s ≡ false) × (n ≡ 10 + num s 6 4) × (n ≤ length s)
IsFront s Oversized = (whole s ≡ false) × (oversized s ≡ true) × (10 ≤ length s)
IsFront s Cut = (whole s ≡ false) × (oversized s ≡ false)

-- k frames, end to end in s, are all there
unfoldable pub Holds : ℕ → List ℕ → Type 0
Holds zero s = Unit {0}
Holds (suc k) s = (10 + num s 6 4 ≤ length s) × Holds k (drop (10 + num s 6 4) s)

-- as many bytes as a packed answer says are in the room, and as many frames as it says are in those
pub record Holding (answer : ℕ) (room : List ℕ) : Type 0 where
  pub inside : bytes_in answer ≤ length room
  pub holds : Holds (actions_in answer) (take (bytes_in answer) room)

-- numbers, each behind its space
unfoldable pub numbers : List ℕ → List ℕ
numbers [] = []
numbers (x ∷ l) = number x ++ numbers l

-- the lines of event n, from a packed answer and the room
unfoldable pub lines_of : ℕ → ℕ → List ℕ → List ℕ
lines_of n answer room =
    event_line n (number_in answer) (actions_in answer) ++ action_lines (frames_of (actions_in answer) (take (bytes_in answer) room))
