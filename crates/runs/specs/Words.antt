-- The parts of a text that a byte keeps apart, and the words of a line. Assumes nothing.
use Rattle.std.specs.Prelude.{ℕ, List, [], ◌==◌, get_or}
use Rattle.std.specs.List.{slice_split}

-- part k, from 0; empty past the last
abbrev pub part : ℕ → List ℕ → ℕ → List ℕ
part by s k = get_or (slice_split (λ b. b == by) s) k []

-- 32 is a space
abbrev pub word : List ℕ → ℕ → List ℕ
word l k = part 32 l k
