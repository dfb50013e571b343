-- Document 01, "All numbers are big-endian": the number in some bytes of a list, and the list with a number written there.
-- Assumes nothing.
use Rattle.std.specs.Prelude.{ℕ, zero, suc, ◌+◌, ◌*◌, ◌/◌, ◌%◌, List, get_or, set}

-- the number in the w bytes from at, the highest first
unfoldable pub num : List ℕ → ℕ → ℕ → ℕ
num t at zero = 0
num t at (suc w) = num t at w * 256 + get_or t (at + w) 0

-- the list with x in those w bytes
unfoldable pub put : List ℕ → ℕ → ℕ → ℕ → List ℕ
put t at zero x = t
put t at (suc w) x = set (put t at w (x / 256)) (at + w) (x % 256)
