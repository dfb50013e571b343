-- A word as a decimal number of at most ten digits. Assumes nothing.
use Rattle.std.specs.Prelude.{ℕ, zero, suc, ◌+◌, ◌-◌, ◌*◌, cond, ◌&&◌, Option, Some, None, List, length, ◌==◌, nat_le, slice_index}
use Rattle.terms.specs.Base.{within}

-- 48 to 57 are the digits
unfoldable pub with_digit : ℕ → ℕ → Option ℕ
with_digit n d = cond (within 48 57 d && nat_le n 999999999) (Some (10 * n + (d - 48))) None

unfoldable pub next : Option ℕ → ℕ → Option ℕ
next (Some n) d = with_digit n d
next None d = None

-- its first bytes, so many
unfoldable pub digits : List ℕ → ℕ → Option ℕ
digits w zero = Some 0
digits w (suc n) = next (digits w n) (slice_index w n)

unfoldable pub decimal : List ℕ → Option ℕ
decimal w = cond (length w == 0) None (digits w (length w))
