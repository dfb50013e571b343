-- A number below 1, 2 or 4, by its cases: the bytes of a field one by one, the four numbers of a mark. Assumes nothing.
use Rattle.std.specs.Prelude.{ℕ, zero, suc, ◌<◌}
use Rattle.std.proofs.Common.{arith}

pub alone : (P : ℕ → Type 0) → P 0 → (i : ℕ) → i < 1 → P i
alone P a zero h = a
alone P a (suc i) h = absurd (omega arith)

pub pair : (P : ℕ → Type 0) → P 0 → P 1 → (i : ℕ) → i < 2 → P i
pair P a b zero h = a
pair P a b (suc zero) h = b
pair P a b (suc (suc i)) h = absurd (omega arith)

pub four : (P : ℕ → Type 0) → P 0 → P 1 → P 2 → P 3 → (i : ℕ) → i < 4 → P i
four P a b d e zero h = a
four P a b d e (suc zero) h = b
four P a b d e (suc (suc zero)) h = d
four P a b d e (suc (suc (suc zero))) h = e
four P a b d e (suc (suc (suc (suc i)))) h = absurd (omega arith)
