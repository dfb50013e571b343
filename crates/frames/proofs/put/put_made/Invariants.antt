-- The loop keeps: j bytes of x are written, each as it is made, and the rest of the room stays. Assumes nothing.
use Rattle.std.proofs.Common.{ℕ, ◌≡◌, map}
use Rattle.rules.proofs.Steps.Put.{Written}
use Rattle.frames.proofs.put.put_made.Given as goal

abbrev pub invariant-loop-j : goal.invariant-loop-j
invariant-loop-j g l = (meant : ℕ → ℕ) → ((b r : ℕ) → goal.F-post g l.make b r → r ≡ meant b)
    → Written l.initial.out l.at (map meant l.x) l.out l.j
