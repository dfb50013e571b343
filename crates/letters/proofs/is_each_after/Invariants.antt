-- The loop keeps: whether the letters up to j that are after the first n pass. Assumes nothing.
use Rattle.std.proofs.Common.{Bool, ℕ, ◌+◌, ◌-◌, ◌≡◌, ◌≤◌}
use Rattle.terms.specs.Base.{Range}
use Rattle.fields.specs.Base.{each}
use Rattle.fields.specs.Laws.Each.{after}
use Rattle.letters.proofs.is_each_after.Given as goal

abbrev pub invariant-loop-j : goal.invariant-loop-j
invariant-loop-j g l = record {
  most : l.j ≤ 64 + (l.n - 64);
  all : (meant : ℕ → Bool) → ((j : ℕ) (r : Bool) → Range 1 64 j → goal.F-post g l.test j r → r ≡ meant j)
      → l.all ≡ each l.j (after l.n meant);
}
