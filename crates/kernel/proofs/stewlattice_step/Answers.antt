-- The answer is what was decided, packed. Assumes nothing.
use Rattle.std.proofs.Common.{arith, sym, ℕ, ◌≡◌}
use Rattle.rules.specs.Sheet.{packed}
use Rattle.rules.proofs.Steps.Step.{step_packed}
use Rattle.kernel.proofs.stewlattice_step.Goals as goal

-- a number packed of equal parts
packed_same : {r n n' a a' w w' : ℕ} → r ≡ packed n a w → n ≡ n' → a ≡ a' → w ≡ w' → r ≡ packed n' a' w'
packed_same p e f g = rw (sym e, sym f, sym g) p

pub returns : goal.returns
returns c =
    let counts = c.counts-number.ensures in
    step_packed c.decide.ensures
    (packed_same c.pack.ensures (omega (arith, counts.number)) (omega (arith, counts.actions)) (omega (arith, counts.written)))
