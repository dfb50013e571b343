-- The key decides. Assumes nothing.
use Rattle.std.proofs.Common.{arith, inl, inr}
use Rattle.rules.proofs.Steps.Keys.{key_select, key_close, key_pass, key_bad}
use Rattle.seats.proofs.keys.key.Goals.{in_default-via-then-k-lt14, in_default-via-else-k-lt14+else-k-lt24}
use Rattle.seats.proofs.keys.key.Goals as goal

pub returns-in-25 : goal.returns-in-25
returns-in-25 c = key_close _ c.in-25.is c.close.ensures

pub returns-in-14-to-23 : goal.returns-in-14-to-23
returns-in-14-to-23 c = key_select _ c.from.ensures (omega arith) (omega arith) c.select.ensures

pub returns-in_default : goal.returns-in_default
returns-in_default c =
    elim c.in_default.branch [
      | in_default-via-then-k-lt14 w
          ↦ key_pass _ (inl (omega arith)) (omega arith) c.is_plain.ensures c.if-is_plain.true (omega (arith, c.ranges.k.fits)) c.pass.ensures
      | in_default-via-else-k-lt14+else-k-lt24 w
          ↦ key_pass _ (inr (omega arith)) (omega arith) c.is_plain.ensures c.if-is_plain.true (omega (arith, c.ranges.k.fits)) c.pass.ensures
    ]

pub returns-in_default-2 : goal.returns-in_default-2
returns-in_default-2 c =
    elim c.in_default.branch [
      | in_default-via-then-k-lt14 w
          ↦ key_bad _ (inl (omega arith)) (omega arith) c.is_plain.ensures c.if-is_plain.false
      | in_default-via-else-k-lt14+else-k-lt24 w
          ↦ key_bad _ (inr (omega arith)) (omega arith) c.is_plain.ensures c.if-is_plain.false
    ]
