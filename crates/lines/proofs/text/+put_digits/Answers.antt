-- The proof of the cycle of calls {put_digits}. It calls itself with one digit less, which is the measure, and writes the last
-- digit after the others. Assumes nothing.
use Rattle.std.proofs.Common.{◌-◌, ◌/◌, arith}
use Rattle.logs.specs.Laws.Digits.{length_digits, wrote_no_digits, wrote_digit, wrote_digits}
use Rattle.lines.proofs.text.+put_digits.Goals as goal

pub returns-then-w-eq0 : goal.returns-then-w-eq0
returns-then-w-eq0 t c = wrote_no_digits _ _ c.args.n c.if-w-eq0.true

pub returns-then-n-lt10 : goal.returns-then-n-lt10
returns-then-n-lt10 t c = wrote_digit c.if-w-eq0.false c.if-n-lt10.true c.put.ensures

pub put-requires-2 : goal.put-requires-2
put-requires-2 t c =
    let short = length_digits (c.args.w - 1) (c.args.n / 10) in
    omega (arith, c.put_digits-next.ensures.next, short)

pub returns : goal.returns
returns t c =
    wrote_digits c.if-w-eq0.false (omega arith) (omega arith) c.put_digits-next.ensures c.put-2.ensures
