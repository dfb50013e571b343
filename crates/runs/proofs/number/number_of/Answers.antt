-- A digit more, or a byte that is none. Assumes nothing.
use Rattle.std.proofs.Common.{◌≡◌, ◌+◌, None, sym, ◌∙◌, arith}
use Rattle.runs.specs.Decimal.{digits}
use Rattle.runs.proofs.Digits.{digits_none, digits_next, decimal_empty, decimal_not, decimal_is}
use Rattle.runs.proofs.number.number_of.Goals as goal

pub returns-then-is_empty : goal.returns-then-is_empty
returns-then-is_empty c = sym (decimal_empty _ (sym c.is_empty.ensures ∙ c.if-is_empty.true))

pub loop-digit-init : goal.loop-digit-init
loop-digit-init c = digits_none _

pub returns-in_err-n : goal.returns-in_err-n
returns-in_err-n c =
    let w = c.args.w.now in
    let loop = c.loop-digit in
    let h = c.loop-digit-test.true in
    let e : digits w (loop.digit-index + 1) ≡ None =
    digits_next w loop.digit-index loop.n loop.invariant ∙ sym c.with_digit.ensures ∙ c.in_err-n.was in
    c.from_residual.ensures
    ∙ sym (decimal_not w (loop.digit-index + 1) (omega arith) (sym c.is_empty.ensures ∙ c.if-is_empty.false) e)

pub loop-digit-preserved : goal.loop-digit-preserved
loop-digit-preserved c =
    let loop = c.loop-digit in
    digits_next c.args.w.now loop.digit-index loop.n loop.invariant ∙ sym c.with_digit.ensures ∙ c.in_ok-n.was

pub returns : goal.returns
returns c =
    let loop = c.loop-digit in
    sym (decimal_is c.args.w.now loop.n loop.digit-index (omega arith) (sym c.is_empty.ensures ∙ c.if-is_empty.false) loop.invariant)
