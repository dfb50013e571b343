-- The space, and where it ends the hyphen or the bytes in hex. Assumes nothing.
use Rattle.std.proofs.Common.{sym, ◌∙◌, arith, eqb-true}
use Rattle.std.proofs.lemmas.Bool.{eqb-false}
use Rattle.logs.specs.Laws.Lines.{wrote_dash, wrote_payload}
use Rattle.lines.proofs.line.put_payload.Goals as goal

pub returns-then-is_empty : goal.returns-then-is_empty
returns-then-is_empty c =
    wrote_dash c.args.x.now (omega (arith, c.requires)) (eqb-true _ 0 (sym c.is_empty.ensures ∙ c.if-is_empty.true)) c.put-next.ensures
    c.put.ensures

pub returns : goal.returns
returns c =
    wrote_payload c.args.x.now (omega (arith, c.requires)) (eqb-false _ 0 (sym c.is_empty.ensures ∙ c.if-is_empty.false)) c.put-next.ensures
    c.put_hex.ensures
