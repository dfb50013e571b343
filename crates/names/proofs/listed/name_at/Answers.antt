-- A place at the end or past it has no name before that. Else its length byte is there, and the name if there are so many bytes
-- behind it. Assumes nothing.
use Rattle.std.proofs.Common.{◌<◌, ◌∙◌, arith, length-take-le, sym, take}
use Rattle.std.proofs.lemmas.List.{take_rest}
use Rattle.terms.specs.Steps.Listed.{past_end, name_got}
use Rattle.names.proofs.listed.name_at.Goals as goal

pub returns-in_err-get : goal.returns-in_err-get
returns-in_err-get c =
    let a = c.args in
    let n = length-take-le a.until a.b.now c.requires in
    rw c.from_residual.ensures (past_end a.b.now a.at a.until (grind (arith, n, c.in_err-get.ensures.lookup.0)))

pub returns-in_err-len : goal.returns-in_err-len
returns-in_err-len c =
    let a = c.args in
    let n = length-take-le a.until a.b.now c.requires in
    rw c.from_residual-in_err-len.ensures
    (past_end a.b.now a.at a.until (omega (arith, n, c.in_ok-get.ensures.lookup.0, c.in_err-len.ensures.cases)))

pub returns : goal.returns
returns c =
    let a = c.args in
    let b = a.b.now in
    let front = c.in_ok-get.ensures.lookup.0 in
    let e = sym (take_rest (take a.until b) a.at) ∙ sym front.2 ∙ c.in_ok-len.ensures.cases.0 in
    let l : a.at < a.until = omega (arith, front.3, c.in_ok-len.ensures.cases.1, length-take-le a.until b c.requires) in
    name_got b c.in_ok-len.rest.now a.at a.until c.in_ok-len.len.now e l c.requires (λ x. x.now) c.from.result c.get-2.result
    c.from.ensures c.get-2.ensures.lookup.0
