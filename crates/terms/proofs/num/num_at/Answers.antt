-- Each byte read is the next of the number, and the numbers on the way fit as the last does. Assumes nothing.
use Rattle.std.proofs.Common.{◌≡◌, ◌+◌, ◌<◌, arith, sym}
use Rattle.std.proofs.lemmas.List.Edits.{get_or-between, length-between}
use Rattle.terms.specs.Laws.Num.{num_zero, num_more, num_fits, num_lt}
use Rattle.terms.proofs.num.num_at.Goals as goal

pub loop-b-init : goal.loop-b-init
loop-b-init g c = sym (num_zero c.args.t.now c.args.at)

pub overflow_mul-x : goal.overflow_mul-x
overflow_mul-x g c =
    let t = c.args.t.now in
    let l : c.loop-b.b-index < g.row.N = omega (arith, length-between t c.args.at (c.args.at + g.row.N)) in
    omega (arith, num_fits t c.args.at c.loop-b.b-index (λ i. omega (arith, c.type_inv.t i)) (omega arith))

pub overflow_add-x : goal.overflow_add-x
overflow_add-x g c =
    let t = c.args.t.now in
    let l : c.loop-b.b-index < g.row.N = omega (arith, length-between t c.args.at (c.args.at + g.row.N)) in
    let e = get_or-between t c.args.at (c.args.at + g.row.N) c.loop-b.b-index 0 (omega arith) in
    omega (arith, e, num_fits t c.args.at c.loop-b.b-index (λ i. omega (arith, c.type_inv.t i)) (omega arith))

pub loop-b-preserved : goal.loop-b-preserved
loop-b-preserved g c =
    let t = c.args.t.now in
    let l : c.loop-b.b-index < g.row.N = omega (arith, length-between t c.args.at (c.args.at + g.row.N)) in
    let e = get_or-between t c.args.at (c.args.at + g.row.N) c.loop-b.b-index 0 (omega arith) in
    omega (arith, e, num_more t c.args.at c.loop-b.b-index)

pub returns-clause-small : goal.returns-clause-small
returns-clause-small g c =
    let t = c.args.t.now in
    let e : c.loop-b.b-index ≡ g.row.N = omega (arith, length-between t c.args.at (c.args.at + g.row.N)) in
    rw (c.loop-b.invariant, e) (num_lt t c.args.at g.row.N (λ i. omega (arith, c.type_inv.t i)))
