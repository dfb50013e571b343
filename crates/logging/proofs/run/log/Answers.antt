-- `run::log`: a line was written, and lies in the room; or none was, and the loop went on from the start's table.
use Rattle.std.proofs.Common.{sym, arith, length-take-le}
use Rattle.logging.specs.Laws.Begin.{begun_fits}
use Rattle.logging.specs.Laws.Run.{logged_ran, logged_refused}
use Rattle.logging.proofs.run.log.Goals as goal

pub slice_bounds-put_out-end : goal.slice_bounds-put_out-end
slice_bounds-put_out-end g c =
    let r = begun_fits c.in-Some.ensures.0 (omega (arith, c.requires.roomy)) in omega (arith, c.begin.auto.out)

pub slice_bounds-put_out-end-in-Some : goal.slice_bounds-put_out-end-in-Some
slice_bounds-put_out-end-in-Some g c =
    let r = begun_fits c.in-Some.ensures.0 (omega (arith, c.requires.roomy)) in
    sym (length-take-le c.in-Some.said c.begin.new.out (omega (arith, c.begin.auto.out)))

pub returns-in-None : goal.returns-in-None
returns-in-None g c = logged_ran c.in-None.ensures c.run.ensures

pub returns-in-Some : goal.returns-in-Some
returns-in-Some g c = logged_refused _ c.in-Some.ensures.0 c.in-Some.ensures.1
