-- Where there is no room the stores that are left change nothing. Assumes nothing.
use Rattle.std.proofs.Common.{◌≡◌, ◌+◌, ◌-◌, sym, arith}
use Rattle.runs.proofs.Stores.{sets_out, sets_room}
use Rattle.runs.proofs.put.Goals as goal

pub returns-then-at-to : goal.returns-then-at-to
returns-then-at-to c =
    let a = c.args in
    let n = c.min-n.result in
    let e = sets_room a.to.now a.at n a.bytes.now (omega arith) c.min-n.ensures in
    let k : a.at + n - a.at ≡ n = omega arith in
    let w = c.copy_from_slice.ensures.after in
    rw (k, w) (sym e)

pub returns-else-at-to : goal.returns-else-at-to
returns-else-at-to c = let a = c.args in sym (sets_out a.to.now a.at a.bytes.now c.if-at-to.false)
