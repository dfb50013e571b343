-- One shifted left by k - 1 is that power of two, and k is 10 at most. Assumes nothing.
use Rattle.std.proofs.Common.{arith, pow_mono, ◌%◌, ◌*◌, ◌-◌, ◌^◌, ◌≡◌, ◌≤◌}
use Rattle.links.proofs.hang.bit_of.Goals as goal

pub returns : goal.returns
returns c =
    let k = c.args.k in
    let l : k - 1 ≤ 9 = omega arith in
    let q : 2 ^ (k - 1) ≤ 2 ^ 9 = pow_mono l in
    let e : 1 * 2 ^ (k - 1) % 2 ^ 64 ≡ 2 ^ (k - 1) = omega arith in
    (e, omega arith)
