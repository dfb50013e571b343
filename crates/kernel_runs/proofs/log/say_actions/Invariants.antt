-- What is left is part of the bytes. Assumes nothing.
use Rattle.std.proofs.Common.{◌≤◌, length}
use Rattle.kernel_runs.proofs.log.say_actions.Given as goal

abbrev pub invariant-loop : goal.invariant-loop
invariant-loop g l = length l.rest ≤ length l.s
