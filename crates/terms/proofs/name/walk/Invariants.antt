-- The loop keeps: the walk over all bytes is the walk from the label so far over those that are left. Assumes nothing.
use Rattle.std.proofs.Common.{drop, ◌≡◌, Some}
use Rattle.terms.specs.Inner.{fresh, walk}
use Rattle.terms.proofs.name.walk.Given as goal

abbrev pub invariant-loop-x : goal.invariant-loop-x
invariant-loop-x l = walk (Some fresh) l.s ≡ walk (Some l.l) (drop l.x-index l.s)
