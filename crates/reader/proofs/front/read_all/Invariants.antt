-- `front::read_all`: what is had never exceeds the room, and is what the reader gave; each read that brings a byte leaves less room.
use Rattle.std.proofs.Common.{length, take, ◌-◌, ◌≤◌}
use Rattle.std.specs.Io.KnownBytes.{Consumes}
use Rattle.reader.proofs.front.read_all.Given as goal

abbrev pub invariant-loop-have : goal.invariant-loop-have
invariant-loop-have g l =
    (l.have ≤ length l.to) × Consumes (g.R.Read.remaining l.initial.input) (g.R.Read.remaining l.input) (take l.have l.to)

abbrev pub decreases-loop-have : goal.decreases-loop-have
decreases-loop-have g l = length l.to - l.have
