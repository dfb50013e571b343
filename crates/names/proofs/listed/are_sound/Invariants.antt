-- The loop keeps: all names are sound exactly if those that are left are, after the last one. Assumes nothing.
use Rattle.std.proofs.Common.{eqb, ◌≡◌, ◌&&◌}
use Rattle.terms.specs.Inner.{sound_names, names_from, end_from}
use Rattle.terms.specs.Steps.Listed.{chain}
use Rattle.names.proofs.listed.are_sound.Given as goal

abbrev pub invariant-loop : goal.invariant-loop
invariant-loop l =
    (eqb (end_from l.b l.from l.count) l.until && sound_names (names_from l.b l.from l.count)) ≡ chain l.b l.until l.last l.at l.counter l.count
