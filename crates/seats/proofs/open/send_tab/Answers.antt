-- Three frames, each where the one before it ends. Assumes nothing.
use Rattle.std.proofs.Common.{arith}
use Rattle.terms.specs.Laws.Fold.{length_folded}
use Rattle.rules.proofs.Steps.Open.{tab_sent}
use Rattle.seats.proofs.open.send_tab.Goals as goal

pub send_name-requires : goal.send_name-requires
send_name-requires c =
    let w = c.requires in
    let f = c.send_bare-a.ensures in
    let g = c.send_name-b.ensures in
    let l = length_folded c.args.x.now in
    record {
      room = omega (arith, w.0, w.1, f.next, f.same, g.next, g.same, l);
      small = omega (arith, w.1);
      short = omega (arith, w.2);
    }

pub returns : goal.returns
returns c =
    let w = c.requires in
    tab_sent c.args.x.now w.0 w.1 c.send_bare-a.ensures c.send_name-b.ensures
    c.send_name.ensures
