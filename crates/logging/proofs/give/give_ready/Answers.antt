-- `give::give_ready`: as many events as are ready are served, and they are no more than a turn's.
use Rattle.std.proofs.Common.{ap, arith}
use Rattle.logs.specs.Laws.Ready.{ready_few}
use Rattle.logging.specs.Turn.{most_events}
use Rattle.logging.proofs.give.give_ready.Goals as goal

pub serve-served-requires : goal.serve-served-requires
serve-served-requires c =
    let few = ready_few most_events c.args.ended c.args.held.now in
    omega (arith, ap (λ r. r.count) c.count_ready-ready.ensures)
