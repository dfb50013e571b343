-- All bytes are zero, and then the offset of the process rows is written. Assumes nothing.
use Rattle.std.proofs.Common.{rules}
use Rattle.fields.specs.Steps.Layout.{blank_is}
use Rattle.fields.proofs.layout.whole.wipe.Goals as goal

pub returns : goal.returns
returns c =
    let o = c.set_rows_at.ensures in
    (o.long, blank_is c.args.t.now c.requires (c.fill.ensures.after (λ y e. search rules)) o)
