-- The bytes that are written are the low ones of the number, the highest first. Assumes nothing.
use Rattle.terms.specs.Laws.Num.{put_be}
use Rattle.terms.proofs.num.put_num.Goals as goal

pub returns : goal.returns
returns g c =
    let a = c.args in
    let e = put_be a.t.now a.at g.row.N a.x c.requires.inside c.requires.few in
    rw (c.copy_from_slice.ensures.after, c.to_be_bytes.ensures) e
