-- The loop keeps: whether the letters up to j that are after the first n pass. Assumes nothing.
use Rattle.std.proofs.Common.{arith}
use Rattle.fields.specs.Laws.Each.{range, after_start, after_next, after_done}
use Rattle.letters.proofs.is_each_after.Goals as goal

pub loop-j-init : goal.loop-j-init
loop-j-init g c = record { most = omega arith; all = λ meant told. after_start c.args.n meant }

pub loop-j-preserved : goal.loop-j-preserved
loop-j-preserved g c =
    record {
      most = omega arith;
      all = λ meant told.
          after_next c.args.n meant (omega arith) (c.loop-j.invariant.all meant told)
          (told _ _ (range (omega arith) (omega arith)) c.test-all.ensures);
    }

pub returns : goal.returns
returns g c =
    λ meant told. after_done c.args.n meant (c.loop-j.invariant.all meant told) c.loop-j.invariant.most (omega arith)
