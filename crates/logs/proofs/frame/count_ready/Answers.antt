-- The loop keeps: so many events are counted, and the others that are wanted are sought in what stands after those. Assumes nothing.
use Rattle.std.proofs.Common.{true≢false, arith, sym, ◌∙◌}
use Rattle.std.proofs.lemmas.Bool.Decides.{nat_tests}
use Rattle.logs.specs.Laws.Ready.{cut_large, cut_left}
use Rattle.logs.specs.Laws.Count.{counted_more, counted_cut, counted_all}
use Rattle.logs.proofs.frame.count_ready.Goals as goal
use Rattle.logs.proofs.frame.count_ready.Goals.{then-ended, else-ended}

pub returns-in-Oversized : goal.returns-in-Oversized
returns-in-Oversized c =
    let is = c.in-Oversized.ensures in
    counted_cut c.loop-count.invariant c.loop-count-test.true is.0 (sym (cut_large _ _ is.1))

pub returns-in-Cut : goal.returns-in-Cut
returns-in-Cut c =
    let is = c.in-Cut.ensures in
    counted_cut c.loop-count.invariant c.loop-count-test.true is.0
    (cut_left _ _ is.1 c.from.ensures
    (λ off. elim c.if-ended.branch [ then-ended w ↦ absurd (true≢false (sym w.if-ended.true ∙ off)) | else-ended w ↦ w.from-is ∙ off ])
    (λ on.
    elim c.if-ended.branch [
      | then-ended w ↦ w.from-is ∙ grind (arith, nat_tests)
      | else-ended w ↦ absurd (true≢false (sym on ∙ w.if-ended.false))
    ]))

pub loop-count-preserved : goal.loop-count-preserved
loop-count-preserved c =
    let is = c.in-Whole.ensures in counted_more c.loop-count.invariant c.loop-count-test.true is.0 is.2

pub returns : goal.returns
returns c = counted_all c.loop-count.invariant c.loop-count-test.false
