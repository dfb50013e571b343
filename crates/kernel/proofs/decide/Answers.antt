-- The refusals 1, 2 and 3 in this order; an event that is read has its parts in its bytes. Assumes nothing.
use Rattle.std.proofs.Common.{arith, sym, ◌∙◌}
use Rattle.std.proofs.lemmas.Result.{err_from_is_err_and}
use Rattle.rules.proofs.Laws.Read.{reading_in}
use Rattle.rules.proofs.Steps.Decide.{none_is}
use Rattle.rules.proofs.Steps.Step.{room_small, table_unsound, event_malformed, event_served}
use Rattle.kernel.proofs.decide.Goals as goal

pub returns-then-short : goal.returns-then-short
returns-then-short c = room_small _ _ (omega (arith, c.if-short.true))

pub returns-then-not-sound : goal.returns-then-not-sound
returns-then-not-sound c =
    table_unsound _ _ c.if-short.false c.sound.ensures c.if-not-sound.true

pub returns-in_err-e : goal.returns-in_err-e
returns-in_err-e c =
    let w = c.in_err-e.ensures in
    let p = err_from_is_err_and c.from_residual.result c.from_residual.ensures.1 in
    rw (p.1, p.2, none_is w.value w.ok_part)
    (event_malformed _ _ c.if-short.false c.sound.ensures c.if-not-sound.false c.read.ensures w.ok_part)

pub serve-requires : goal.serve-requires
serve-requires c = (
  record { sound = sym c.sound.ensures ∙ c.if-not-sound.false; roomy = c.if-short.false },
  reading_in c.args.event.now _ (λ i. omega (arith, (c.type_inv.event i).fits))
      (sym c.read.ensures ∙ c.in_ok-e.ensures.ok_part),
)

pub returns : goal.returns
returns c =
    event_served _ _ _ _ c.if-short.false c.sound.ensures c.if-not-sound.false
    c.read.ensures c.in_ok-e.ensures.ok_part
    c.serve.ensures
