-- The first open of a seat: one without tabs has a slot left, and the lowest is slot 1. Assumes nothing.
use Rattle.std.specs.Prelude.{◌≡◌, false, ℕ, ◌<◌}
use Rattle.std.proofs.Common.{sym, ◌∙◌, ⊎_elim, arith}
use Rattle.std.proofs.lemmas.Bool.{false≢true}
use Rattle.fields.specs.Rule.View.{View}
use Rattle.fields.specs.Rule.Word.{live}
use Rattle.fields.specs.Rule.Find.{free_slot, live_tabs}
use Rattle.fields.specs.Laws.Each.{range, same_or}
use Rattle.fields.specs.Laws.Find.{free_slot_lem, slot_found}

module _ (v : View) (s : ℕ) (none : (k : ℕ) → live v s k ≡ false) where
  pub first_left : live_tabs v s < 10
  first_left = slot_found v s 1 (range (omega arith) (omega arith)) (none 1)

  pub first_slot : free_slot v s ≡ 1
  first_slot =
      let w = free_slot_lem v s first_left in
      let low = w.slot.low in
      ⊎_elim (λ e. e) (λ h. absurd (false≢true (sym (none 1) ∙ w.below 1 (omega arith) (omega arith)))) (same_or (free_slot v s) 1)
