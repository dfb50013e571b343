-- What table/src/slots.rt reads off the map of a sound table. Assumes nothing.
use Rattle.std.specs.Prelude.{◌≡◌, true, List, ℕ, ◌+◌, ◌-◌}
use Rattle.std.proofs.Common.{sym, ◌∙◌}
use Rattle.std.proofs.Math.Path.{ap, subst}
use Rattle.std.specs.Int.Count.{ones, count_trailing_zeros}
use Rattle.terms.specs.Base.{Range}
use Rattle.fields.specs.Base.{bits}
use Rattle.fields.specs.Rule.View.{slots}
use Rattle.fields.specs.Rule.Layout.{view}
use Rattle.fields.specs.Rule.Sound.{sound_table}
use Rattle.fields.specs.Rule.Word.{live}
use Rattle.fields.specs.Rule.Find.{free_slot, live_tabs}
use Rattle.fields.specs.Rule.Asked.{HasSlot}
use Rattle.fields.specs.Laws.Bits.{ones_bits, lowest_free}
use Rattle.fields.specs.Laws.Table.{table_facts}
use Rattle.fields.specs.Laws.Find.{free_slot_lem}

module _ (t : List ℕ) (s : ℕ) where
  map_is : {m : ℕ} → sound_table t ≡ true → Range 1 8 s → m ≡ view t (slots s) → m ≡ bits 10 (λ k. live (view t) s k)
  map_is w r e = e ∙ (table_facts t w).shows.map_agrees s r

  pub live_count : {m : ℕ} → sound_table t ≡ true → Range 1 8 s → m ≡ view t (slots s) → ones m ≡ live_tabs (view t) s
  unfolding live_tabs
  live_count w r e = ap ones (map_is w r e) ∙ ones_bits 10 (λ k. live (view t) s k)

  pub free_found : {m n : ℕ} → HasSlot t s → m ≡ view t (slots s) → n ≡ count_trailing_zeros 64 (18446744073709551615 - m)
      → (n + 1 ≡ free_slot (view t) s) × (Range 1 10 (n + 1))
  unfolding live_tabs free_slot
  free_found {m} {n} h e f =
      let a : n + 1 ≡ free_slot (view t) s
      = ap (λ (x : ℕ). x + 1) (f ∙ ap (λ (x : ℕ). count_trailing_zeros 64 (18446744073709551615 - x)) (map_is h.sound h.seat e))
      ∙ lowest_free 53 (λ k. live (view t) s k) h.slot in
      (a, subst (Range 1 10) (sym a) (free_slot_lem (view t) s h.slot).slot)
