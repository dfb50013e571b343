-- The two marks of a tab are apart: setting or clearing one leaves the other. Assumes nothing.
use Rattle.std.specs.Prelude.{◌≡◌, refl, Bool, true, false, ◌||◌, ℕ, ◌+◌, ◌-◌, ◌≤◌, eqb}
use Rattle.std.proofs.Common.{sym, ap, ◌∙◌, arith}
use Rattle.std.proofs.lemmas.Bool.{false≢true}
use Rattle.fields.specs.Rule.View.{View, waiting}
use Rattle.fields.specs.Rule.Update.{weight, waits}
use Rattle.fields.specs.declared.mark.Mark.{Mark}
use Rattle.fields.specs.declared.mark.Mark.TheVariants.{Cookie, Document}
use Rattle.fields.specs.Laws.Few.{four}

-- the other mark
abbrev pub other : Mark → Mark
other Cookie = Document
other Document = Cookie

-- what a number of 0 to 3 says of a mark
says : ℕ → Mark → Bool
says w Cookie = eqb w 1 || eqb w 3
says w Document = eqb w 2 || eqb w 3

waits_says : (v : View) (s k : ℕ) (m : Mark) → waits v s k m ≡ says (v (waiting s k)) m
unfolding waits says
waits_says v s k Cookie = refl
waits_says v s k Document = refl

-- what a tab waits for is said by that number alone, and 0 says nothing
pub waits_same : (v u : View) (s k : ℕ) (m : Mark) → u (waiting s k) ≡ v (waiting s k) → waits u s k m ≡ waits v s k m
waits_same v u s k m e = waits_says u s k m ∙ ap (λ (x : ℕ). says x m) e ∙ sym (waits_says v s k m)

pub waits_none : (v : View) (s k : ℕ) (m : Mark) → v (waiting s k) ≡ 0 → waits v s k m ≡ false
unfolding says
waits_none v s k m e = waits_says v s k m ∙ ap (λ (x : ℕ). says x m) e ∙ none m
  where
    none : (m : Mark) → says 0 m ≡ false
    none Cookie = refl
    none Document = refl

set : (m : Mark) (w : ℕ) → w ≤ 3 → says w m ≡ false
    → (says (w + weight m) m ≡ true) × (says (w + weight m) (other m) ≡ says w (other m))
unfolding says weight
set Cookie w h =
    four (λ w. says w Cookie ≡ false → (says (w + 1) Cookie ≡ true) × (says (w + 1) Document ≡ says w Document))
    (λ e. (refl, refl)) (λ e. absurd (false≢true (sym e))) (λ e. (refl, refl)) (λ e. absurd (false≢true (sym e))) w (omega arith)
set Document w h =
    four (λ w. says w Document ≡ false → (says (w + 2) Document ≡ true) × (says (w + 2) Cookie ≡ says w Cookie))
    (λ e. (refl, refl)) (λ e. (refl, refl)) (λ e. absurd (false≢true (sym e))) (λ e. absurd (false≢true (sym e))) w (omega arith)

gone : (m : Mark) (w : ℕ) → w ≤ 3 → says w m ≡ true
    → (says (w - weight m) m ≡ false) × (says (w - weight m) (other m) ≡ says w (other m))
unfolding says weight
gone Cookie w h =
    four (λ w. says w Cookie ≡ true → (says (w - 1) Cookie ≡ false) × (says (w - 1) Document ≡ says w Document))
    (λ e. absurd (false≢true e)) (λ e. (refl, refl)) (λ e. absurd (false≢true e)) (λ e. (refl, refl)) w (omega arith)
gone Document w h =
    four (λ w. says w Document ≡ true → (says (w - 2) Document ≡ false) × (says (w - 2) Cookie ≡ says w Cookie))
    (λ e. absurd (false≢true e)) (λ e. absurd (false≢true e)) (λ e. (refl, refl)) (λ e. (refl, refl)) w (omega arith)

module _ (v u : View) (s k : ℕ) (m : Mark) (small : v (waiting s k) ≤ 3) where
  pub mark_set : waits v s k m ≡ false → u (waiting s k) ≡ v (waiting s k) + weight m
      → (waits u s k m ≡ true) × (waits u s k (other m) ≡ waits v s k (other m))
  mark_set e w =
      let a = set m (v (waiting s k)) small (sym (waits_says v s k m) ∙ e) in (
        waits_says u s k m ∙ ap (λ (x : ℕ). says x m) w ∙ a.0,
        waits_says u s k (other m) ∙ ap (λ (x : ℕ). says x (other m)) w ∙ a.1 ∙ sym (waits_says v s k (other m)),
      )

  pub mark_gone : waits v s k m ≡ true → u (waiting s k) ≡ v (waiting s k) - weight m
      → (waits u s k m ≡ false) × (waits u s k (other m) ≡ waits v s k (other m))
  mark_gone e w =
      let a = gone m (v (waiting s k)) small (sym (waits_says v s k m) ∙ e) in (
        waits_says u s k m ∙ ap (λ (x : ℕ). says x m) w ∙ a.0,
        waits_says u s k (other m) ∙ ap (λ (x : ℕ). says x (other m)) w ∙ a.1 ∙ sym (waits_says v s k (other m)),
      )
