-- Two replies, and two outcomes, with one number and with actions that S relates: by what they are made of. Assumes nothing.
use Rattle.std.specs.Prelude.{ℕ, ◌≡◌, Bool, true, false, cond, List, [], ◌∷◌, Option, Some, None}
use Rattle.std.proofs.Math.Path.{refl, sym}
use Rattle.std.proofs.Common.{ap₂, ◌∙◌}
use Rattle.fields.specs.Table.{view, tab_id, tab_of}
use Rattle.fields.specs.declared.place.Place.{Place}
use Rattle.fields.specs.Laws.Tab.{tab_of_lem}
use Rattle.rules.specs.Rule.Frame.{Frame}
use Rattle.rules.specs.Rule.Action.{error}
use Rattle.rules.specs.Rule.Desk.{Desk, desk_at, id_at, Change, Reply, reply}
use Rattle.rules.specs.Rule.Tab.{ask}
use Rattle.rules.specs.Rule.Step.{Outcome, refused, made, at_tab}
use Rattle.rules.specs.Rule.Response.{Both, BothLive}

-- two choices by one test
pub both : {A B : Type 0} (P : A → B → Type 0) {a b : Bool} → a ≡ b → (x x' : A) (y y' : B) → (a ≡ true → P x y)
    → (a ≡ false → P x' y')
    → P (cond a x x') (cond b y y')
both P {a = true} h x x' y y' f g = rw (sym h) (f refl)
both P {a = false} h x x' y y' f g = rw (sym h) (g refl)

abbrev pub Replies : (List Frame → List Frame → Type 0) → Reply → Reply → Type 0
Replies S x y = (x.number ≡ y.number) × (S x.actions y.actions)

abbrev pub Outcomes : (List Frame → List Frame → Type 0) → Outcome → Outcome → Type 0
Outcomes S x y = (x.number ≡ y.number) × (S x.actions y.actions)

module _ (S : List Frame → List Frame → Type 0) where
  -- what two tabs ask for: allowed alike, denied alike
  pub ask_alike : {p q : Bool} (i j : ℕ) (a b : Frame) (c d : Change) → p ≡ q → S (error i ∷ []) (error j ∷ [])
      → S (a ∷ []) (b ∷ [])
      → Replies S (ask p i a c) (ask q j b d)
  unfolding ask reply
  ask_alike i j a b c d h no! yes! = both (Replies S) h _ _ _ _ (λ _. (refl, yes!)) (λ _. (refl, no!))

  -- the tab of an id, wherever it is live in two tables
  module _ (t₁ t₂ : List ℕ) (i : ℕ) (R : Desk → ℕ → Desk → ℕ → Type 0) (f g : Desk → ℕ → Reply)
      (alike : (s r k j : ℕ) → s ≡ r → id_at t₁ s k ≡ id_at t₂ r j → R (desk_at t₁ s) k (desk_at t₂ r) j
      → Replies S (f (desk_at t₁ s) k) (g (desk_at t₂ r) j)) where
    pub at_alike : S [] [] → (n : ℕ) → BothLive t₁ t₂ R i
        → Outcomes S (at_tab t₁ n (tab_of (view t₁) i) f) (at_tab t₂ n (tab_of (view t₂) i) g)
    unfolding at_tab refused made
    at_alike none n = go (tab_of (view t₁) i) (tab_of (view t₂) i) refl refl
      where
        go : (p q : Option Place) → tab_of (view t₁) i ≡ p → tab_of (view t₂) i ≡ q → Both t₁ t₂ R p q
            → Outcomes S (at_tab t₁ n p f) (at_tab t₂ n q g)
        go None None x y h = (refl, none)
        go (Some p) (Some q) x y h =
            let a = tab_of_lem (view t₁) i p.seat p.slot x in
            let b = tab_of_lem (view t₂) i q.seat q.slot y in
            let seat = a.seat_is ∙ sym b.seat_is in
            alike p.seat q.seat p.slot q.slot seat (ap₂ tab_id seat (a.serial_is ∙ sym b.serial_is)) h
        go None (Some q) x y h = absurd h
        go (Some p) None x y h = absurd h
