-- A table that is being ordered, document 01, "let seats as ordered": its length, and what it shows after n seats. Assumes nothing.
use Rattle.std.specs.Prelude.{◌≡◌, true, false, List, [], ◌∷◌, eqb, length}
use Rattle.std.proofs.Math.Path.{refl}
use Rattle.std.proofs.Common.{◌∙◌, ⊎_elim, arith}
use Prim.Native.Nat.{ℕ, zero, suc, ◌≤◌}
use Rattle.terms.specs.Names.{sound_book, orders, letting_of, tenant_of, options_of}
use Rattle.terms.specs.Base.{Range}
use Rattle.terms.specs.Laws.Order.{tenant_range, legal_lt, options_legal}
use Rattle.fields.specs.Rule.View.{Field, tenant, options}
use Rattle.fields.specs.Rule.Layout.{table_bytes, view}
use Rattle.fields.specs.Rule.Update.{Write, ◌≔◌}
use Rattle.fields.specs.Rule.Fresh.{blank, ordered}
use Rattle.fields.specs.Change.{kind, major, minor, same_field, change, changes}
use Rattle.fields.specs.Laws.Each.{range, last_or}
use Rattle.fields.specs.Laws.Still.{skip, take! }
use Rattle.fields.specs.Laws.Write.{Can, length_writes, view_writes}
use Rattle.fields.specs.Laws.Can.{can_let}
use Rattle.fields.specs.Laws.Blank.{blank_long}

module _ (b : List ℕ) (book : sound_book b ≡ true) where
  abbrev pub tenant_at : ℕ → ℕ
  tenant_at s = tenant_of (letting_of s (orders b))

  abbrev pub options_at : ℕ → ℕ
  options_at s = options_of (letting_of s (orders b))

  abbrev letting : ℕ → List Write
  letting s = tenant s ≔ tenant_of (letting_of s (orders b)) ∷ options s ≔ options_of (letting_of s (orders b)) ∷ []

  can_order : (s : ℕ) → Range 1 8 s → Can (letting s)
  can_order s r = can_let s (tenant_at s) (options_at s) r (tenant_range b s book) (legal_lt (options_at s) (options_legal b s book))

  pub ordered_long : (n : ℕ) → length (ordered b n) ≡ table_bytes
  unfolding ordered
  ordered_long zero = blank_long
  ordered_long (suc n) = length_writes (ordered b n) (letting (suc n)) ∙ ordered_long n

  step_view : (n : ℕ) → suc n ≤ 8 → view (ordered b (suc n)) ≡ changes (view (ordered b n)) (letting (suc n))
  unfolding ordered
  step_view n h = view_writes (ordered b n) (letting (suc n)) (ordered_long n) (can_order (suc n) (range (omega arith) h))

  -- a field of another kind
  pub ordered_rest : (n : ℕ) → n ≤ 8 → (g : Field) → eqb 0 (kind g) ≡ false → eqb 1 (kind g) ≡ false
      → view (ordered b n) g ≡ view blank g
  unfolding changes change same_field kind major minor ordered
  ordered_rest zero h g e f = refl
  ordered_rest (suc n) h g e f = rw (step_view n h, e, f) (ordered_rest n (omega arith) g e f)

  pub ordered_tenant : (n : ℕ) → n ≤ 8 → (s : ℕ) → Range 1 n s → view (ordered b n) (tenant s) ≡ tenant_at s
  unfolding changes change same_field kind major minor
  ordered_tenant zero h s r = let x = r.low in let y = r.high in absurd (omega arith)
  ordered_tenant (suc n) h s r =
      rw (step_view n h)
      (⊎_elim
      (λ (e : s ≡ suc n). rw e (take! (suc n) (tenant_at (suc n)) (view (ordered b n) (tenant (suc n)))))
      (λ (l : s ≤ n).
      skip (suc n) s (tenant_at (suc n)) (view (ordered b n) (tenant s)) (λ z. omega arith)
      ∙ ordered_tenant n (omega arith) s (range r.low l))
      (last_or n s r.high))

  pub ordered_options : (n : ℕ) → n ≤ 8 → (s : ℕ) → Range 1 n s → view (ordered b n) (options s) ≡ options_at s
  unfolding changes change same_field kind major minor
  ordered_options zero h s r = let x = r.low in let y = r.high in absurd (omega arith)
  ordered_options (suc n) h s r =
      rw (step_view n h)
      (⊎_elim
      (λ (e : s ≡ suc n). rw e (take! (suc n) (options_at (suc n)) (view (ordered b n) (options (suc n)))))
      (λ (l : s ≤ n).
      skip (suc n) s (options_at (suc n)) (view (ordered b n) (options s)) (λ z. omega arith)
      ∙ ordered_options n (omega arith) s (range r.low l))
      (last_or n s r.high))
