-- What src/deliver.rt leaves at each of its exits. Assumes nothing.
use Rattle.std.specs.Prelude.{ℕ, ◌≡◌, Bool, true, false, ◌&&◌, List, [], ◌∷◌, eqb, Result, Err}
use Rattle.std.proofs.Math.Path.{refl}
use Rattle.std.proofs.Common.{sym, ◌∙◌}
use Rattle.terms.specs.Laws.Bools.{and_right}
use Rattle.fields.specs.Table.{view, waits, unmarked}
use Rattle.fields.specs.declared.mark.Mark.{Mark}
use Rattle.fields.specs.declared.mark.Mark.TheVariants.{Cookie, Document}
use Rattle.rules.specs.Rule.Frame.{framed}
use Rattle.rules.specs.Rule.Desk.{desk, desk_at, reply, clear_mark, changed}
use Rattle.rules.specs.Rule.Tab.{result_rule, document_rule}
use Rattle.rules.specs.Held.{Sent, Says, Replied}
use Rattle.rules.proofs.Steps.Decide.{replied_refused, replied_done}
use Rattle.rules.proofs.Steps.Tab.{sent_id}
use Rattle.rules.specs.declared.verdict.Done.{Done}
use Rattle.rules.specs.declared.verdict.Refusal.{Refusal}
use Rattle.rules.specs.declared.verdict.Refusal.TheVariants.{NotAwaited}

module _ (t : List ℕ) (s k : ℕ) where
  -- ---- result

  module _ (n : ℕ) where
    pub asked_waits : {r : Bool} → r ≡ eqb ((desk_at t s).process k) n && (desk_at t s).waits k Cookie → r ≡ true
        → waits (view t) s k Cookie ≡ true
    unfolding desk
    asked_waits e h = and_right (eqb ((desk_at t s).process k) n) (waits (view t) s k Cookie) (sym e ∙ h)

    pub result_refused : {o : List ℕ} {r : Bool} (x : List ℕ)
        → r ≡ eqb ((desk_at t s).process k) n && (desk_at t s).waits k Cookie → r ≡ false
        → Replied t s (result_rule (desk_at t s) n k x) o t o (Err NotAwaited)
    unfolding result_rule
    result_refused x e h = replied_refused NotAwaited (rw (sym e ∙ h))

    pub result_passed : {o t' o' : List ℕ} {r : Bool} {g : Result Done Refusal} (x : List ℕ)
        → r ≡ eqb ((desk_at t s).process k) n && (desk_at t s).waits k Cookie → r ≡ true
        → Replied t s (reply (framed 2 ((desk_at t s).id k) 7 x ∷ []) (clear_mark k Cookie)) o t' o' g
        → Replied t s (result_rule (desk_at t s) n k x) o t' o' g
    unfolding result_rule
    result_passed x e h w = rw (sym e ∙ h) w

  -- ---- document

  pub document_refused : {o : List ℕ} {r : Bool} (x : List ℕ) → r ≡ waits (view t) s k Document → r ≡ false
      → Replied t s (document_rule (desk_at t s) k x) o t o (Err NotAwaited)
  unfolding document_rule desk
  document_refused x e h = replied_refused NotAwaited (rw (sym e ∙ h))

  pub document_passed : {o t' o' : List ℕ} {r : Bool} {g : Result Done Refusal} (x : List ℕ) → r ≡ waits (view t) s k Document → r ≡ true
      → Replied t s (reply (framed 2 ((desk_at t s).id k) 6 x ∷ []) (clear_mark k Document)) o t' o' g
      → Replied t s (document_rule (desk_at t s) k x) o t' o' g
  unfolding document_rule desk
  document_passed x e h w = rw (sym e ∙ h) w

  -- ---- what is passed on

  pub passed : {o t' o' : List ℕ} {i party tag n : ℕ} {g : Result Done Refusal} (m : Mark) (x : List ℕ) → i ≡ (desk_at t s).id k
      → Sent o 0 (framed party i tag x ∷ []) o' n → t' ≡ unmarked t s k m → Says 0 1 n g
      → Replied t s (reply (framed party ((desk_at t s).id k) tag x ∷ []) (clear_mark k m)) o t' o' g
  unfolding changed
  passed m x j w f = replied_done (clear_mark k m) refl (sent_id j w) f
