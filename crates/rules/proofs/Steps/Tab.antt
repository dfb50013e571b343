-- What src/tab.rt and src/deliver.rt leave at each of their exits. Assumes nothing.
use Rattle.std.specs.Prelude.{ℕ, ◌%◌, ◌≤◌, ◌<◌, ◌≡◌, Bool, true, false, ◌&&◌, ◌≢◌, Result}
use Rattle.std.proofs.Math.Path.{refl, sym, ap}
use Rattle.std.proofs.Common.{subst, ◌∙◌}
use Rattle.std.proofs.Math.Bool.{not}
use mathlib.Core.List.{List, [], ◌∷◌, ◌++◌}
use native.Mathlib.Omega.{arith}
use Rattle.std.proofs.Math.ListN.{length}
use borrow.Author.Tests.{eq-eqb, ne_eqb, not-true}
use Rattle.terms.specs.Names.{folded}
use Rattle.terms.specs.Laws.Bools.{and_left, and_right}
use Rattle.fields.specs.Table.{view, selected, waits, marked}
use Rattle.fields.specs.declared.mark.Mark.TheVariants.{Cookie, Document}
use Rattle.rules.specs.Rule.Frame.{be, framed}
use Rattle.rules.specs.Rule.Action.{error}
use Rattle.rules.specs.Rule.Desk.{desk, desk_at, reply, stay, set_mark, changed}
use Rattle.rules.specs.Rule.Allow.{cookie_domain, socket_allowed, is_url}
use Rattle.rules.specs.Rule.Tab.{ask, display_rule, socket_rule, url_rule, store_rule, retrieve_rule}
use Rattle.rules.specs.Held.{Sent, Says, Replied}
use Rattle.rules.proofs.Laws.Sent.{sent_payload}
use Rattle.rules.proofs.Laws.Tab.{domain_length}
use Rattle.rules.proofs.Steps.Decide.{replied_idle, replied_done}
use Rattle.rules.specs.declared.verdict.Done.{Done}
use Rattle.rules.specs.declared.verdict.Refusal.{Refusal}

-- a frame to another id is the frame to that id
pub sent_id : {o o' : List ℕ} {at p i j t r : ℕ} {x : List ℕ} → i ≡ j → Sent o at (framed p i t x ∷ []) o' r
    → Sent o at (framed p j t x ∷ []) o' r
sent_id {o} {o'} {at} {p} {i} {j} {t} {r} {x} e w = subst (λ (k : ℕ). Sent o at (framed p k t x ∷ []) o' r) e w

module _ (t : List ℕ) (s k : ℕ) where
  -- ---- denied

  pub deny_done : {o o' : List ℕ} {i n : ℕ} {g : Result Done Refusal} → Sent o 0 (framed 2 i 5 [] ∷ []) o' n → i ≡ (desk_at t s).id k
      → Says 0 1 n g → Replied t s (reply (error ((desk_at t s).id k) ∷ []) stay) o t o' g
  unfolding changed
  deny_done w e = replied_done stay refl (sent_id e w) refl

  -- ---- display

  pub display_none : {o : List ℕ} {j : ℕ} {g : Result Done Refusal} (x : List ℕ) → j ≡ view t (selected s) → j ≢ k → Says 0 0 0 g
      → Replied t s (display_rule (desk_at t s) k x) o t o g
  unfolding display_rule desk
  display_none x e h = replied_idle (rw (ne_eqb (view t (selected s)) k (λ z. h (e ∙ z))))

  pub display_done : {o o' : List ℕ} {j n : ℕ} {g : Result Done Refusal} (x : List ℕ) → j ≡ view t (selected s) → j ≡ k
      → Sent o 0 (framed 1 s 2 x ∷ []) o' n → Says 0 1 n g → Replied t s (display_rule (desk_at t s) k x) o t o' g
  unfolding display_rule desk changed
  display_done x e h w = replied_done stay (rw (eq-eqb (view t (selected s)) k (sym e ∙ h))) w refl

  -- ---- socket

  module _ (port : ℕ) (host : List ℕ) where
    pub socket_denied : {o o' x : List ℕ} {r : Bool} {g : Result Done Refusal} → r ≡ socket_allowed port host x → x ≡ (desk_at t s).suffix k
        → r ≡ false → Replied t s (reply (error ((desk_at t s).id k) ∷ []) stay) o t o' g
        → Replied t s (socket_rule (desk_at t s) k port host) o t o' g
    unfolding socket_rule ask
    socket_denied e x h w = rw (ap (socket_allowed port host) (sym x) ∙ sym e ∙ h) w

    pub socket_done : {o o' x lead : List ℕ} {r : Bool} {i n : ℕ} {g : Result Done Refusal} → r ≡ socket_allowed port host x
        → x ≡ (desk_at t s).suffix k → r ≡ true → lead ≡ be 2 port → i ≡ (desk_at t s).id k
        → Sent o 0 (framed 5 i 5 (lead ++ folded host) ∷ []) o' n → Says 0 1 n g
        → Replied t s (socket_rule (desk_at t s) k port host) o t o' g
    unfolding socket_rule ask changed
    socket_done e x h l j w =
        replied_done stay (rw (ap (socket_allowed port host) (sym x) ∙ sym e ∙ h))
        (sent_payload _ _ (ap (λ (y : List ℕ). y ++ folded host) l) (sent_id j w)) refl

  -- ---- URL

  pub fetch_quiet : {r : Bool} (u : List ℕ) → r ≡ is_url u && not ((desk_at t s).waits k Document) → r ≡ true
      → waits (view t) s k Document ≡ false
  unfolding desk
  fetch_quiet u e h = not-true (waits (view t) s k Document) (and_right (is_url u) (not (waits (view t) s k Document)) (sym e ∙ h))

  pub url_denied : {o o' : List ℕ} {r : Bool} {g : Result Done Refusal} (u : List ℕ)
      → r ≡ is_url u && not ((desk_at t s).waits k Document) → r ≡ false
      → Replied t s (reply (error ((desk_at t s).id k) ∷ []) stay) o t o' g
      → Replied t s (url_rule (desk_at t s) k u) o t o' g
  unfolding url_rule ask
  url_denied u e h w = rw (sym e ∙ h) w

  pub url_done : {o t' o' : List ℕ} {r : Bool} {i n : ℕ} {g : Result Done Refusal} (u : List ℕ)
      → r ≡ is_url u && not ((desk_at t s).waits k Document) → r ≡ true → i ≡ (desk_at t s).id k
      → Sent o 0 (framed 4 i 1 u ∷ []) o' n → t' ≡ marked t s k Document → Says 0 1 n g
      → Replied t s (url_rule (desk_at t s) k u) o t' o' g
  unfolding url_rule ask changed
  url_done u e h j w f = replied_done (set_mark k Document) (rw (sym e ∙ h)) (sent_id j w) f

  -- ---- store

  module _ (domain cookie : List ℕ) where
    pub store_denied : {o o' x : List ℕ} {r : Bool} {g : Result Done Refusal} → r ≡ cookie_domain domain x → x ≡ (desk_at t s).suffix k
        → r ≡ false → Replied t s (reply (error ((desk_at t s).id k) ∷ []) stay) o t o' g
        → Replied t s (store_rule (desk_at t s) k domain cookie) o t o' g
    unfolding store_rule ask
    store_denied e x h w = rw (ap (cookie_domain domain) (sym x) ∙ sym e ∙ h) w

    pub store_done : {o o' x : List ℕ} {r : Bool} {p n : ℕ} {g : Result Done Refusal} → r ≡ cookie_domain domain x
        → x ≡ (desk_at t s).suffix k → r ≡ true → length domain < 256 → p ≡ (desk_at t s).process k
        → Sent o 0 (framed 3 p 1 ((length domain ∷ []) ++ (folded domain ++ cookie)) ∷ []) o' n → Says 0 1 n g
        → Replied t s (store_rule (desk_at t s) k domain cookie) o t o' g
    unfolding store_rule ask changed be
    store_done e x h l j w =
        let m : length domain ≡ length domain % 256 = omega arith in
        replied_done stay (rw (ap (cookie_domain domain) (sym x) ∙ sym e ∙ h))
        (sent_payload _ _ (ap (λ (y : ℕ). (y ∷ []) ++ (folded domain ++ cookie)) m) (sent_id j w)) refl

  -- ---- retrieve

  module _ (domain : List ℕ) where
    pub retrieve_short : {r : Bool} → r ≡ cookie_domain domain ((desk_at t s).suffix k) && not ((desk_at t s).waits k Cookie)
        → r ≡ true → length domain ≤ 253
    retrieve_short e h =
        domain_length domain ((desk_at t s).suffix k)
        (and_left (cookie_domain domain ((desk_at t s).suffix k)) (not ((desk_at t s).waits k Cookie)) (sym e ∙ h))

    pub retrieve_quiet : {r : Bool} → r ≡ cookie_domain domain ((desk_at t s).suffix k) && not ((desk_at t s).waits k Cookie)
        → r ≡ true → waits (view t) s k Cookie ≡ false
    unfolding desk
    retrieve_quiet e h =
        not-true (waits (view t) s k Cookie)
        (and_right (cookie_domain domain ((desk_at t s).suffix k)) (not (waits (view t) s k Cookie)) (sym e ∙ h))

    pub retrieve_denied : {o o' : List ℕ} {r : Bool} {g : Result Done Refusal}
        → r ≡ cookie_domain domain ((desk_at t s).suffix k) && not ((desk_at t s).waits k Cookie) → r ≡ false
        → Replied t s (reply (error ((desk_at t s).id k) ∷ []) stay) o t o' g
        → Replied t s (retrieve_rule (desk_at t s) k domain) o t o' g
    unfolding retrieve_rule ask
    retrieve_denied e h w = rw (sym e ∙ h) w

    pub retrieve_done : {o t' o' lead : List ℕ} {r : Bool} {i p n : ℕ} {g : Result Done Refusal}
        → r ≡ cookie_domain domain ((desk_at t s).suffix k) && not ((desk_at t s).waits k Cookie) → r ≡ true
        → i ≡ (desk_at t s).id k → lead ≡ be 4 i → p ≡ (desk_at t s).process k
        → Sent o 0 (framed 3 p 2 (lead ++ folded domain) ∷ []) o' n → t' ≡ marked t s k Cookie → Says 0 1 n g
        → Replied t s (retrieve_rule (desk_at t s) k domain) o t' o' g
    unfolding retrieve_rule ask changed
    retrieve_done e h i l j w f =
        replied_done (set_mark k Cookie) (rw (sym e ∙ h))
        (sent_payload _ _ (ap (λ (y : List ℕ). y ++ folded domain) (l ∙ ap (be 4) i)) (sent_id j w)) f
