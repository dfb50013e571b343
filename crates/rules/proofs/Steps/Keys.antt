-- What src/keys.rt sends and leaves at each of its exits. Assumes nothing.
use Rattle.std.specs.Prelude.{ℕ, ◌-◌, ◌%◌, ◌<◌, ◌≤◌, ◌⊎◌, ◌≡◌, Bool, true, false, cond, ◌≢◌, ◌&&◌, ◌||◌, leb, eqb, List, [], ◌∷◌, ◌++◌, length, Result, Err}
use Rattle.std.proofs.Math.Path.{refl, sym, ap}
use Rattle.std.proofs.Common.{subst, ◌∙◌, inl, inr}
use native.Mathlib.Omega.{arith}
use borrow.Author.Tests.{eq-eqb, ne_eqb}
use Rattle.terms.specs.Base.{within}
use Rattle.terms.specs.Laws.Bools.{within_in, within_low, within_high}
use Rattle.fields.specs.Table.{view, selected, live, picked, closed}
use Rattle.fields.specs.Laws.There.{live_there}
use Rattle.rules.specs.Rule.Frame.{be, framed}
use Rattle.rules.specs.Rule.Action.{bar, render, stop_tab, stop_process}
use Rattle.rules.specs.Rule.Desk.{Desk, desk, desk_at, reply, stay, select_tab, close_tab, changed}
use Rattle.rules.specs.Rule.Seat.{only, select_rule, close_actions, close_rule, pass_rule, plain, key_rule}
use Rattle.rules.specs.Held.{Sent, Says, Replied, ReadyTab, bar_of}
use Rattle.rules.proofs.Laws.Sent.{sent_then, sent_payload, size_only}
use Rattle.rules.proofs.Steps.Decide.{replied_refused, replied_idle, replied_done}
use Rattle.rules.specs.declared.verdict.Done.{Done}
use Rattle.rules.specs.declared.verdict.Refusal.{Refusal}
use Rattle.rules.specs.declared.verdict.Refusal.TheVariants.{BadKey}

-- ---- the bar

pub bar_empty : {o o' : List ℕ} {at s r k : ℕ} (d : Desk) → Sent o at (framed 1 s 1 [] ∷ []) o' r → k ≡ 0
    → Sent o at (bar s (bar_of d k) ∷ []) o' r
unfolding bar_of
bar_empty {k = k} d w e = rw (eq-eqb k 0 e) w

bar_slot : (d : Desk) (k : ℕ) → k ≢ 0 → d.suffix k ≡ bar_of d k
unfolding bar_of
bar_slot d k h = rw (ne_eqb k 0 h)

pub bar_suffix : {o o' x : List ℕ} {at s r : ℕ} (d : Desk) (k : ℕ) → Sent o at (framed 1 s 1 x ∷ []) o' r → x ≡ d.suffix k
    → k ≢ 0
    → Sent o at (bar s (bar_of d k) ∷ []) o' r
bar_suffix {x = x} d k w e h = sent_payload x (bar_of d k) (e ∙ bar_slot d k h) w

-- ---- select

pub selected_sent : {t o o₁ o₂ : List ℕ} {s k i a r : ℕ} → ReadyTab t o s k → Sent o 0 (framed 2 i 2 [] ∷ []) o₁ a
    → Sent o₁ a (bar s (bar_of (desk_at t s) k) ∷ []) o₂ r → i ≡ (desk_at t s).id k
    → Sent o 0 (render ((desk_at t s).id k) ∷ bar s ((desk_at t s).suffix k) ∷ []) o₂ r
selected_sent {t} {o} {o₁} {o₂} {s} {k} {i} {a} {r} w f g e =
    let d = desk_at t s in
    let q = (live_there t s k w.there).1.low in
    let h = w.roomy in
    subst (λ (j : ℕ). Sent o 0 (render j ∷ bar s (d.suffix k) ∷ []) o₂ r) e
    (sent_then (omega arith) f (sent_payload (bar_of d k) (d.suffix k) (sym (bar_slot d k (λ z. omega arith))) g))

module _ {t : List ℕ} {s : ℕ} where
  pub select_none : {o : List ℕ} {g : Result Done Refusal} (k : ℕ) → live (view t) s k ≡ false → Says 0 0 0 g
      → Replied t s (select_rule (desk_at t s) k) o t o g
  unfolding select_rule desk
  select_none k e = replied_idle (rw e)

  pub select_done : {o t' o' : List ℕ} {n : ℕ} {g : Result Done Refusal} (k : ℕ) → live (view t) s k ≡ true
      → Sent o 0 (render ((desk_at t s).id k) ∷ bar s ((desk_at t s).suffix k) ∷ []) o' n → t' ≡ picked t s k → Says 0 2 n g
      → Replied t s (select_rule (desk_at t s) k) o t' o' g
  unfolding select_rule desk changed
  select_done k e w f = replied_done (select_tab k) (rw e) w f

-- ---- close

pub closed_sent : {t o o₁ o₂ o₃ : List ℕ} {s k i a b r : ℕ} → ReadyTab t o s k
    → Sent o 0 (framed 5 i 2 [] ∷ []) o₁ a
    → Sent o₁ a (only ((desk_at t s).last_tab k) (stop_process ((desk_at t s).process k))) o₂ b
    → Sent o₂ b (bar s (bar_of (desk_at t s) 0) ∷ []) o₃ r → i ≡ (desk_at t s).id k
    → Sent o 0 (close_actions (desk_at t s) k) o₃ r
unfolding close_actions bar_of desk
closed_sent {t} {o} {o₁} {o₂} {o₃} {s} {k} {i} {a} {b} {r} w f g h e =
    let d = desk_at t s in
    let m = w.roomy in
    let z = size_only (d.last_tab k) (stop_process (d.process k)) in
    let x = f.next in
    let y = f.same in
    subst (λ (j : ℕ). Sent o 0 (stop_tab j ∷ (only (d.last_tab k) (stop_process (d.process k)) ++ (bar s [] ∷ []))) o₃ r) e
    (sent_then (omega arith) f (sent_then (omega arith) g h))

close_is : (t : List ℕ) (s k : ℕ) → k ≡ view t (selected s) → k ≢ 0
    → close_rule (desk_at t s) ≡ reply (close_actions (desk_at t s) k) close_tab
unfolding close_rule desk
close_is t s k e h =
    rw (ne_eqb (view t (selected s)) 0 (λ z. h (e ∙ z)))
    (ap (λ (j : ℕ). reply (close_actions (desk_at t s) j) close_tab) (sym e))

count_closed : (d : Desk) (k : ℕ) (b : Bool) → d.last_tab k ≡ b → length (close_actions d k) ≡ cond b 3 2
unfolding close_actions only
count_closed d k true e = rw e
count_closed d k false e = rw e

module _ {t : List ℕ} {s : ℕ} where
  pub close_none : {o : List ℕ} {k : ℕ} {g : Result Done Refusal} → k ≡ view t (selected s) → k ≡ 0 → Says 0 0 0 g
      → Replied t s (close_rule (desk_at t s)) o t o g
  unfolding close_rule desk
  close_none e z = replied_idle (rw (eq-eqb (view t (selected s)) 0 (sym e ∙ z)))

  pub close_done : {o t' o' : List ℕ} {k n m : ℕ} {g : Result Done Refusal} (b : Bool) → k ≡ view t (selected s) → k ≢ 0
      → b ≡ (desk_at t s).last_tab k → Sent o 0 (close_actions (desk_at t s) k) o' n → t' ≡ closed t s
      → Says 0 m n g → m ≡ cond b 3 2 → Replied t s (close_rule (desk_at t s)) o t' o' g
  unfolding changed
  close_done {o} {t'} {o'} {k} {n} {m} {g} b e h l w f y c =
      replied_done close_tab (close_is t s k e h) w f
      (subst (λ (j : ℕ). Says 0 j n g) (c ∙ sym (count_closed (desk_at t s) k b (sym l))) y)

-- ---- what goes to the selected tab

module _ {t : List ℕ} {s : ℕ} (party tag : ℕ) (x : List ℕ) where
  pub pass_none : {o : List ℕ} {k : ℕ} {g : Result Done Refusal} → k ≡ view t (selected s) → k ≡ 0 → Says 0 0 0 g
      → Replied t s (pass_rule (desk_at t s) (λ (i : ℕ). framed party i tag x)) o t o g
  unfolding pass_rule desk
  pass_none e z = replied_idle (rw (eq-eqb (view t (selected s)) 0 (sym e ∙ z)))

  pub pass_done : {o o' : List ℕ} {k i n : ℕ} {g : Result Done Refusal} → k ≡ view t (selected s) → k ≢ 0 → i ≡ (desk_at t s).id k
      → Sent o 0 (framed party i tag x ∷ []) o' n → Says 0 1 n g
      → Replied t s (pass_rule (desk_at t s) (λ (i : ℕ). framed party i tag x)) o t o' g
  unfolding pass_rule desk changed
  pass_done {k = k} {i = i} e h j w y =
      replied_done stay
      (rw (ne_eqb (view t (selected s)) 0 (λ z. h (e ∙ z)))
      (ap (λ (j : ℕ). reply (framed party j tag x ∷ []) stay)
      (sym (j ∙ ap (λ (q : ℕ). (desk_at t s).id q) e))))
      w refl y

-- ---- keys

-- no key of F1 to F10
other_key : (k : ℕ) → (k < 14) ⊎ (23 < k) → within 14 23 k ≡ false
other_key k (inl l) = within_low 14 23 k l
other_key k (inr h) = within_high 14 23 k h

pub plain_is : (k : ℕ) → plain k ≡ leb 8 k && leb k 10 || eqb k 13 || leb 32 k && leb k 126
unfolding plain
plain_is k = refl

pub key_bad : {t o : List ℕ} {s : ℕ} {r : Bool} (k : ℕ) → (k < 14) ⊎ (23 < k) → k ≢ 25 → r ≡ plain k → r ≡ false
    → Replied t s (key_rule (desk_at t s) k) o t o (Err BadKey)
unfolding key_rule
key_bad k h e p z = replied_refused BadKey (rw (other_key k h, ne_eqb k 25 e, sym p ∙ z))

module _ {t o t' o' : List ℕ} {s : ℕ} {g : Result Done Refusal} (k : ℕ) where
  pub key_select : {w : ℕ} → w ≡ k → 14 ≤ k → k ≤ 23 → Replied t s (select_rule (desk_at t s) (w - 13)) o t' o' g
      → Replied t s (key_rule (desk_at t s) k) o t' o' g
  unfolding key_rule
  key_select {w} e l h r = rw (within_in 14 23 k l h) (subst (λ (j : ℕ). Replied t s (select_rule (desk_at t s) (j - 13)) o t' o' g) e r)

  pub key_close : k ≡ 25 → Replied t s (close_rule (desk_at t s)) o t' o' g
      → Replied t s (key_rule (desk_at t s) k) o t' o' g
  unfolding key_rule
  key_close e r = rw e r

  pub key_pass : {p : Bool} → (k < 14) ⊎ (23 < k) → k ≢ 25 → p ≡ plain k → p ≡ true → k < 256
      → Replied t s (pass_rule (desk_at t s) (λ (i : ℕ). framed 2 i 3 (k ∷ []))) o t' o' g
      → Replied t s (key_rule (desk_at t s) k) o t' o' g
  unfolding key_rule be
  key_pass h e p z l r =
      let m : k ≡ k % 256 = omega arith in
      rw (other_key k h, ne_eqb k 25 e, sym p ∙ z)
      (subst (λ (j : ℕ). Replied t s (pass_rule (desk_at t s) (λ (i : ℕ). framed 2 i 3 (j ∷ []))) o t' o' g) m r)
