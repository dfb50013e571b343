-- What an open sends and leaves at each exit of src/open.rt. Assumes nothing.
use Rattle.std.specs.Prelude.{ℕ, ◌+◌, ◌%◌, ◌≤◌, ◌<◌, ◌≡◌, Bool, true, false, not, cond, ◌≢◌, length, eqb, Result, Err}
use Rattle.std.proofs.Math.Path.{refl, sym, ap, ap₂, subst}
use Rattle.std.proofs.Common.{◌∙◌, arith}
use mathlib.Core.List.{List, [], ◌∷◌, ◌++◌}
use Rattle.terms.specs.Names.{folded, sound_book}
use Rattle.terms.specs.Laws.Fold.{length_folded}
use Rattle.fields.specs.Table.{view, opens, last, tab_id, owner_at, process_with, opened}
use Rattle.rules.specs.Rule.Frame.{be, Frame, framed}
use Rattle.rules.specs.Rule.Action.{start_process, start_tab, go, bar}
use Rattle.rules.specs.Rule.Desk.{Desk, desk, desk_at, Reply, reply, refuse, open_tab, changed, new_id}
use Rattle.rules.specs.Rule.Seat.{only, acceptable, open_actions, open_rule}
use Rattle.rules.specs.Rule.Refusal.{number_of}
use Rattle.rules.specs.Held.{Sent, Says, Replied, Taking, Found, book_number, open_number}
use Rattle.rules.proofs.Laws.Open.{accepted}
use Rattle.rules.proofs.Laws.Sent.{sent_then, sent_payload, size_only}
use Rattle.rules.proofs.Steps.Decide.{replied_refused, replied_done}
use Rattle.rules.proofs.Steps.Number.{refusal_numbered}
use Rattle.rules.specs.declared.verdict.Done.{Done}
use Rattle.rules.specs.declared.verdict.Refusal.{Refusal}

-- ---- the rule by its number

open_number_lem : (d : Desk) (b x : List ℕ) (n : ℕ) → n ≡ open_number d b x → n ≢ 0 → open_rule d b x ≡ refuse n
unfolding open_number book_number open_rule
open_number_lem d b x n e h = by (sound_book b) (acceptable b x) (eqb d.tab_count 10) d.spent e
  where
    number : (s a : Bool) → ℕ
    number s a = cond (not s) 6 (cond (not a) 7 0)

    by : (s a full spent : Bool) → n ≡ cond (eqb (number s a) 0) (cond full 8 (cond spent 9 0)) (number s a)
        → cond (not s) (refuse 6)
        (cond (not a) (refuse 7)
        (cond full (refuse 8)
        (cond spent (refuse 9) (reply (open_actions d d.next_id x) (open_tab x)))))
        ≡ refuse n
    by false a f p k = ap refuse (sym k)
    by true false f p k = ap refuse (sym k)
    by true true true p k = ap refuse (sym k)
    by true true false true k = ap refuse (sym k)
    by true true false false k = absurd (h k)

open_takes : (t : List ℕ) (s : ℕ) (b x : List ℕ) → open_number (desk_at t s) b x ≡ 0
    → open_rule (desk_at t s) b x ≡ reply (open_actions (desk_at t s) (tab_id s (view t (opens s) + 1)) x) (open_tab x)
unfolding open_rule desk
open_takes t s b x e =
    let a = accepted (desk_at t s) b x e in rw (a.book, a.suffix, a.slot, a.serial)

count_open : (d : Desk) (i : ℕ) (x : List ℕ) (c : Bool) → d.new x ≡ c → length (open_actions d i x) ≡ cond c 4 3
unfolding open_actions only
count_open d i x true e = rw e
count_open d i x false e = rw e

is_new : {owner : ℕ} {new : Bool} (t : List ℕ) (s : ℕ) (x : List ℕ) → Found t s x owner new → new ≡ (desk_at t s).new x
unfolding desk
is_new t s x u = u.new= ∙ ap (λ (y : ℕ). eqb (process_with (view t) y x) 0) u.owner=

-- ---- the frames

pub process_sent : {o o' : List ℕ} {n r : ℕ} (owner : ℕ) (x : List ℕ) → owner < 256
    → Sent o 0 (framed 5 n 3 ((owner ∷ []) ++ folded x) ∷ []) o' r → Sent o 0 (start_process n owner (folded x) ∷ []) o' r
unfolding be
process_sent owner x h w =
    let m : owner ≡ owner % 256 = omega arith in
    sent_payload _ _ (ap (λ (y : ℕ). (y ∷ []) ++ folded x) m) w

pub tab_sent : {o o₁ o₂ o₃ : List ℕ} {at a b r s i : ℕ} (x : List ℕ) → at + 200 ≤ length o → length x ≤ 64
    → Sent o at (start_tab i ∷ []) o₁ a → Sent o₁ a (go i (folded x) ∷ []) o₂ b → Sent o₂ b (bar s (folded x) ∷ []) o₃ r
    → Sent o at (start_tab i ∷ go i (folded x) ∷ bar s (folded x) ∷ []) o₃ r
tab_sent x h l f g k =
    let m = length_folded x in
    let n = f.next in
    let y = f.same in
    sent_then (omega arith) f (sent_then (omega arith) g k)

-- start process or not, and then the tab's: of whether it is new, the process's number, the owner and the tab's id
opening : ℕ → List ℕ → Bool → ℕ → ℕ → ℕ → List Frame
opening s x new n owner i =
    only (new) (start_process n owner (folded x)) ++ (start_tab i ∷ go i (folded x) ∷ bar s (folded x) ∷ [])

pub opening_size : (n owner : ℕ) (x : List ℕ) → length (start_process n owner (folded x)).payload ≡ 1 + length x
unfolding be
opening_size n owner x = let e = length_folded x in omega arith

module _ (t : List ℕ) (s : ℕ) (x : List ℕ) where
  pub open_sent : {o o₁ o₂ : List ℕ} {owner n i a r : ℕ} {new : Bool} → Taking t o s x → Found t s x owner new → n ≡ view t last
      → i ≡ new_id (view t) s → Sent o 0 (only new (start_process (n + 1) owner (folded x))) o₁ a
      → Sent o₁ a (start_tab i ∷ go i (folded x) ∷ bar s (folded x) ∷ []) o₂ r
      → Sent o 0 (open_actions (desk_at t s) (new_id (view t) s) x) o₂ r
  unfolding open_actions desk opening
  open_sent {o} {o₁} {o₂} {owner} {n} {i} {a} {r} {new} w u en ei f g =
      let h = w.roomy in
      let l = w.takes.long.high in
      let z = size_only new (start_process (n + 1) owner (folded x)) in
      let m = opening_size (n + 1) owner x in
      let e : opening s x new (n + 1) owner i ≡ opening s x ((desk_at t s).new x) (view t last + 1) (owner_at (view t) s) (new_id (view t) s) =
      ap (λ (y : Bool). opening s x y (n + 1) owner i) (is_new t s x u)
      ∙ ap (λ (y : ℕ). opening s x ((desk_at t s).new x) (y + 1) owner i) en
      ∙ ap₂ (λ (y j : ℕ). opening s x ((desk_at t s).new x) (view t last + 1) y j) u.owner= ei in
      subst (λ (y : List Frame). Sent o 0 y o₂ r) e (sent_then (omega arith) f g)

  -- ---- the exits

  pub take_done : {o t' o' : List ℕ} {n m owner : ℕ} {new : Bool} {g : Result Done Refusal} (c : Bool) → Found t s x owner new → new ≡ c
      → Sent o 0 (open_actions (desk_at t s) (new_id (view t) s) x) o' n → t' ≡ opened t s x → Says 0 m n g → m ≡ cond c 4 3
      → Replied t s (reply (open_actions (desk_at t s) (new_id (view t) s) x) (open_tab x)) o t' o' g
  unfolding changed
  take_done {n = n} {g = g} c u ec w f y j =
      replied_done (open_tab x) refl w f
      (subst (λ (i : ℕ). Says 0 i n g)
      (j ∙ sym (count_open (desk_at t s) (new_id (view t) s) x c (sym (is_new t s x u) ∙ ec))) y)

  pub open_refused : {o : List ℕ} (b : List ℕ) (why : Refusal) → number_of why ≡ open_number (desk_at t s) b x
      → Replied t s (open_rule (desk_at t s) b x) o t o (Err why)
  open_refused b why e =
      replied_refused why (open_number_lem (desk_at t s) b x (number_of why) e (refusal_numbered why))

  pub open_done : {o t' o' : List ℕ} {g : Result Done Refusal} (b : List ℕ) → 0 ≡ open_number (desk_at t s) b x
      → Replied t s (reply (open_actions (desk_at t s) (new_id (view t) s) x) (open_tab x)) o t' o' g
      → Replied t s (open_rule (desk_at t s) b x) o t' o' g
  open_done {o} {t'} {o'} {g} b e w =
      subst (λ (r : Reply). Replied t s r o t' o' g) (sym (open_takes t s b x (sym e))) w
