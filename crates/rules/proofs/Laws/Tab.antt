-- Every reply to a tab, and to what is sent to a tab, is orderly. Assumes nothing.
use Rattle.std.specs.Prelude.{◌≡◌, Bool, true, ◌&&◌, cond, ℕ, ◌+◌, ◌≤◌, length}
use Rattle.std.proofs.Math.Bool.{not}
use mathlib.Core.List.{List, [], ◌∷◌}
use Rattle.std.proofs.Common.{arith, length-append}
use Rattle.std.proofs.Math.Dec.{eqb}
use Rattle.std.proofs.lemmas.Bool.{not-true}
use Rattle.terms.specs.Names.{is_name, under}
use Rattle.terms.specs.Laws.Bools.{and_left, and_right}
use Rattle.terms.specs.Laws.Fold.{length_folded}
use Rattle.terms.specs.Laws.Name.{name_length}
use Rattle.fields.specs.declared.mark.Mark.{Mark}
use Rattle.fields.specs.declared.mark.Mark.TheVariants.{Cookie, Document}
use Rattle.fields.specs.Table.{view, sound_table, live, waits}
use Rattle.fields.specs.Promises.{mark_sound, unmark_sound}
use Rattle.rules.specs.Rule.Frame.{Frame, frames}
use Rattle.rules.specs.Rule.Action.{set, get, fetch, open_socket}
use Rattle.rules.specs.Rule.Desk.{Desk, desk, desk_at, refuse, reply, changed, Change, stay, set_mark, clear_mark}
use Rattle.rules.specs.Rule.Allow.{cookie_domain, is_url}
use Rattle.rules.specs.Rule.Tab.{ask, display_rule, socket_rule, url_rule, store_rule, retrieve_rule, result_rule}
use Rattle.rules.specs.Rule.Tab.{document_rule}
use Rattle.rules.proofs.Laws.Cases.{either}
use Rattle.rules.proofs.Laws.Frame.{length_be, length_frames}
use Rattle.rules.proofs.Laws.Orderly.{OrderlyAt, no_reply, ok_reply, ok_stay}

-- ---- payloads

pub set_length : (n : ℕ) (domain x : List ℕ) → length (set n domain x).payload ≡ 1 + length domain + length x
set_length n domain x = simp (length-append, length_be, length_folded) (omega arith)

pub get_length : (n i : ℕ) (domain : List ℕ) → length (get n i domain).payload ≡ 4 + length domain
get_length n i domain = simp (length-append, length_be, length_folded)

pub socket_length : (i port : ℕ) (host : List ℕ) → length (open_socket i port host).payload ≡ 2 + length host
socket_length i port host = simp (length-append, length_be, length_folded)

-- the largest store
pub store_largest : (d : Desk) (k : ℕ) (domain x : List ℕ) → cookie_domain domain (d.suffix k) ≡ true
    → 1 + length domain + length x ≡ 4096 → length (frames (store_rule d k domain x).actions) ≡ 4106
unfolding store_rule ask reply
store_largest d k domain x e h =
    let a = set (d.process k) domain x in
    rw e (omega (arith, length_frames (a ∷ []), set_length (d.process k) domain x))

-- a cookie's domain is a name
pub domain_length : (domain suffix : List ℕ) → cookie_domain domain suffix ≡ true → length domain ≤ 253
unfolding cookie_domain
domain_length domain suffix e = (name_length domain (and_left (is_name domain) (under domain suffix) e)).high

-- ---- the tab in slot k of seat s is live

module _ (t : List ℕ) (s k : ℕ) (there : live (view t) s k ≡ true) where
  -- a mark that is not there can be set, and one that is there can be cleared
  set_kept : (m : Mark) (a : Bool) → a && not (waits (view t) s k m) ≡ true → sound_table t ≡ true
      → sound_table (changed t s (set_mark k m)) ≡ true
  unfolding changed
  set_kept m a h e =
      let w = waits (view t) s k m in
      mark_sound t s k m (record { sound = e; there = there }) (not-true w (and_right a (not w) h))

  clear_kept : (m : Mark) → waits (view t) s k m ≡ true → sound_table t ≡ true
      → sound_table (changed t s (clear_mark k m)) ≡ true
  unfolding changed
  clear_kept m h e = unmark_sound t s k m (record { sound = e; there = there }) h

  -- ---- from the tab

  ask_orderly : (allowed : Bool) (i : ℕ) (a : Frame) (c : Change) → (allowed ≡ true → length a.payload ≤ 4096)
      → (allowed ≡ true → sound_table t ≡ true → sound_table (changed t s c) ≡ true)
      → OrderlyAt t s (ask allowed i a c)
  unfolding ask
  ask_orderly allowed i a c n m =
      either (OrderlyAt t s) allowed _ _
      (λ h. let z = n h in ok_reply t s _ c (omega arith) (omega arith) (m h))
      (λ _. ok_stay t s _ (omega arith) (omega arith))

  pub display_orderly : (x : List ℕ) → length x ≤ 4096 → OrderlyAt t s (display_rule (desk_at t s) k x)
  unfolding display_rule
  display_orderly x n =
      either (OrderlyAt t s) (eqb (desk_at t s).chosen k) _ _ (λ _. ok_stay t s _ (omega arith) (omega arith))
      (λ _. ok_stay t s [] (omega arith) (omega arith))

  pub socket_orderly : (port : ℕ) (host : List ℕ) → 2 + length host ≤ 4096
      → OrderlyAt t s (socket_rule (desk_at t s) k port host)
  unfolding socket_rule changed
  socket_orderly port host n =
      let i = (desk_at t s).id k in
      let z = socket_length i port host in
      ask_orderly _ i (open_socket i port host) stay (λ _. omega arith) (λ _ e. e)

  pub url_orderly : (u : List ℕ) → length u ≤ 4096 → OrderlyAt t s (url_rule (desk_at t s) k u)
  unfolding url_rule desk
  url_orderly u n =
      let i = (desk_at t s).id k in
      ask_orderly _ i (fetch i u) (set_mark k Document) (λ _. n) (set_kept Document (is_url u))

  pub store_orderly : (domain x : List ℕ) → 1 + length domain + length x ≤ 4096
      → OrderlyAt t s (store_rule (desk_at t s) k domain x)
  unfolding store_rule changed
  store_orderly domain x n =
      let d = desk_at t s in
      let z = set_length (d.process k) domain x in
      ask_orderly _ (d.id k) (set (d.process k) domain x) stay (λ _. omega arith) (λ _ e. e)

  pub retrieve_orderly : (domain : List ℕ) → OrderlyAt t s (retrieve_rule (desk_at t s) k domain)
  unfolding retrieve_rule desk
  retrieve_orderly domain =
      let d = desk_at t s in
      let named = cookie_domain domain (d.suffix k) in
      let waiting = waits (view t) s k Cookie in
      let z = get_length (d.process k) (d.id k) domain in
      ask_orderly (named && not waiting) (d.id k) (get (d.process k) (d.id k) domain) (set_mark k Cookie)
      (λ h. let n = domain_length domain (d.suffix k) (and_left named (not waiting) h) in omega arith)
      (set_kept Cookie named)

  -- ---- to it

  passed_orderly : (allowed : Bool) (a : Frame) (m : Mark) → (allowed ≡ true → waits (view t) s k m ≡ true) → length a.payload ≤ 4096
      → OrderlyAt t s (cond allowed (reply (a ∷ []) (clear_mark k m)) (refuse 10))
  passed_orderly allowed a m w n =
      either (OrderlyAt t s) allowed _ _
      (λ h. ok_reply t s _ (clear_mark k m) (omega arith) (omega arith) (clear_kept m (w h)))
      (λ _. no_reply t s 10 (omega arith))

  pub result_orderly : (n : ℕ) (x : List ℕ) → length x ≤ 4096 → OrderlyAt t s (result_rule (desk_at t s) n k x)
  unfolding result_rule desk
  result_orderly n x h =
      let from = eqb ((desk_at t s).process k) n in
      let waiting = waits (view t) s k Cookie in
      passed_orderly (from && waiting) _ Cookie (and_right from waiting) h

  pub document_orderly : (x : List ℕ) → length x ≤ 4096 → OrderlyAt t s (document_rule (desk_at t s) k x)
  unfolding document_rule desk
  document_orderly x h = passed_orderly (waits (view t) s k Document) _ Document (λ e. e) h
