-- What a step of a sound table comes to: a constructor for each outcome that the rules have, with what is known there. Whoever
-- reasons about steps, and about histories of them, matches on it and needs no rule. Assumes nothing.
use Rattle.std.specs.Prelude.{ℕ, ◌+◌, ◌≤◌, ◌≡◌, refl, true, false, not, ◌&&◌, ◌≢◌, List, [], ◌∷◌, length, get_or, take, drop}
use Rattle.terms.specs.Names.{folded, sound_book, num}
use Rattle.fields.specs.Table.{selected, row, tabs, last, view, owner_at}
use Rattle.fields.specs.Table.{process_with, Openable, Closable, opened, picked, closed, waits, marked, unmarked, TabLive}
use Rattle.fields.specs.Table.{sound_table}
use Rattle.fields.specs.declared.mark.Mark.TheVariants.{Cookie, Document}
use Rattle.rules.specs.Rule.Frame.{Frame}
use Rattle.rules.specs.Rule.Action.{bar, paint, go, render, key, mouse, error, document, cookie, set, get, fetch}
use Rattle.rules.specs.Rule.Action.{start_tab, stop_tab, start_process, stop_process, open_socket}
use Rattle.rules.specs.Rule.Allow.{cookie_domain, socket_allowed, is_url}
use Rattle.rules.specs.Rule.Seat.{acceptable, plain}
use Rattle.rules.specs.Rule.Step.{Outcome, refused}
use Rattle.rules.specs.Rule.Desk.{process_at, suffix_at, new_id, TabAt}
use Rattle.rules.proofs.Laws.Line.{Head}

-- the event is from a party's id, with a tag
pub record From (e : List ℕ) (party tag i : ℕ) : Type 0 where
  pub head : Head e party tag
  pub id : num e 1 4 ≡ i

pub at_live : {t : List ℕ} {i s k : ℕ} → sound_table t ≡ true → TabAt t i s k → TabLive t s k
at_live e w = record { sound = e; there = w.there }

-- a key of this code
pub record Code (e : List ℕ) (k : ℕ) : Type 0 where
  pub one : length e ≡ 11
  pub is : get_or e 10 0 ≡ k

-- a store's domain and its cookie, and what is brought to a tab
abbrev pub domain_in : List ℕ → List ℕ
domain_in e = take (get_or e 10 0) (drop 11 e)

abbrev pub cookie_in : List ℕ → List ℕ
cookie_in e = drop (10 + (1 + get_or e 10 0)) e

pub record Brings (e : List ℕ) (i : ℕ) : Type 0 where
  pub long : 14 ≤ length e
  pub tab : num e 10 4 ≡ i

-- why a tab's request of a tag is denied
pub data Denies (t e : List ℕ) (s k : ℕ) : ℕ → Type 0 where
  no_socket : 12 ≤ length e → socket_allowed (num e 10 2) (drop 12 e) (suffix_at t s k) ≡ false → Denies t e s k 2
  no_url : is_url (drop 10 e) && not (waits (view t) s k Document) ≡ false → Denies t e s k 3
  no_store : 11 + get_or e 10 0 ≤ length e → cookie_domain (domain_in e) (suffix_at t s k) ≡ false → Denies t e s k 4
  no_retrieve : cookie_domain (drop 10 e) (suffix_at t s k) && not (waits (view t) s k Cookie) ≡ false → Denies t e s k 5

-- an open that is taken: what is typed is the event's payload
pub record Opens (t b e : List ℕ) (s : ℕ) : Type 0 where
  pub from : From e 1 3 s
  pub book : sound_book b ≡ true
  pub suffix : acceptable b (drop 10 e) ≡ true
  pub takes : Openable t s (drop 10 e)

-- a step that is done
abbrev pub did : List Frame → List ℕ → Outcome
did l u = record { number = 0; actions = l; table = u }

pub data Happens (t b e : List ℕ) : Outcome → Type 0 where
  -- nothing to do, or refused; never as unsound
  nothing : (n : ℕ) → n ≢ 2 → Happens t b e (refused n t)
  -- an open: the tab joins its owner's process of this suffix, or there is none and one is started
  joins : (s : ℕ) → Opens t b e s → process_with (view t) (owner_at (view t) s) (drop 10 e) ≢ 0
      → Happens t b e
      (did (start_tab (new_id (view t) s) ∷ go (new_id (view t) s) (folded (drop 10 e)) ∷ bar s (folded (drop 10 e)) ∷ [])
      (opened t s (drop 10 e)))
  renews : (s : ℕ) → Opens t b e s → process_with (view t) (owner_at (view t) s) (drop 10 e) ≡ 0
      → Happens t b e
      (did
      (start_process (view t last + 1) (owner_at (view t) s) (folded (drop 10 e))
      ∷ start_tab (new_id (view t) s) ∷ go (new_id (view t) s) (folded (drop 10 e)) ∷ bar s (folded (drop 10 e)) ∷ [])
      (opened t s (drop 10 e)))
  -- keys 14 to 23
  selects : (s k i : ℕ) → From e 1 1 s → Code e (k + 13) → TabAt t i s k
      → Happens t b e (did (render i ∷ bar s (suffix_at t s k) ∷ []) (picked t s k))
  -- key 25: the process stays for other tabs, or was left without one
  leaves : (s i : ℕ) → From e 1 1 s → Code e 25 → Closable t s → TabAt t i s (view t (selected s))
      → view t (tabs (view t (row s (view t (selected s))))) ≢ 1
      → Happens t b e (did (stop_tab i ∷ bar s [] ∷ []) (closed t s))
  ends : (s i : ℕ) → From e 1 1 s → Code e 25 → Closable t s → TabAt t i s (view t (selected s))
      → view t (tabs (view t (row s (view t (selected s))))) ≡ 1
      → Happens t b e (did (stop_tab i ∷ stop_process (process_at t s (view t (selected s))) ∷ bar s [] ∷ []) (closed t s))
  -- a plain key, and the mouse, for the selected tab
  types : (s i : ℕ) → From e 1 1 s → length e ≡ 11 → plain (get_or e 10 0) ≡ true → TabAt t i s (view t (selected s))
      → Happens t b e (did (key i (get_or e 10 0) ∷ []) t)
  points : (s i : ℕ) → From e 1 2 s → length e ≡ 14 → TabAt t i s (view t (selected s))
      → Happens t b e (did (mouse i (drop 10 e) ∷ []) t)
  -- what a tab asks for, and is denied
  paints : (i s k : ℕ) → From e 2 1 i → length e ≡ 22 → TabAt t i s k → view t (selected s) ≡ k
      → Happens t b e (did (paint s (drop 10 e) ∷ []) t)
  sockets : (i s k : ℕ) → From e 2 2 i → 12 ≤ length e → TabAt t i s k
      → socket_allowed (num e 10 2) (drop 12 e) (suffix_at t s k) ≡ true
      → Happens t b e (did (open_socket i (num e 10 2) (drop 12 e) ∷ []) t)
  fetches : (i s k : ℕ) → From e 2 3 i → TabAt t i s k → is_url (drop 10 e) ≡ true → waits (view t) s k Document ≡ false
      → Happens t b e (did (fetch i (drop 10 e) ∷ []) (marked t s k Document))
  stores : (i s k : ℕ) → From e 2 4 i → 11 + get_or e 10 0 ≤ length e → TabAt t i s k
      → cookie_domain (domain_in e) (suffix_at t s k) ≡ true
      → Happens t b e (did (set (process_at t s k) (domain_in e) (cookie_in e) ∷ []) t)
  gets : (i s k : ℕ) → From e 2 5 i → TabAt t i s k → cookie_domain (drop 10 e) (suffix_at t s k) ≡ true
      → waits (view t) s k Cookie ≡ false
      → Happens t b e (did (get (process_at t s k) i (drop 10 e) ∷ []) (marked t s k Cookie))
  denies : (tag i s k : ℕ) → From e 2 tag i → TabAt t i s k → Denies t e s k tag → Happens t b e (did (error i ∷ []) t)
  -- what a process and the network send to a tab
  results : (n i s k : ℕ) → From e 3 1 n → Brings e i → TabAt t i s k → process_at t s k ≡ n → waits (view t) s k Cookie ≡ true
      → Happens t b e (did (cookie i (drop 14 e) ∷ []) (unmarked t s k Cookie))
  documents : (i s k : ℕ) → From e 4 1 0 → Brings e i → TabAt t i s k → waits (view t) s k Document ≡ true
      → Happens t b e (did (document i (drop 14 e) ∷ []) (unmarked t s k Document))

-- a refusal: its number, no action, the table as it was
pub refused_is : (n : ℕ) (t : List ℕ) → refused n t ≡ record { number = n; actions = []; table = t }
unfolding refused
refused_is n t = refl
