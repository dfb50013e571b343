-- Every reply of a rule, made in a sound table, is one of the outcomes that Happens lists. Assumes nothing.
use Rattle.std.specs.Prelude.{ℕ, ◌+◌, ◌-◌, ◌≤◌, ◌≡◌, refl, Bool, true, false, not, ◌&&◌, ◌≢◌, List, [], ◌∷◌, length}
use native.Mathlib.Omega.{arith}
use Rattle.std.proofs.Math.ListN.{get_or, drop}
use Rattle.std.proofs.Math.Dec.{eqb}
use borrow.Author.Tests.{eqb-true, eqb-false, not-true, not-false}
use Rattle.terms.specs.Base.{within}
use Rattle.terms.specs.Names.{sound_book, num}
use Rattle.terms.specs.Laws.Bools.{cases, and_left, and_right, within_at}
use Rattle.fields.specs.Table.{tenant, selected, row, tabs, view, sound_table, live, owner_at, process_with, waits}
use Rattle.fields.specs.Table.{Closable}
use Rattle.fields.specs.declared.mark.Mark.TheVariants.{Cookie, Document}
use Rattle.fields.specs.Laws.Asked.{let_seat, selected_tab}
use Rattle.fields.specs.Laws.Tab.{tab_found}
use Rattle.fields.specs.Laws.Table.{table_facts}
use Rattle.fields.specs.Laws.There.{live_there}
use Rattle.rules.specs.Rule.Frame.{Frame}
use Rattle.rules.specs.Rule.Action.{key}
use Rattle.rules.specs.Rule.Desk.{desk, desk_at, Change, changed, Reply, reply, refuse, id_at, process_at, suffix_at, TabAt}
use Rattle.rules.specs.Rule.Allow.{cookie_domain, is_url}
use Rattle.rules.specs.Rule.Seat.{only, acceptable, open_actions, open_rule, select_rule, close_actions, close_rule, pass_rule}
use Rattle.rules.specs.Rule.Seat.{plain, key_rule}
use Rattle.rules.specs.Rule.Tab.{ask, display_rule, socket_rule, url_rule, store_rule, retrieve_rule, result_rule, document_rule}
use Rattle.rules.specs.Rule.Step.{refused, made}
use Rattle.rules.proofs.Laws.Cases.{either}
use Rattle.rules.proofs.Laws.Open.{openable}
use Rattle.rules.proofs.Laws.Happens.{From, Code, domain_in, cookie_in, Brings, Denies, no_socket, no_url, no_store}
use Rattle.rules.proofs.Laws.Happens.{no_retrieve, Opens, did, Happens, nothing, joins, renews, selects, leaves, ends}
use Rattle.rules.proofs.Laws.Happens.{types, paints, sockets, fetches, stores, gets, denies, results, documents}

-- the reply of a rule, made at seat s
abbrev pub HappensAt : List ℕ → List ℕ → List ℕ → ℕ → Reply → Type 0
HappensAt t b e s r = Happens t b e (made t s r)

-- a live tab of a sound table, by its own id
pub tab_at_lem : (t : List ℕ) (s k : ℕ) → sound_table t ≡ true → live (view t) s k ≡ true → TabAt t (id_at t s k) s k
tab_at_lem t s k sound l =
    let r = live_there t s k l in
    record { place = tab_found (view t) s k (table_facts t sound).shows r.0 r.1 l; there = l; id = refl }

-- ---- from a seat that is let

module _ (t b e : List ℕ) (s : ℕ) (sound : sound_table t ≡ true) (l : view t (tenant s) ≢ 0) where
  pub open_happens : From e 1 3 s → HappensAt t b e s (open_rule (desk_at t s) b (drop 10 e))
  unfolding open_rule open_actions only desk changed reply refuse refused made
  open_happens f =
      let d = desk_at t s in
      let x = drop 10 e in
      let p = process_with (view t) (owner_at (view t) s) x in
      either (HappensAt t b e s) (not (sound_book b)) _ _ (λ _. nothing 6 (λ z. omega arith))
      (λ o. either (HappensAt t b e s) (not (acceptable b x)) _ _ (λ _. nothing 7 (λ z. omega arith))
      (λ a. either (HappensAt t b e s) (eqb d.tab_count 10) _ _ (λ _. nothing 8 (λ z. omega arith))
      (λ n. either (HappensAt t b e s) d.spent _ _ (λ _. nothing 9 (λ z. omega arith))
      (λ m.
      let ok = not-false (acceptable b x) a in
      let w : Opens t b e s
      = record { from = f; book = not-false (sound_book b) o; suffix = ok; takes = openable t b x s sound l ok n m } in
      cases (eqb p 0) (λ h. rw h (renews s w (eqb-true p 0 h))) (λ h. rw h (joins s w (eqb-false p 0 h)))))))

  select_happens : From e 1 1 s → length e ≡ 11 → within 14 23 (get_or e 10 0) ≡ true
      → HappensAt t b e s (select_rule (desk_at t s) (get_or e 10 0 - 13))
  unfolding select_rule desk changed reply refused made
  select_happens f n h =
      let k = get_or e 10 0 - 13 in
      let r = (within_at 14 23 (get_or e 10 0) h).low in
      let c : Code e (k + 13) = record { one = n; is = omega arith } in
      either (HappensAt t b e s) (live (view t) s k) _ _ (λ there. selects s k _ f c (tab_at_lem t s k sound there))
      (λ _. nothing 0 (λ z. omega arith))

  -- the selected tab
  closable : eqb (view t (selected s)) 0 ≡ false → Closable t s
  closable h = record { sound = sound; seat = let_seat t s l; picked = eqb-false (view t (selected s)) 0 h }

  chosen_at_lem : Closable t s → TabAt t (id_at t s (view t (selected s))) s (view t (selected s))
  chosen_at_lem w = tab_at_lem t s (view t (selected s)) sound (selected_tab w).there

  close_happens : From e 1 1 s → Code e 25 → HappensAt t b e s (close_rule (desk_at t s))
  unfolding close_rule close_actions only desk changed reply refused made
  close_happens f h =
      let k = view t (selected s) in
      let n = view t (tabs (view t (row s k))) in
      either (HappensAt t b e s) (eqb k 0) _ _ (λ _. nothing 0 (λ z. omega arith))
      (λ z.
      let w = closable z in
      cases (eqb n 1) (λ one. rw one (ends s _ f h w (chosen_at_lem w) (eqb-true n 1 one)))
      (λ more. rw more (leaves s _ f h w (chosen_at_lem w) (eqb-false n 1 more))))

  pub pass_happens : (a : ℕ → Frame)
      → ((i : ℕ) → TabAt t i s (view t (selected s)) → Happens t b e (did (a i ∷ []) t))
      → HappensAt t b e s (pass_rule (desk_at t s) a)
  unfolding pass_rule desk changed reply refused made
  pass_happens a g =
      either (HappensAt t b e s) (eqb (view t (selected s)) 0) _ _ (λ _. nothing 0 (λ z. omega arith))
      (λ z. g _ (chosen_at_lem (closable z)))

  pub key_happens : From e 1 1 s → length e ≡ 11 → HappensAt t b e s (key_rule (desk_at t s) (get_or e 10 0))
  unfolding key_rule changed refuse refused made
  key_happens f n =
      let k = get_or e 10 0 in
      either (HappensAt t b e s) (within 14 23 k) _ _ (λ h. select_happens f n h)
      (λ _. either (HappensAt t b e s) (eqb k 25) _ _ (λ h. close_happens f (record { one = n; is = eqb-true k 25 h }))
      (λ _. either (HappensAt t b e s) (plain k) _ _ (λ h. pass_happens (λ i. key i k) (λ i w. types s i f n h w))
      (λ _. nothing 5 (λ z. omega arith))))

-- ---- from a live tab, the one in slot k of seat s, and to it

module _ (t b e : List ℕ) (s k : ℕ) (w : TabAt t (id_at t s k) s k) where
  -- allowed, or denied
  ask_happens : {tag : ℕ} → From e 2 tag (id_at t s k) → (allowed : Bool) (a : Frame) (c : Change)
      → (allowed ≡ true → Happens t b e (did (a ∷ []) (changed t s c))) → (allowed ≡ false → Denies t e s k tag)
      → HappensAt t b e s (ask allowed (id_at t s k) a c)
  unfolding ask changed reply made
  ask_happens {tag} f allowed a c g d = either (HappensAt t b e s) allowed _ _ g (λ h. denies tag _ s k f w (d h))

  pub display_happens : From e 2 1 (id_at t s k) → length e ≡ 22
      → HappensAt t b e s (display_rule (desk_at t s) k (drop 10 e))
  unfolding display_rule desk changed reply refused made
  display_happens f n =
      either (HappensAt t b e s) (eqb (view t (selected s)) k) _ _
      (λ h. paints _ s k f n w (eqb-true (view t (selected s)) k h)) (λ _. nothing 0 (λ z. omega arith))

  pub socket_happens : From e 2 2 (id_at t s k) → 12 ≤ length e
      → HappensAt t b e s (socket_rule (desk_at t s) k (num e 10 2) (drop 12 e))
  unfolding socket_rule desk changed
  socket_happens f n = ask_happens f _ _ _ (λ h. sockets _ s k f n w h) (λ h. no_socket n h)

  pub url_happens : From e 2 3 (id_at t s k) → HappensAt t b e s (url_rule (desk_at t s) k (drop 10 e))
  unfolding url_rule desk changed
  url_happens f =
      let u = is_url (drop 10 e) in
      let waiting = waits (view t) s k Document in
      ask_happens f _ _ _
      (λ h. fetches _ s k f w (and_left u (not waiting) h) (not-true waiting (and_right u (not waiting) h))) (λ h. no_url h)

  pub store_happens : From e 2 4 (id_at t s k) → 11 + get_or e 10 0 ≤ length e
      → HappensAt t b e s (store_rule (desk_at t s) k (domain_in e) (cookie_in e))
  unfolding store_rule desk changed
  store_happens f n = ask_happens f _ _ _ (λ h. stores _ s k f n w h) (λ h. no_store n h)

  pub retrieve_happens : From e 2 5 (id_at t s k) → HappensAt t b e s (retrieve_rule (desk_at t s) k (drop 10 e))
  unfolding retrieve_rule desk changed
  retrieve_happens f =
      let named = cookie_domain (drop 10 e) (suffix_at t s k) in
      let waiting = waits (view t) s k Cookie in
      ask_happens f _ _ _
      (λ h. gets _ s k f w (and_left named (not waiting) h) (not-true waiting (and_right named (not waiting) h)))
      (λ h. no_retrieve h)

  pub result_happens : (n : ℕ) → From e 3 1 n → Brings e (id_at t s k)
      → HappensAt t b e s (result_rule (desk_at t s) n k (drop 14 e))
  unfolding result_rule desk changed reply refuse refused made
  result_happens n f to =
      let own = eqb (process_at t s k) n in
      let waiting = waits (view t) s k Cookie in
      either (HappensAt t b e s) (own && waiting) _ _
      (λ h. results n _ s k f to w (eqb-true (process_at t s k) n (and_left own waiting h)) (and_right own waiting h))
      (λ _. nothing 10 (λ z. omega arith))

  pub document_happens : From e 4 1 0 → Brings e (id_at t s k) → HappensAt t b e s (document_rule (desk_at t s) k (drop 14 e))
  unfolding document_rule desk changed reply refuse refused made
  document_happens f to =
      either (HappensAt t b e s) (waits (view t) s k Document) _ _ (λ h. documents _ s k f to w h)
      (λ _. nothing 10 (λ z. omega arith))
