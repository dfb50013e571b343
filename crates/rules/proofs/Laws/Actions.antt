-- Whence the actions of a step of a sound table came: each from the event that the rule sheet has for it, and no two of one kind.
-- Assumes nothing.
use Rattle.std.specs.Prelude.{ℕ, ◌+◌, ◌≤◌, ◌<◌, ◌≡◌, refl, true, ◌≢◌, length, drop}
use Rattle.std.proofs.Common.{sym, ◌∙◌, arith, length-take, length-drop}
use Rattle.std.proofs.Math.Path.{ap}
use mathlib.Core.List.{List, ◌++◌}
use Rattle.std.proofs.Math.ListN.{get_or}
use Rattle.terms.specs.Base.{Bytes}
use Rattle.terms.specs.Names.{num}
use Rattle.terms.specs.Laws.Num.{num_lt}
use Rattle.fields.specs.Table.{tenant, most_opens, view, sound_table}
use Rattle.fields.specs.Laws.Asked.{live_used}
use Rattle.fields.specs.Laws.Leave.{let_of}
use Rattle.fields.specs.Laws.Table.{table_facts}
use Rattle.fields.specs.Laws.There.{live_there}
use Rattle.rules.specs.Rule.Frame.{be, framed, bytes}
use Rattle.rules.specs.Rule.Event.{part, field}
use Rattle.rules.specs.Rule.Desk.{process_at, TabAt}
use Rattle.rules.specs.Rule.Step.{Outcome}
use Rattle.rules.specs.Rule.Call.{Every, none, more, given, kinds_apart}
use Rattle.rules.specs.Rule.Whence as whence
use Rattle.rules.specs.Rule.Whence.{Opening, Pressing, Pointing, Asking, Bringing, HangsOn, Denied, storing, Whence}
use Rattle.rules.proofs.Laws.Memory.{frame_is, after_num, store_is, key_is}
use Rattle.rules.proofs.Laws.Happens as happens
use Rattle.rules.proofs.Laws.Happens.{From, Code, domain_in, cookie_in, Brings, Denies, Opens, Happens, at_live, refused_is}
use Rattle.rules.proofs.Laws.Happens.{nothing, joins, renews, selects, leaves, ends, types, points, paints, sockets}
use Rattle.rules.proofs.Laws.Happens.{fetches, stores, gets, denies, results, documents}
use Rattle.rules.proofs.Laws.Happened.{payload_from}

-- no kind of action is given twice
pub all_apart : {t b e : List ℕ} {x : Outcome} → Happens t b e x → kinds_apart x.actions ≡ true
unfolding kinds_apart given
all_apart {t} (nothing n _) = rw (refused_is n t)
all_apart (joins s w _) = refl
all_apart (renews s w _) = refl
all_apart (selects s k i _ _ _) = refl
all_apart (leaves s i _ _ _ _ _) = refl
all_apart (ends s i _ _ _ _ _) = refl
all_apart (types s i _ _ _ _) = refl
all_apart (points s i _ _ _) = refl
all_apart (paints i s k _ _ _ _) = refl
all_apart (sockets i s k _ _ _ _) = refl
all_apart (fetches i s k _ _ _ _) = refl
all_apart (stores i s k _ _ _ _) = refl
all_apart (gets i s k _ _ _ _) = refl
all_apart (denies tag i s k _ _ _) = refl
all_apart (results n i s k _ _ _ _ _) = refl
all_apart (documents i s k _ _ _ _) = refl

module _ (t b e : List ℕ) (sound : sound_table t ≡ true) (g : Bytes e) where
  -- ---- the event, byte for byte

  is_frame_lem : {p tag i : ℕ} {x : List ℕ} → From e p tag i → x ≡ drop 10 e → e ≡ bytes (framed p i tag x)
  is_frame_lem {p} {tag} {i} {x} f q =
      sym (frame_is e g p tag x f.head q) ∙ ap (λ (j : ℕ). bytes (framed p j tag x)) f.id

  -- ---- who sent it

  -- the seat of a live tab is let
  tab_let : {i s k : ℕ} → TabAt t i s k → view t (tenant s) ≢ 0
  tab_let {s = s} {k = k} a =
      let r = live_there t s k a.there in let_of most_opens (view t) s k (table_facts t sound).shows r.0 r.1 a.there

  opening : {s : ℕ} → Opens t b e s → Opening t b e s (drop 10 e)
  opening w =
      record {
        event= = is_frame_lem w.from refl;
        is_let = w.takes.is_let;
        book = w.book;
        suffix = w.suffix;
        few = w.takes.slot;
        fresh = w.takes.more;
      }

  pressing : {s code k i : ℕ} → From e 1 1 s → Code e code → TabAt t i s k → Pressing t e s code k i
  pressing f c a =
      record { event= = is_frame_lem f (ap (be 1) (sym c.is) ∙ key_is e g c.one); is_let = tab_let a; tab = a }

  asking : {i s k tag : ℕ} {x : List ℕ} → From e 2 tag i → TabAt t i s k → x ≡ drop 10 e → Asking t e i s k tag x
  asking f a q = record { event= = is_frame_lem f q; tab = a }

  hangs : {i s k n : ℕ} → TabAt t i s k → process_at t s k ≡ n → HangsOn t s k n
  hangs a p = record { used= = live_used (at_live sound a); number= = p }

  -- ---- what it carries

  -- a port and a host
  socket_is : 12 ≤ length e → be 2 (num e 10 2) ++ drop 12 e ≡ drop 10 e
  socket_is l = ap (λ (x : List ℕ). be 2 (num e 10 2) ++ x) (sym (payload_from e 2)) ∙ after_num e g 2 l

  port_fits : num e 10 2 < 65536
  port_fits = num_lt e 10 2 g

  -- a domain's length, the domain and the cookie
  domain_is : 11 + get_or e 10 0 ≤ length e → length (domain_in e) ≡ get_or e 10 0
  domain_is l = omega (arith, length-take (get_or e 10 0) (drop 11 e), length-drop 11 e)

  storing_is : 11 + get_or e 10 0 ≤ length e → storing (domain_in e) (cookie_in e) ≡ drop 10 e
  unfolding part field
  storing_is l =
      ap (λ (n : ℕ). be 1 n ++ (domain_in e ++ cookie_in e)) (domain_is l)
      ∙ ap (λ (x : List ℕ). be 1 (get_or e 10 0) ++ (domain_in e ++ x)) (sym (payload_from e (1 + get_or e 10 0)))
      ∙ store_is e g l

  bringing : {party n i s k : ℕ} → From e party 1 n → Brings e i → TabAt t i s k → Bringing t e party n i s k (drop 14 e)
  bringing f w a =
      record {
        event= =
            is_frame_lem f
            (ap (λ (j : ℕ). be 4 j ++ drop 14 e) (sym w.tab)
            ∙ ap (λ (x : List ℕ). be 4 (num e 10 4) ++ x) (sym (payload_from e 4))
            ∙ after_num e g 4 w.long);
        tab = a;
      }

  denied : {i s k tag : ℕ} → From e 2 tag i → TabAt t i s k → Denies t e s k tag → Denied t e i s k
  denied f a (happens.no_socket l h) = whence.no_socket _ _ (asking f a (socket_is l)) port_fits h
  denied f a (happens.no_url h) = whence.no_url _ (asking f a refl) h
  denied f a (happens.no_store l h) =
      let n = domain_is l in
      let m = g 10 in
      whence.no_store (domain_in e) (cookie_in e) (asking f a (storing_is l)) (omega arith) h
  denied f a (happens.no_retrieve h) = whence.no_retrieve _ (asking f a refl) h

  -- ---- outcome by outcome

  ten_less : (n m : ℕ) → length e ≡ n → n ≡ 10 + m → length (drop 10 e) ≡ m
  ten_less n m l q = omega (arith, length-drop 10 e)

  pub all_whence : {x : Outcome} → Happens t b e x → Every (Whence t b e) x.actions
  all_whence (nothing n _) = rw (refused_is n t) none
  all_whence (joins s w _) =
      let o = opening w in
      more (whence.starts_tab s _ o) (more (whence.go s _ o) (more (whence.bar_opened s _ o) none))
  all_whence (renews s w z) =
      let o = opening w in
      more (whence.starts_process s _ o z)
      (more (whence.starts_tab s _ o) (more (whence.go s _ o) (more (whence.bar_opened s _ o) none)))
  all_whence (selects s k i f c a) =
      let p = pressing f c a in more (whence.render s k i p) (more (whence.bar_selected s k i p) none)
  all_whence (leaves s i f c _ a _) =
      let p = pressing f c a in more (whence.stops_tab s i p) (more (whence.bar_closed s i p) none)
  all_whence (ends s i f c _ a z) =
      let p = pressing f c a in
      more (whence.stops_tab s i p)
      (more (whence.stops_process s i _ p (hangs a refl) z) (more (whence.bar_closed s i p) none))
  all_whence (types s i f l h a) = more (whence.key s _ i (pressing f (record { one = l; is = refl }) a) h) none
  all_whence (points s i f l a) =
      let w : Pointing t e s (drop 10 e) _ i
      = record { event= = is_frame_lem f refl; four = ten_less 14 4 l refl; is_let = tab_let a; tab = a } in
      more (whence.mouse s _ i w) none
  all_whence (paints i s k f l a z) = more (whence.paint i s k _ (asking f a refl) (ten_less 22 12 l refl) z) none
  all_whence (sockets i s k f l a z) =
      more (whence.socket i s k _ _ (asking f a (socket_is l)) port_fits z) none
  all_whence (fetches i s k f a h z) = more (whence.fetch i s k _ (asking f a refl) h z) none
  all_whence (stores i s k f l a h) = more (whence.set _ i s k _ _ (asking f a (storing_is l)) (hangs a refl) h) none
  all_whence (gets i s k f a h z) = more (whence.get _ i s k _ (asking f a refl) (hangs a refl) h z) none
  all_whence (denies tag i s k f a d) = more (whence.error i s k (denied f a d)) none
  all_whence (results n i s k f w a p z) = more (whence.cookie n i s k _ (bringing f w a) (hangs a p) z) none
  all_whence (documents i s k f w a z) = more (whence.document i s k _ (bringing f w a) z) none
