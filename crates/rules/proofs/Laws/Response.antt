-- What a reply depends on: of two tables and books that agree in what an event's kind looks at, the rules give the same number and
-- the same actions; and a table and a book agree with themselves. Assumes nothing.
use Rattle.std.specs.Prelude.{◌≡◌, Bool, true, ◌&&◌, ℕ, ◌-◌, Option, Some, None}
use Rattle.std.proofs.Math.Path.{refl, ap, ap₂}
use Rattle.std.proofs.Common.{sym, ◌∙◌}
use Rattle.std.proofs.Math.Bool.{not, not-not}
use mathlib.Core.List.{List, [], ◌∷◌, ◌++◌}
use Rattle.std.proofs.Math.Dec.{eqb}
use borrow.Author.Tests.{eqb-true, eqb-false, not-false}
use Rattle.fields.specs.Table.{tenant, view, tab_of, process_of}
use Rattle.fields.specs.declared.place.Place.{Place}
use Rattle.rules.specs.Rule.Frame.{Frame}
use Rattle.rules.specs.Rule.Event.{part, reading_of}
use Rattle.rules.specs.Rule.Action.{stop_process}
use Rattle.rules.specs.Rule.Desk.{Desk, desk, desk_at, refuse, reply}
use Rattle.rules.specs.Rule.Seat.{only, open_actions, open_rule, select_rule, close_actions, close_rule, pass_rule, key_rule}
use Rattle.rules.specs.Rule.Seat.{seat_rule}
use Rattle.rules.specs.Rule.Tab.{display_rule, socket_rule, url_rule, store_rule, retrieve_rule, tab_rule, result_rule}
use Rattle.rules.specs.Rule.Tab.{document_rule}
use Rattle.rules.specs.Rule.Step.{refused, made, event_rule, read_rule}
use Rattle.rules.specs.Rule.Ids.{process_live}
use Rattle.rules.specs.Rule.Response.{SameChosen, SameSlot, SameClose, SameKey, SameOpen, SameSeat, SameTab, SameResult}
use Rattle.rules.specs.Rule.Response.{SameDocument, Both, SameFor, Agree}
use Rattle.rules.specs.declared.event.SeatMessage.{SeatMessage}
use Rattle.rules.specs.declared.event.SeatMessage.TheVariants.{Key, Mouse, Open}
use Rattle.rules.specs.declared.event.TabMessage.{TabMessage}
use Rattle.rules.specs.declared.event.TabMessage.TheVariants.{Display, Socket, Url, Store, Retrieve}
use Rattle.rules.specs.declared.event.Event.{Event}
use Rattle.rules.specs.declared.event.Event.TheVariants.{Seat, Tab, Process, Network}
use Rattle.rules.proofs.Laws.Alike.{both, Replies, Outcomes, ask_alike, at_alike}

-- ---- two desks

-- the same actions
abbrev Equal : List Frame → List Frame → Type 0
Equal l m = l ≡ m

only_same : {p q : Bool} (a b : Frame) → p ≡ q → (p ≡ true → a ≡ b) → only p a ≡ only q b
unfolding only
only_same a b h f = both Equal h _ _ _ _ (λ z. ap (λ (x : Frame). x ∷ []) (f z)) (λ _. refl)

module _ (d₁ d₂ : Desk) (seat= : d₁.seat ≡ d₂.seat) where
  pass_same : (a : ℕ → Frame) → SameChosen d₁ d₂ → Replies Equal (pass_rule d₁ a) (pass_rule d₂ a)
  unfolding pass_rule reply
  pass_same a h =
      both (Replies Equal) h.none= _ _ _ _ (λ _. (refl, refl)) (λ z. (refl, rw (h.id= (eqb-false d₁.chosen 0 z))))

  select_same : (k : ℕ) → SameSlot d₁ d₂ k → Replies Equal (select_rule d₁ k) (select_rule d₂ k)
  unfolding select_rule reply
  select_same k h =
      both (Replies Equal) h.live= _ _ _ _ (λ z. (refl, rw (h.id= z, seat=, h.suffix= z))) (λ _. (refl, refl))

  close_same : SameClose d₁ d₂ → Replies Equal (close_rule d₁) (close_rule d₂)
  unfolding close_rule close_actions reply
  close_same h =
      both (Replies Equal) h.chosen=.none= _ _ _ _ (λ _. (refl, refl))
      (λ z.
      let some = eqb-false d₁.chosen 0 z in
      let ends = only_same _ _ (h.last= some) (λ l. ap stop_process (h.process= l)) in
      (refl, rw (h.chosen=.id= some, seat=, ends)))

  key_same : (k : ℕ) → SameKey d₁ d₂ k → Replies Equal (key_rule d₁ k) (key_rule d₂ k)
  unfolding key_rule refuse
  key_same k h =
      both (Replies Equal) refl _ _ _ _ (λ z. select_same (k - 13) (h.select z))
      (λ _. both (Replies Equal) refl _ _ _ _ (λ z. close_same (h.close (eqb-true k 25 z)))
      (λ _. both (Replies Equal) refl _ _ _ _ (λ z. pass_same _ (h.pass z)) (λ _. (refl, refl))))

  open_actions_lem : (b₁ b₂ x : List ℕ) → SameOpen d₁ d₂ b₁ b₂ x
      → open_actions d₁ d₁.next_id x ≡ open_actions d₂ d₂.next_id x
  unfolding open_actions
  open_actions_lem b₁ b₂ x h =
      ap₂ (λ (l m : List Frame). l ++ m) (only_same _ _ h.new= (λ z. rw (h.next= z, h.owner= z))) (rw (h.id=, seat=))

  open_same : (b₁ b₂ x : List ℕ) → SameOpen d₁ d₂ b₁ b₂ x → Replies Equal (open_rule d₁ b₁ x) (open_rule d₂ b₂ x)
  unfolding open_rule refuse reply
  open_same b₁ b₂ x h =
      both (Replies Equal) (ap not h.book=) _ _ _ _ (λ _. (refl, refl))
      (λ _. both (Replies Equal) (ap not h.accepts=) _ _ _ _ (λ _. (refl, refl))
      (λ _. both (Replies Equal) h.full= _ _ _ _ (λ _. (refl, refl))
      (λ _. both (Replies Equal) h.spent= _ _ _ _ (λ _. (refl, refl))
      (λ _. (refl, open_actions_lem b₁ b₂ x h)))))

  seat_same : (b₁ b₂ e : List ℕ) (m : SeatMessage) → SameSeat d₁ d₂ b₁ b₂ e m
      → Replies Equal (seat_rule d₁ b₁ e m) (seat_rule d₂ b₂ e m)
  unfolding seat_rule
  seat_same b₁ b₂ e (Key k) h = key_same k h
  seat_same b₁ b₂ e (Mouse p) h = pass_same _ h
  seat_same b₁ b₂ e (Open x) h = open_same b₁ b₂ (part e x) h

  -- two slots with one tab
  module _ (k₁ k₂ : ℕ) (id= : d₁.id k₁ ≡ d₂.id k₂) where
    tab_same : (b₁ b₂ e : List ℕ) (m : TabMessage) → SameTab d₁ k₁ d₂ k₂ m
        → Replies Equal (tab_rule d₁ b₁ e k₁ m) (tab_rule d₂ b₂ e k₂ m)
    unfolding tab_rule display_rule socket_rule url_rule store_rule retrieve_rule reply
    tab_same b₁ b₂ e (Display p) h = both (Replies Equal) h _ _ _ _ (λ _. (refl, rw seat=)) (λ _. (refl, refl))
    tab_same b₁ b₂ e (Socket port x) h = ask_alike Equal _ _ _ _ _ _ (rw h) (rw id=) (rw id=)
    tab_same b₁ b₂ e (Url u) h = ask_alike Equal _ _ _ _ _ _ (rw h) (rw id=) (rw id=)
    tab_same b₁ b₂ e (Store n c) h = ask_alike Equal _ _ _ _ _ _ (rw h.0) (rw id=) (rw h.1)
    tab_same b₁ b₂ e (Retrieve n) h = ask_alike Equal _ _ _ _ _ _ (rw (h.0, h.2)) (rw id=) (rw (h.1, id=))

    result_same : (n : ℕ) (x : List ℕ) → SameResult n d₁ k₁ d₂ k₂ → Replies Equal (result_rule d₁ n k₁ x) (result_rule d₂ n k₂ x)
    unfolding result_rule refuse reply
    result_same n x h =
        both (Replies Equal) (ap₂ (λ (p q : Bool). p && q) h.0 h.1) _ _ _ _ (λ _. (refl, rw id=)) (λ _. (refl, refl))

    document_same : (x : List ℕ) → SameDocument d₁ k₁ d₂ k₂ → Replies Equal (document_rule d₁ k₁ x) (document_rule d₂ k₂ x)
    unfolding document_rule refuse reply
    document_same x h = both (Replies Equal) h _ _ _ _ (λ _. (refl, rw id=)) (λ _. (refl, refl))

-- ---- two tables

module _ (t₁ t₂ b₁ b₂ e : List ℕ) where
  event_same : (v : Event) → SameFor t₁ t₂ b₁ b₂ e v → Outcomes Equal (event_rule t₁ b₁ e v) (event_rule t₂ b₂ e v)
  unfolding event_rule process_live desk refused made
  event_same (Seat s m) h =
      both (Outcomes Equal) h.0 _ _ _ _ (λ _. (refl, refl))
      (λ z. seat_same (desk_at t₁ s) (desk_at t₂ s) refl b₁ b₂ e m (h.1 (eqb-false (view t₁ (tenant s)) 0 z)))
  event_same (Tab i m) h =
      at_alike Equal t₁ t₂ i (λ d₁ k₁ d₂ k₂. SameTab d₁ k₁ d₂ k₂ m) _ _
      (λ s r k j seat id z. tab_same (desk_at t₁ s) (desk_at t₂ r) seat k j id b₁ b₂ e m z) refl 4 h
  event_same (Process n d) h =
      let p = eqb (process_of (view t₁) n) 0 in
      let q = eqb (process_of (view t₂) n) 0 in
      both (Outcomes Equal) (sym (not-not p) ∙ ap not h.0 ∙ not-not q) _ _ _ _ (λ _. (refl, refl))
      (λ live. at_alike Equal t₁ t₂ d.tab (SameResult n) _ _
      (λ s r k j seat id z. result_same (desk_at t₁ s) (desk_at t₂ r) seat k j id n (part e d.body) z) refl 10
      (h.1 (ap not live)))
  event_same (Network n d) h =
      let one : not (eqb n 0) ≡ not (eqb n 0) = refl in
      both (Outcomes Equal) one _ _ _ _ (λ _. (refl, refl))
      (λ zero. at_alike Equal t₁ t₂ d.tab SameDocument _ _
      (λ s r k j seat id z. document_same (desk_at t₁ s) (desk_at t₂ r) seat k j id (part e d.body) z) refl 10
      (h (eqb-true n 0 (not-false (eqb n 0) zero))))

  -- tables and books that agree
  pub read_same : Agree t₁ t₂ b₁ b₂ e → Outcomes Equal (read_rule t₁ b₁ e (reading_of e)) (read_rule t₂ b₂ e (reading_of e))
  unfolding read_rule refused
  read_same h = go (reading_of e) refl
    where
      go : (r : Option Event) → reading_of e ≡ r → Outcomes Equal (read_rule t₁ b₁ e r) (read_rule t₂ b₂ e r)
      go None q = (refl, refl)
      go (Some v) q = event_same v (h v q)

-- ---- one table

chosen_self : (d : Desk) → SameChosen d d
chosen_self d = record { none= = refl; id= = λ _. refl }

seat_self : (d : Desk) (b e : List ℕ) (m : SeatMessage) → SameSeat d d b b e m
seat_self d b e (Key k) =
    record {
      select = λ _. record { live= = refl; id= = λ _. refl; suffix= = λ _. refl };
      close = λ _. record { chosen= = chosen_self d; last= = λ _. refl; process= = λ _. refl };
      pass = λ _. chosen_self d;
    }
seat_self d b e (Mouse p) = chosen_self d
seat_self d b e (Open x) =
    record {
      book= = refl;
      accepts= = refl;
      full= = refl;
      spent= = refl;
      id= = refl;
      new= = refl;
      owner= = λ _. refl;
      next= = λ _. refl;
    }

tab_self : (m : TabMessage) (d : Desk) (k : ℕ) → SameTab d k d k m
tab_self (Display p) d k = refl
tab_self (Socket port h) d k = refl
tab_self (Url u) d k = refl
tab_self (Store n c) d k = (refl, refl)
tab_self (Retrieve n) d k = (refl, refl, refl)

both_self : (t : List ℕ) (R : Desk → ℕ → Desk → ℕ → Type 0) → ((d : Desk) (k : ℕ) → R d k d k) → (p : Option Place) → Both t t R p p
both_self t R f None = tt
both_self t R f (Some p) = f (desk_at t p.seat) p.slot

self_for : (t b e : List ℕ) (v : Event) → SameFor t t b b e v
self_for t b e (Seat s m) = (refl, λ _. seat_self (desk_at t s) b e m)
self_for t b e (Tab i m) = both_self t (λ d₁ k₁ d₂ k₂. SameTab d₁ k₁ d₂ k₂ m) (tab_self m) (tab_of (view t) i)
self_for t b e (Process n r) = (refl, λ _. both_self t (SameResult n) (λ d k. (refl, refl)) (tab_of (view t) r.tab))
self_for t b e (Network n r) = λ _. both_self t SameDocument (λ d k. refl) (tab_of (view t) r.tab)

-- a table and a book agree with themselves
pub agree_self : (t b e : List ℕ) → Agree t t b b e
agree_self t b e v q = self_for t b e v
