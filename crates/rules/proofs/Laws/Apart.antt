-- What a tab's event is answered depends on nothing but that tab: of two tables in which it is live with one suffix, waits for the
-- same and is selected alike, the rules give the same, but for the number of its process. Assumes nothing.
use Rattle.std.specs.Prelude.{◌≡◌, false, List, [], ◌∷◌, map, ℕ, ◌+◌, length, eqb, Option, Some, None}
use Rattle.std.proofs.Math.Path.{refl}
use Rattle.std.proofs.Common.{sym, ap, ◌∙◌, arith}
use Rattle.std.proofs.lemmas.List.{length-map}
use Rattle.fields.specs.declared.mark.Mark.{Mark}
use Rattle.fields.specs.declared.mark.Mark.TheVariants.{Cookie, Document}
use Rattle.rules.specs.Rule.Frame.{Frame, framed}
use Rattle.rules.specs.Rule.Event.{reading_of}
use Rattle.rules.specs.Rule.Call.{party_of, id_of}
use Rattle.rules.specs.Rule.Desk.{Desk, desk, desk_at, reply}
use Rattle.rules.specs.Rule.Tab.{display_rule, socket_rule, url_rule, store_rule, retrieve_rule, tab_rule}
use Rattle.rules.specs.Rule.Step.{Outcome, refused, event_rule, read_rule, answer}
use Rattle.rules.specs.Rule.Response.{BothLive, Seen, seen}
use Rattle.rules.specs.Held.{size}
use Rattle.rules.specs.declared.event.TabMessage.{TabMessage}
use Rattle.rules.specs.declared.event.TabMessage.TheVariants.{Display, Socket, Url, Store, Retrieve}
use Rattle.rules.specs.declared.event.Event.{Event}
use Rattle.rules.specs.declared.event.Event.TheVariants.{Tab}
use Rattle.rules.proofs.Laws.Frame.{length_frames}
use Rattle.rules.proofs.Laws.Line.{Line, key, mouse, opening, display, socket, url, store, retrieve, result}
use Rattle.rules.proofs.Laws.Line.{document, read_line}
use Rattle.rules.proofs.Laws.Alike.{both, Replies, Outcomes, ask_alike, at_alike}

-- ---- actions as they are seen

-- the same, so seen
abbrev pub Looks : List ℕ → List ℕ → List Frame → List Frame → Type 0
Looks t₁ t₂ l m = map (seen t₁) l ≡ map (seen t₂) m

-- how many bytes they have
weigh : List Seen → ℕ
weigh [] = 0
weigh (a ∷ l) = 10 + length a.payload + weigh l

seen_size : (t : List ℕ) (l : List Frame) → size l ≡ weigh (map (seen t) l)
unfolding seen weigh
seen_size t [] = refl
seen_size t (a ∷ l) = rw (seen_size t l)

pub looks_answer : (t₁ t₂ : List ℕ) (x y : Outcome) → Outcomes (Looks t₁ t₂) x y → answer x ≡ answer y
unfolding answer
looks_answer t₁ t₂ x y h =
    let l = x.actions in
    let m = y.actions in
    let many = sym (length-map l (seen t₁)) ∙ ap length h.1 ∙ length-map m (seen t₂) in
    let large = length_frames l ∙ seen_size t₁ l ∙ ap weigh h.1 ∙ sym (seen_size t₂ m) ∙ sym (length_frames m) in
    rw (h.0, many, large)

-- an action that goes to no process
looks_other : (t₁ t₂ : List ℕ) (a : Frame) → eqb a.party 3 ≡ false → Looks t₁ t₂ (a ∷ []) (a ∷ [])
unfolding seen
looks_other t₁ t₂ a h = rw h

-- ---- one tab at two desks

-- whatever its process's number is
pub record Peers (t₁ t₂ : List ℕ) (d₁ : Desk) (k₁ : ℕ) (d₂ : Desk) (k₂ : ℕ) : Type 0 where
  pub suffix= : d₁.suffix k₁ ≡ d₂.suffix k₂
  pub waits= : (m : Mark) → d₁.waits k₁ m ≡ d₂.waits k₂ m
  pub chosen= : eqb d₁.chosen k₁ ≡ eqb d₂.chosen k₂
  pub process= : (tag : ℕ) (x : List ℕ)
      → Looks t₁ t₂ (framed 3 (d₁.process k₁) tag x ∷ []) (framed 3 (d₂.process k₂) tag x ∷ [])

module _ (t₁ t₂ : List ℕ) where
  module _ (d₁ d₂ : Desk) (k₁ k₂ : ℕ) (seat= : d₁.seat ≡ d₂.seat) (id= : d₁.id k₁ ≡ d₂.id k₂)
      (w : Peers t₁ t₂ d₁ k₁ d₂ k₂) where
    tab_peers : (b₁ b₂ e : List ℕ) (m : TabMessage)
        → Replies (Looks t₁ t₂) (tab_rule d₁ b₁ e k₁ m) (tab_rule d₂ b₂ e k₂ m)
    unfolding tab_rule display_rule socket_rule url_rule store_rule retrieve_rule reply
    tab_peers b₁ b₂ e (Display p) =
        both (Replies (Looks t₁ t₂)) w.chosen= _ _ _ _ (λ _. (refl, rw seat= (looks_other t₁ t₂ _ refl))) (λ _. (refl, refl))
    tab_peers b₁ b₂ e (Socket port x) =
        ask_alike (Looks t₁ t₂) _ _ _ _ _ _ (rw w.suffix=) (rw id= (looks_other t₁ t₂ _ refl))
        (rw id= (looks_other t₁ t₂ _ refl))
    tab_peers b₁ b₂ e (Url u) =
        ask_alike (Looks t₁ t₂) _ _ _ _ _ _ (rw (w.waits= Document)) (rw id= (looks_other t₁ t₂ _ refl))
        (rw id= (looks_other t₁ t₂ _ refl))
    tab_peers b₁ b₂ e (Store n c) =
        ask_alike (Looks t₁ t₂) _ _ _ _ _ _ (rw w.suffix=) (rw id= (looks_other t₁ t₂ _ refl)) (w.process= 1 _)
    tab_peers b₁ b₂ e (Retrieve n) =
        ask_alike (Looks t₁ t₂) _ _ _ _ _ _ (rw (w.suffix=, w.waits= Cookie)) (rw id= (looks_other t₁ t₂ _ refl))
        (rw id= (w.process= 2 _))

  -- ---- its event in two tables

  module _ (b₁ b₂ e : List ℕ) (party : party_of e ≡ 2) (w : BothLive t₁ t₂ (Peers t₁ t₂) (id_of e)) where
    message : (m : TabMessage)
        → Outcomes (Looks t₁ t₂) (event_rule t₁ b₁ e (Tab (id_of e) m)) (event_rule t₂ b₂ e (Tab (id_of e) m))
    unfolding event_rule desk
    message m =
        at_alike (Looks t₁ t₂) t₁ t₂ (id_of e) (Peers t₁ t₂) _ _
        (λ s r k j seat id z. tab_peers (desk_at t₁ s) (desk_at t₂ r) k j seat id z b₁ b₂ e m) refl 4 w

    line_peers : {v : Event} → Line e v → Outcomes (Looks t₁ t₂) (event_rule t₁ b₁ e v) (event_rule t₂ b₂ e v)
    unfolding party_of id_of
    line_peers (key h n) = absurd (omega arith)
    line_peers (mouse h n) = absurd (omega arith)
    line_peers (opening h) = absurd (omega arith)
    line_peers (display h n) = message _
    line_peers (socket h n) = message _
    line_peers (url h) = message _
    line_peers (store h n) = message _
    line_peers (retrieve h) = message _
    line_peers (result h n) = absurd (omega arith)
    line_peers (document h n) = absurd (omega arith)

    pub read_peers : Outcomes (Looks t₁ t₂) (read_rule t₁ b₁ e (reading_of e)) (read_rule t₂ b₂ e (reading_of e))
    unfolding read_rule refused
    read_peers = go (reading_of e) refl
      where
        go : (r : Option Event) → reading_of e ≡ r → Outcomes (Looks t₁ t₂) (read_rule t₁ b₁ e r) (read_rule t₂ b₂ e r)
        go None q = (refl, refl)
        go (Some v) q = line_peers (read_line e v q)
