-- Tab non-interference: what histories say of a tab's suffix and of what it waits for is all that the reply to it depends on,
-- besides whether it is selected. Assumes nothing.
use Rattle.std.specs.Prelude.{ℕ, ◌≡◌, true, List, map, Option, Some, None}
use Rattle.std.proofs.Math.Path.{refl, sym, ap}
use Rattle.std.proofs.Common.{ap₂, ◌∙◌}
use Rattle.std.proofs.lemmas.Bool.{false≢true}
use Rattle.terms.specs.Names.{folded}
use Rattle.fields.specs.Table.{row, number, view, tab_id, sound_table, live, name_of, placed, tab_of, process_of, TabLive}
use Rattle.fields.specs.declared.mark.Mark.{Mark}
use Rattle.fields.specs.declared.mark.Mark.TheVariants.{Cookie, Document}
use Rattle.fields.specs.declared.place.Place.{Place}
use Rattle.fields.specs.Laws.Asked.{live_used}
use Rattle.fields.specs.Laws.There.{used_there}
use Rattle.fields.specs.Laws.Find.{process_of_lem, process_found}
use Rattle.fields.specs.Laws.Tab.{tab_of_lem, id_whole}
use Rattle.rules.specs.Rule.Call.{Call, party_of, id_of, typed, pending}
use Rattle.rules.specs.Rule.History.{History}
use Rattle.rules.specs.Rule.Ids.{is_at, tab_live}
use Rattle.rules.specs.Rule.Desk.{desk, desk_at, id_at, process_at, suffix_at}
use Rattle.rules.specs.Rule.Response.{StepMade, Both, BothLive, chosen_at, tab_chosen, Common, seen, SameSeen}
use Rattle.rules.specs.Sheet.{Frame}
use Rattle.rules.proofs.Laws.Apart.{looks_answer, Peers, read_peers}
use Rattle.rules.proofs.Time.Induct.{history_sound}
use Rattle.rules.proofs.Time.Rows.{number_apart}
use Rattle.rules.proofs.Time.Suffix.{history_suffix}
use Rattle.rules.proofs.Time.Waiting.{history_cookie, history_document}
use Rattle.rules.proofs.Time.Response.{read, came}

-- ---- one history

-- the live process that has the number of a tab's process has the tab's suffix
own_name : (t : List ℕ) (s k : ℕ) → sound_table t ≡ true → live (view t) s k ≡ true
    → name_of (view t) (process_of (view t) (process_at t s k)) ≡ suffix_at t s k
own_name t s k sound there =
    let p = view t (row s k) in
    let n = view t (number p) in
    let w : TabLive t s k = record { sound = sound; there = there } in
    let u = live_used w in
    let z = process_of_lem (view t) n (process_found (view t) p n (used_there t p u) u refl) in
    ap (name_of (view t)) (number_apart t (process_of (view t) n) p sound z.there u z.is)

-- what it says of the tab at a place
record Knows (cs : List Call) (t : List ℕ) (i s k : ℕ) : Type 0 where
  suffix= : suffix_at t s k ≡ folded (typed cs i)
  name= : name_of (view t) (process_of (view t) (process_at t s k)) ≡ folded (typed cs i)
  cookie= : (desk_at t s).waits k Cookie ≡ pending 5 3 7 cs i
  document= : (desk_at t s).waits k Document ≡ pending 3 4 6 cs i

knows : {book : List ℕ} {cs : List Call} {t : List ℕ} → History book cs t → (i s k : ℕ) → tab_of (view t) i ≡ Some (placed s k)
    → Knows cs t i s k
unfolding desk
knows {cs = cs} {t = t} h i s k e =
    let w = tab_of_lem (view t) i s k e in
    let id : id_at t s k ≡ i = ap₂ tab_id w.seat_is w.serial_is ∙ id_whole i in
    let suffix = history_suffix h s k w.there ∙ ap (λ (j : ℕ). folded (typed cs j)) id in
    record {
      suffix= = suffix;
      name= = own_name t s k (history_sound h) w.there ∙ suffix;
      cookie= = history_cookie h s k w.there ∙ ap (pending 5 3 7 cs) id;
      document= = history_document h s k w.there ∙ ap (pending 3 4 6 cs) id;
    }

-- ---- two

module _ {book₁ book₂ : List ℕ} {earlier₁ earlier₂ : List Call} {t₁ t₂ : List ℕ} (h₁ : History book₁ earlier₁ t₁)
    (h₂ : History book₂ earlier₂ t₂) (i : ℕ) (c : Common earlier₁ earlier₂ t₁ t₂ i) where
  peers : (s k r j : ℕ) → tab_of (view t₁) i ≡ Some (placed s k) → tab_of (view t₂) i ≡ Some (placed r j)
      → Peers t₁ t₂ (desk_at t₁ s) k (desk_at t₂ r) j
  unfolding desk tab_chosen chosen_at seen
  peers s k r j x y =
      let a = knows h₁ i s k x in
      let b = knows h₂ i r j y in
      record {
        suffix= = a.suffix= ∙ c.typed= ∙ sym b.suffix=;
        waits= = marks (a.cookie= ∙ c.cookie= ∙ sym b.cookie=) (a.document= ∙ c.document= ∙ sym b.document=);
        chosen= = sym (ap (chosen_at t₁) x) ∙ c.chosen= ∙ ap (chosen_at t₂) y;
        process= = λ tag z. rw (a.name= ∙ c.typed= ∙ sym b.name=);
      }
    where
      marks : (desk_at t₁ s).waits k Cookie ≡ (desk_at t₂ r).waits j Cookie
          → (desk_at t₁ s).waits k Document ≡ (desk_at t₂ r).waits j Document → (m : Mark)
          → (desk_at t₁ s).waits k m ≡ (desk_at t₂ r).waits j m
      marks p q Cookie = p
      marks p q Document = q

  both_peers : BothLive t₁ t₂ (Peers t₁ t₂) i
  unfolding tab_live is_at
  both_peers = go (tab_of (view t₁) i) (tab_of (view t₂) i) refl refl
    where
      go : (p q : Option Place) → tab_of (view t₁) i ≡ p → tab_of (view t₂) i ≡ q → Both t₁ t₂ (Peers t₁ t₂) p q
      go None None x y = tt
      go (Some p) (Some q) x y = peers p.seat p.slot q.seat q.slot x y
      go None (Some q) x y = absurd (false≢true (sym (ap is_at x) ∙ c.live= ∙ ap is_at y))
      go (Some p) None x y = absurd (false≢true (sym (ap is_at y) ∙ sym c.live= ∙ ap is_at x))

pub non_interference : {earlier₁ earlier₂ : List Call} {t₁ t₂ b₁ b₂ e : List ℕ} {r₁ r₂ : ℕ} {l₁ l₂ : List Frame} {u₁ u₂ : List ℕ}
    → StepMade earlier₁ t₁ b₁ e r₁ l₁ u₁ → StepMade earlier₂ t₂ b₂ e r₂ l₂ u₂ → party_of e ≡ 2
    → Common earlier₁ earlier₂ t₁ t₂ (id_of e)
    → SameSeen t₁ t₂ r₁ r₂ l₁ l₂
non_interference {t₁ = t₁} {t₂ = t₂} {b₁ = b₁} {b₂ = b₂} {e = e} g₁ g₂ party c =
    let a = came g₁ in
    let d = came g₂ in
    let q = read_peers t₁ t₂ b₁ b₂ e party (both_peers a.before d.before (id_of e) c) in
    record {
      answer= = a.answer= ∙ looks_answer t₁ t₂ (read t₁ b₁ e) (read t₂ b₂ e) q ∙ sym d.answer=;
      actions= = ap (map (seen t₁)) a.actions= ∙ q.1 ∙ sym (ap (map (seen t₂)) d.actions=);
    }
