-- The freight forwarder's history, desk 1's tab: it begins process 1, and is alone on it while the other desks open theirs.
-- Assumes nothing.
use Rattle.std.specs.Prelude.{ℕ, ◌+◌, ◌≡◌, true, ◌≢◌, List, []}
use Rattle.std.proofs.Common.{sym, ap, ◌∙◌, ⊎_elim, arith}
use Rattle.std.proofs.lemmas.Bool.{false≢true}
use Rattle.terms.specs.Names.{owner_by}
use Rattle.terms.specs.Forwarder.{forwarder, forwarder_sound, first as desk1}
use Rattle.fields.specs.Table.{selected, opens, row, number, owner, tabs, view, used, owner_at, process_with}
use Rattle.fields.specs.Table.{Openable, fresh, opened}
use Rattle.fields.specs.Laws.Each.{same_or}
use Rattle.fields.specs.Laws.Sound.{zero_unused}
use Rattle.fields.specs.Laws.Asked.{live_used}
use Rattle.fields.specs.Laws.Find.{process_with_lem}
use Rattle.fields.specs.Laws.First.{first_slot}
use Rattle.fields.specs.Laws.Fresh.{fresh_fields}
use Rattle.fields.specs.Laws.Opened.{opened_joins, opened_renews}
use Rattle.fields.specs.Laws.Tab.{id_is}
use Rattle.rules.specs.Rule.Call.{Call}
use Rattle.rules.specs.Rule.Desk.{id_at, process_at}
use Rattle.rules.proofs.Time.Owner.{history_owner, tab_owner}
use Rattle.rules.proofs.Time.Rows.{renewed_rows}
use Rattle.rules.proofs.Time.Tabs.{Stays, opened_keeps, opened_chosen}
use Rattle.rules.proofs.Time.Forwarder.{Reached, Idle, Stands, stays_stands, FirstOpen}

-- ---- desk 1's tab

-- its id, its process and that this has no other tab, and that it is selected
pub record Own (t : List ℕ) : Type 0 where
  pub stands : Stands t 1
  pub id= : id_at t 1 1 ≡ 65537
  pub process= : process_at t 1 1 ≡ 1
  pub alone : view t (tabs (view t (row 1 1))) ≡ 1
  pub chosen : view t (selected 1) ≡ 1

pub own_stays : {t u : List ℕ} → Stays t u 1 1 → view u (tabs (view t (row 1 1))) ≡ view t (tabs (view t (row 1 1)))
    → view u (selected 1) ≡ view t (selected 1) → Own t → Own u
own_stays {t} {u} w n c h =
    record {
      stands = stays_stands t u 1 w h.stands;
      id= = w.id= ∙ h.id=;
      process= = w.process= ∙ h.process=;
      alone = ap (λ (p : ℕ). view u (tabs p)) w.row= ∙ n ∙ h.alone;
      chosen = c ∙ h.chosen;
    }

-- it begins process 1,
pub own_first : {room : List ℕ} {cs : List Call} {x : List ℕ} → Idle (fresh forwarder) 1
    → FirstOpen room cs (fresh forwarder) 1 x → Own (opened (fresh forwarder) 1 x)
own_first {x = x} d o =
    let t = fresh forwarder in
    let u = opened t 1 x in
    let f = fresh_fields forwarder forwarder_sound in
    let p = process_with (view t) (owner_at (view t) 1) x in
    let none : p ≡ 0
    = ⊎_elim (λ e. e) (λ h.
    absurd (false≢true (sym (zero_unused (view t) p (f.number0 p)) ∙ (process_with_lem (view t) (owner_at (view t) 1) x h).there)))
    (same_or p 0) in
    let a = opened_renews t 1 x o.takes none in
    let row= = ap (λ (k : ℕ). view u (row 1 k)) (sym (first_slot (view t) 1 d.none)) ∙ a.row! in
    let n = a.number! in
    let l = f.last0 in
    let z = d.opens0 in
    let i = id_is 1 (view t (opens 1) + 1) in
    record {
      stands = o.stands;
      id= = o.new.id= ∙ (omega arith);
      process= = ap (λ (p : ℕ). view u (number p)) row= ∙ (omega arith);
      alone = ap (λ (p : ℕ). view u (tabs p)) row= ∙ a.tabs!;
      chosen = o.new.chosen;
    }

-- an open for another owner leaves the count of a process,
opened_count : (t : List ℕ) (s : ℕ) (x : List ℕ) (p : ℕ) → Openable t s x → used (view t) p ≡ true
    → view t (owner p) ≢ owner_at (view t) s → view (opened t s x) (tabs p) ≡ view t (tabs p)
opened_count t s x p w u n =
    ⊎_elim
    (λ z. (opened_renews t s x w z).tabs= p (λ e.
    false≢true (sym (renewed_rows t s x w z).was_free ∙ ap (used (view t)) (sym e) ∙ u)))
    (λ h. (opened_joins t s x w h).tabs= p (λ e.
    n (ap (λ (q : ℕ). view t (owner q)) e ∙ (process_with_lem (view t) (owner_at (view t) s) x h).own)))
    (same_or (process_with (view t) (owner_at (view t) s) x) 0)

-- and so desk 1's tab stays as it is when another desk opens one
pub own_opened : {room : List ℕ} {cs : List Call} {t : List ℕ} {s : ℕ} {x : List ℕ} → Reached cs t [] → FirstOpen room cs t s x
    → s ≢ 1 → owner_by forwarder s ≡ 7 → Own t → Own (opened t s x)
own_opened {t = t} {s = s} {x = x} r o n e h =
    let w = o.takes in
    let there = h.stands.there in
    let a = tab_owner r.history 1 1 there in
    let b = history_owner r.history s w.seat in
    let f = desk1.owner= in
    own_stays (opened_keeps t s x w 1 1 there)
    (opened_count t s x (view t (row 1 1)) w (live_used (record { sound = w.sound; there = there })) (λ z. omega arith))
    (opened_chosen t s x w 1 (λ z. n (sym z))) h
