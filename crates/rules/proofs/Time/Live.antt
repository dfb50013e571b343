-- Live tabs by their ids: what is live has an id that is live and the other way round, and what becomes of the live ids at each
-- update. Assumes nothing.
use Rattle.std.specs.Prelude.{ℕ, ◌≡◌, refl, true, false, ◌≢◌, ◌⊎◌, List, Option, Some, None}
use Rattle.std.proofs.Common.{sym, ap₂, subst, ◌∙◌, ⊎_elim}
use Rattle.std.proofs.lemmas.Bool.{false≢true}
use Rattle.terms.specs.Names.{sound_book}
use Rattle.terms.specs.Laws.Bools.{agree, fails}
use Rattle.fields.specs.Table.{selected, view, tab_id, sound_table, live, tab_of, free_slot, Openable, Closable, TabLive, opened}
use Rattle.fields.specs.Table.{picked, closed, waits, marked, unmarked, fresh}
use Rattle.fields.specs.declared.mark.Mark.{Mark}
use Rattle.fields.specs.declared.place.Place.{Place}
use Rattle.fields.specs.Laws.Sound.{zero_free}
use Rattle.fields.specs.Laws.There.{live_there}
use Rattle.fields.specs.Laws.Table.{table_facts}
use Rattle.fields.specs.Laws.Tab.{tab_of_lem, tab_found, id_whole}
use Rattle.fields.specs.Laws.Fresh.{fresh_fields}
use Rattle.fields.specs.Promises.{open_sound, pick_sound, close_sound, mark_sound, unmark_sound}
use Rattle.rules.specs.Rule.Ids.{is_at, tab_live}
use Rattle.rules.specs.Sheet.{new_id}
use Rattle.rules.specs.Rule.Desk.{id_at, TabAt}
use Rattle.rules.proofs.Time.Same.{stays_live, here_or}
use Rattle.rules.proofs.Time.Tabs.{id_apart, id_new, Stays, Still, opened_new, opened_tab, opened_keeps, closed_gone}
use Rattle.rules.proofs.Time.Tabs.{closed_tab, closed_keeps, picked_still}
use Rattle.rules.proofs.Time.Marks.{marked_marks, unmarked_marks}
use Rattle.rules.proofs.Time.Moves.{Flips}

-- ---- ids and tabs

pub tab_live_lem : {t : List ℕ} {i s k : ℕ} → TabAt t i s k → tab_live t i ≡ true
unfolding tab_live is_at
tab_live_lem w = rw w.place

pub id_live : (t : List ℕ) (s k : ℕ) → sound_table t ≡ true → live (view t) s k ≡ true → tab_live t (id_at t s k) ≡ true
unfolding tab_live is_at
id_live t s k e l =
    let r = live_there t s k l in rw (tab_found (view t) s k (table_facts t e).shows r.0 r.1 l)

-- the live tab of an id
pub record Tab (t : List ℕ) (i : ℕ) : Type 0 where
  pub seat : ℕ
  pub slot : ℕ
  pub there : live (view t) seat slot ≡ true
  pub id : id_at t seat slot ≡ i

pub tab_there : (t : List ℕ) (i : ℕ) → tab_live t i ≡ true → Tab t i
unfolding tab_live is_at
tab_there t i = go (tab_of (view t) i) refl
  where
    go : (p : Option Place) → tab_of (view t) i ≡ p → is_at p ≡ true → Tab t i
    go None e h = absurd (false≢true h)
    go (Some p) e h =
        let w = tab_of_lem (view t) i p.seat p.slot e in
        record { seat = p.seat; slot = p.slot; there = w.there; id = ap₂ tab_id w.seat_is w.serial_is ∙ id_whole i }

-- ---- tables that agree on an id

module _ (t u : List ℕ) (e : sound_table t ≡ true) (f : sound_table u ≡ true) where
  module _ (i : ℕ) where
    came : ((r j : ℕ) → live (view u) r j ≡ true → id_at u r j ≡ i → Stays t u r j) → tab_live u i ≡ true → tab_live t i ≡ true
    came back h =
        let w = tab_there u i h in
        let z = back w.seat w.slot w.there w.id in
        subst (λ (x : ℕ). tab_live t x ≡ true) (sym z.id= ∙ w.id) (id_live t w.seat w.slot e z.was)

    stayed : ((r j : ℕ) → live (view t) r j ≡ true → id_at t r j ≡ i → Stays t u r j) → tab_live t i ≡ true → tab_live u i ≡ true
    stayed on h =
        let w = tab_there t i h in
        let z = on w.seat w.slot w.there w.id in
        subst (λ (x : ℕ). tab_live u x ≡ true) (z.id= ∙ w.id)
        (id_live u w.seat w.slot f (stays_live t u w.seat w.slot z))

    pub tab_same : ((r j : ℕ) → live (view u) r j ≡ true → id_at u r j ≡ i → Stays t u r j)
        → ((r j : ℕ) → live (view t) r j ≡ true → id_at t r j ≡ i → Stays t u r j)
        → tab_live u i ≡ tab_live t i
    tab_same back on = agree (tab_live u i) (tab_live t i) (came back) (stayed on)

  -- an update of one tab leaves every id as it was
  pub still_same : Still t u → (i : ℕ) → tab_live u i ≡ tab_live t i
  still_same w i = tab_same i (λ r j l q. w.tab r j (sym (w.live= r j) ∙ l)) (λ r j l q. w.tab r j l)

pub picked_same : {t : List ℕ} {s k : ℕ} → TabLive t s k → (i : ℕ) → tab_live (picked t s k) i ≡ tab_live t i
picked_same {t} {s} {k} w = still_same t (picked t s k) w.sound (pick_sound t s k w) (picked_still t s k w)

pub marked_same : {t : List ℕ} {s k : ℕ} (m : Mark) → TabLive t s k → waits (view t) s k m ≡ false
    → (i : ℕ) → tab_live (marked t s k m) i ≡ tab_live t i
marked_same {t} {s} {k} m w e =
    still_same t (marked t s k m) w.sound (mark_sound t s k m w e) (marked_marks t s k m w e).still

pub unmarked_same : {t : List ℕ} {s k : ℕ} (m : Mark) → TabLive t s k → waits (view t) s k m ≡ true
    → (i : ℕ) → tab_live (unmarked t s k m) i ≡ tab_live t i
unmarked_same {t} {s} {k} m w e =
    still_same t (unmarked t s k m) w.sound (unmark_sound t s k m w e) (unmarked_marks t s k m w).still

-- ---- a fresh table

pub fresh_dead : (b : List ℕ) → sound_book b ≡ true → (i : ℕ) → tab_live (fresh b) i ≡ false
fresh_dead b e i =
    fails (tab_live (fresh b) i) (λ h.
    let w = tab_there (fresh b) i h in
    let z = zero_free (view (fresh b)) w.seat w.slot ((fresh_fields b e).tab0 w.seat w.slot).serial0 in
    false≢true (sym z ∙ w.there))

-- ---- open: one id begins

module _ (t : List ℕ) (s : ℕ) (x : List ℕ) (w : Openable t s x) where
  opened_other : (i : ℕ) → i ≢ new_id (view t) s → (r j : ℕ) → live (view (opened t s x)) r j ≡ true
      → id_at (opened t s x) r j ≡ i
      → Stays t (opened t s x) r j
  opened_other i h r j l q =
      ⊎_elim
      (λ (p : (r ≡ s) × (j ≡ free_slot (view t) s)).
      absurd (h (sym q ∙ ap₂ (id_at (opened t s x)) p.0 p.1 ∙ (opened_new t s x w).id=)))
      (λ (z : Stays t (opened t s x) r j). z)
      (opened_tab t s x w r j l)

  pub opened_flips : Flips tab_live t (opened t s x) (new_id (view t) s) false true
  opened_flips =
      let u = opened t s x in
      let new = opened_new t s x w in
      let f = open_sound t s x w in
      record {
        before =
            fails (tab_live t (new_id (view t) s)) (λ h.
            let z = tab_there t (new_id (view t) s) h in id_new t s x z.seat z.slot w z.there z.id);
        after =
            subst (λ (i : ℕ). tab_live u i ≡ true) new.id= (id_live u s (free_slot (view t) s) f new.there);
        others = λ i h. tab_same t u w.sound f i (opened_other i h) (λ r j l q. opened_keeps t s x w r j l);
      }

-- ---- close: one id ends

module _ (t : List ℕ) (s i : ℕ) (w : Closable t s) (here : TabAt t i s (view t (selected s))) where
  apart : (j r k : ℕ) → j ≢ i → id_at t r k ≡ j → (r ≢ s) ⊎ (k ≢ view t (selected s))
  apart j r k h q =
      ⊎_elim (λ a. absurd (h (sym q ∙ ap₂ (id_at t) a.0 a.1 ∙ here.id))) (λ n. n)
      (here_or r k s (view t (selected s)))

  closed_dead : tab_live (closed t s) i ≡ true → ⊥
  closed_dead h =
      let u = closed t s in
      let z = tab_there u i h in
      let y = closed_tab t s w z.seat z.slot z.there in
      let q = id_apart t z.seat z.slot s (view t (selected s)) w.sound y.was here.there
      (sym y.id= ∙ z.id ∙ sym here.id) in
      false≢true (sym (closed_gone t s w) ∙ sym (ap₂ (live (view u)) q.0 q.1) ∙ z.there)

  pub closed_flips : Flips tab_live t (closed t s) i true false
  closed_flips =
      record {
        before = tab_live_lem here;
        after = fails (tab_live (closed t s) i) closed_dead;
        others = λ j h.
            tab_same t (closed t s) w.sound (close_sound t s w) j (λ r k l q. closed_tab t s w r k l)
            (λ r k l q. closed_keeps t s w r k l (apart j r k h q));
      }
