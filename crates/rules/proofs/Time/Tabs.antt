-- What becomes of the tabs of a sound table at each update: which are live afterwards, with which id, suffix and process.
-- Assumes nothing.
use Rattle.std.specs.Prelude.{ℕ, ◌+◌, ◌≤◌, ◌≡◌, true, false, ◌≢◌, ◌⊎◌, List}
use Rattle.std.proofs.Common.{sym, ap, ap₂, ◌∙◌, inl, inr, arith}
use Rattle.std.proofs.lemmas.Bool.{false≢true}
use Rattle.terms.specs.Names.{folded}
use Rattle.fields.specs.Table.{selected, opens, serial, row, waiting, most_opens, view, tab_id, seat_of_id, serial_of_id, sound_table}
use Rattle.fields.specs.Table.{live, used, tab_of, free_slot, Openable, Closable, TabLive, opened, picked, closed, waits}
use Rattle.fields.specs.declared.mark.Mark.{Mark}
use Rattle.fields.specs.Laws.Sound.{live_of, zero_free}
use Rattle.fields.specs.Laws.Table.{table_facts}
use Rattle.fields.specs.Laws.There.{live_there}
use Rattle.fields.specs.Laws.Asked.{live_used, live_serial}
use Rattle.fields.specs.Laws.Find.{free_slot_lem}
use Rattle.fields.specs.Laws.Tab.{id_seat, id_serial}
use Rattle.fields.specs.Laws.Seats.{Elsewhere, where_is}
use Rattle.fields.specs.Laws.Closed.{closed_sound}
use Rattle.fields.specs.Laws.Waited.{picked_quiet, picked_selects, picked_waits as picked-wait}
use Rattle.fields.specs.Laws.Marks.{waits_none}
use Rattle.rules.specs.Sheet.{new_id}
use Rattle.rules.proofs.Laws.Acts.{tab_at_lem}
use Rattle.rules.specs.Rule.Desk.{id_at, suffix_at}
use Rattle.rules.proofs.Time.Rows.{picked_rows}
use Rattle.rules.proofs.Time.Same.{everywhere, live_same, at_apart, stays, waits_still, quiet_still, OpenedTab, opened_at_lem}
use Rattle.rules.proofs.Time.Same.{ClosedTab, closed_at_lem}
pub use Rattle.rules.proofs.Time.Same.{Stays, Waits, Still}

-- ---- ids

-- no two live tabs have one id
pub id_apart : (t : List ℕ) (r j s k : ℕ) → sound_table t ≡ true → live (view t) r j ≡ true → live (view t) s k ≡ true
    → id_at t r j ≡ id_at t s k
    → (r ≡ s) × (j ≡ k)
id_apart t r j s k e l m q =
    at_apart r j s k (sym (tab_at_lem t r j e l).place ∙ ap (tab_of (view t)) q ∙ (tab_at_lem t s k e m).place)

-- and none has the id that the next tab gets
pub id_new : (t : List ℕ) (s : ℕ) (x : List ℕ) (r j : ℕ) → Openable t s x → live (view t) r j ≡ true
    → id_at t r j ≢ new_id (view t) s
id_new t s x r j w l q =
    let n = view t (serial r j) in
    let m = view t (opens s) + 1 in
    let a : n ≤ most_opens = live_serial (record { sound = w.sound; there = l }) in
    let b : m ≤ most_opens = let more = w.more in omega arith in
    let seat : r ≡ s = sym (id_seat r n a) ∙ ap seat_of_id q ∙ id_seat s m b in
    let same : n ≡ m = sym (id_serial r n a) ∙ ap serial_of_id q ∙ id_serial s m b in
    let there = live_there t r j l in
    let fits = (table_facts t w.sound).shows.serials_fit r j there.0 there.1 in
    let o : view t (opens r) ≡ view t (opens s) = ap (λ (y : ℕ). view t (opens y)) seat in
    omega arith

-- ---- open

-- the new tab, in slot k of seat s
pub record New (t u : List ℕ) (s k : ℕ) (x : List ℕ) : Type 0 where
  pub free : live (view t) s k ≡ false
  pub there : live (view u) s k ≡ true
  pub id= : id_at u s k ≡ new_id (view t) s
  pub suffix= : suffix_at u s k ≡ folded x
  pub waits= : (m : Mark) → waits (view u) s k m ≡ false
  pub chosen : view u (selected s) ≡ k

module _ (t : List ℕ) (s : ℕ) (x : List ℕ) (w : Openable t s x) where
  after_open : OpenedTab t (opened t s x) s (free_slot (view t) s) x
  after_open = opened_at_lem t s x w

  slot_free : live (view t) s (free_slot (view t) s) ≡ false
  slot_free = (free_slot_lem (view t) s w.slot).free

  open_stays : (r j : ℕ) → live (view t) r j ≡ true → Elsewhere s (free_slot (view t) s) r j → Stays t (opened t s x) r j
  open_stays r j l e =
      let c = after_open.changed in
      stays l (c.serial= r j e) (c.row= r j e)
      (after_open.rows (view t (row r j)) (live_used (record { sound = w.sound; there = l })))

  pub opened_new : New t (opened t s x) s (free_slot (view t) s) x
  opened_new =
      let a = after_open in
      let k = free_slot (view t) s in
      record {
        free = slot_free;
        there = live_of (view (opened t s x)) s k (λ z. let n = a.serial! in omega arith);
        id= = ap (tab_id s) a.serial!;
        suffix= = a.suffix!;
        waits= = λ m. waits_none (view (opened t s x)) s k m a.waiting!;
        chosen = a.selected!;
      }

  -- every other one stays
  pub opened_tab : (r j : ℕ) → live (view (opened t s x)) r j ≡ true
      → ((r ≡ s) × (j ≡ free_slot (view t) s)) ⊎ (Stays t (opened t s x) r j)
  opened_tab r j l =
      let c = after_open.changed in
      let u = opened t s x in
      where_is (view t) (view u) s (free_slot (view t) s) c r j (λ a b. inl (a, b))
      (λ e. inr (open_stays r j (sym (live_same (view t) (view u) r j (c.serial= r j e)) ∙ l) e))

  pub opened_waits : (r j : ℕ) → (r ≢ s) ⊎ (j ≢ free_slot (view t) s) → Waits t (opened t s x) r j
  opened_waits r j h = waits_still (after_open.changed.waiting= r j h)

  pub opened_keeps : (r j : ℕ) → live (view t) r j ≡ true → Stays t (opened t s x) r j
  opened_keeps r j l =
      where_is (view t) (view (opened t s x)) s (free_slot (view t) s) after_open.changed r j
      (λ a b. absurd (false≢true (sym slot_free ∙ sym (ap₂ (live (view t)) a b) ∙ l)))
      (open_stays r j l)

  pub opened_chosen : (r : ℕ) → r ≢ s → view (opened t s x) (selected r) ≡ view t (selected r)
  opened_chosen r h = after_open.changed.selected= r h

-- ---- close

module _ (t : List ℕ) (s : ℕ) (w : Closable t s) where
  after_close : ClosedTab t (closed t s) s (view t (selected s))
  after_close = closed_at_lem t s w

  pub closed_gone : live (view (closed t s)) s (view t (selected s)) ≡ false
  closed_gone = zero_free (view (closed t s)) s (view t (selected s)) after_close.serial0

  close_live : (r j : ℕ) → Elsewhere s (view t (selected s)) r j → live (view (closed t s)) r j ≡ live (view t) r j
  close_live r j e = live_same (view t) (view (closed t s)) r j (after_close.changed.serial= r j e)

  close_stays : (r j : ℕ) → live (view (closed t s)) r j ≡ true → Elsewhere s (view t (selected s)) r j
      → Stays t (closed t s) r j
  close_stays r j l e =
      let c = after_close.changed in
      let there = live_used (record { sound = closed_sound t s w; there = l }) in
      stays (sym (close_live r j e) ∙ l) (c.serial= r j e) (c.row= r j e)
      (after_close.rows (view t (row r j)) (ap (used (view (closed t s))) (sym (c.row= r j e)) ∙ there))

  pub closed_tab : (r j : ℕ) → live (view (closed t s)) r j ≡ true → Stays t (closed t s) r j
  closed_tab r j l =
      where_is (view t) (view (closed t s)) s (view t (selected s)) after_close.changed r j
      (λ a b. absurd (false≢true (sym closed_gone ∙ sym (ap₂ (live (view (closed t s))) a b) ∙ l)))
      (close_stays r j l)

  pub closed_waits : (r j : ℕ) → (r ≢ s) ⊎ (j ≢ view t (selected s)) → Waits t (closed t s) r j
  closed_waits r j h = waits_still (after_close.changed.waiting= r j h)

  pub closed_keeps : (r j : ℕ) → live (view t) r j ≡ true → (r ≢ s) ⊎ (j ≢ view t (selected s)) → Stays t (closed t s) r j
  closed_keeps r j l h = close_stays r j (close_live r j h ∙ l) h

  pub closed_chosen : view (closed t s) (selected s) ≡ 0
  closed_chosen = after_close.selected!

  pub closed_chosen_other : (r : ℕ) → r ≢ s → view (closed t s) (selected r) ≡ view t (selected r)
  closed_chosen_other r h = after_close.changed.selected= r h

-- ---- updates of one live tab

module _ (t : List ℕ) (s k : ℕ) (w : TabLive t s k) where
  pub picked_still : Still t (picked t s k)
  picked_still = quiet_still (picked_quiet t s k w) (picked_rows t s k w)

  pub picked_waits : (r j : ℕ) → Waits t (picked t s k) r j
  picked_waits r j =
      let u = picked t s k in
      let q = picked_quiet t s k w in
      waits_still
      (everywhere (λ r j. view u (waiting r j)) (λ r j. view t (waiting r j)) (picked-wait t s k w) q.rest.waiting= r j)

  pub picked_chosen : view (picked t s k) (selected s) ≡ k
  picked_chosen = picked_selects t s k w

  pub picked_chosen_other : (r : ℕ) → r ≢ s → view (picked t s k) (selected r) ≡ view t (selected r)
  picked_chosen_other r h = (picked_quiet t s k w).rest.selected= r h
