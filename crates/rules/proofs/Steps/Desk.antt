-- A desk's fields as what the table shows, and what a live tab of a sound table gives to them. Assumes nothing.
use Rattle.std.specs.Prelude.{ℕ, ◌≤◌, ◌<◌, ◌≡◌, ◌≢◌, List, length}
use Rattle.std.proofs.Math.Path.{refl, ap}
use Rattle.std.proofs.Common.{◌∙◌, arith}
use Rattle.std.proofs.Math.Dec.{eqb}
use Rattle.terms.specs.Base.{Range}
use Rattle.fields.specs.Table.{View, view, selected, serial, row, number, tabs, tab_id, name_of, waits}
use Rattle.fields.specs.declared.mark.Mark.{Mark}
use Rattle.fields.specs.Table.{SeatOf, TabOf, RowOf, TabLive, Closable, most_opens}
use Rattle.fields.specs.Laws.Asked.{sound_seat, live_tab, live_row, live_serial, let_seat, selected_tab}
use Rattle.fields.specs.Laws.There.{live_there}
use Rattle.fields.specs.Laws.Find.{name_short}
use Rattle.rules.specs.Rule.Desk.{desk}
use Rattle.rules.specs.Held.{Ready, ReadyTab, Shows}

-- ---- fields

module _ (v : View) (s k : ℕ) where
  pub id_is : {n r : ℕ} → n ≡ v (serial s k) → r ≡ tab_id s n → r ≡ (desk v s).id k
  unfolding desk
  id_is e f = f ∙ ap (tab_id s) e

  pub waits_is : (m : Mark) → (desk v s).waits k m ≡ waits v s k m
  unfolding desk
  waits_is m = refl

  pub suffix_is : {p : ℕ} {x : List ℕ} → p ≡ v (row s k) → x ≡ name_of v p → x ≡ (desk v s).suffix k
  unfolding desk
  suffix_is e f = f ∙ ap (name_of v) e

  pub process_is : {p n : ℕ} → p ≡ v (row s k) → n ≡ v (number p) → n ≡ (desk v s).process k
  unfolding desk
  process_is e f = f ∙ ap (λ (p : ℕ). v (number p)) e

  pub last_is : {p n : ℕ} → p ≡ v (row s k) → n ≡ v (tabs p) → eqb n 1 ≡ (desk v s).last_tab k
  unfolding desk
  last_is e f = ap (λ (n : ℕ). eqb n 1) (f ∙ ap (λ (p : ℕ). v (tabs p)) e)

  pub suffix_short : length ((desk v s).suffix k) ≤ 64
  unfolding desk
  suffix_short = name_short v (v (row s k))

-- ---- what the readers ask for

module _ {t : List ℕ} {s k : ℕ} (w : TabLive t s k) where
  pub the_tab : TabOf t s k
  the_tab = live_tab w

  pub the_seat : SeatOf t s
  the_seat = sound_seat w.sound (live_there t s k w.there).0

  pub the_row : {p : ℕ} → p ≡ view t (row s k) → RowOf t p
  the_row e = rw e (live_row w)

  -- what `tab_id` asks for
  pub id_fits : {n : ℕ} → n ≡ view t (serial s k) → (Range 1 8 s) × (n ≤ most_opens)
  id_fits e = ((live_there t s k w.there).0, rw e (live_serial w))

pub tab_ready : {t o : List ℕ} {s k : ℕ} → ReadyTab t o s k → TabLive t s k
tab_ready w = record { sound = w.sound; there = w.there }

pub seat_ready : {t o : List ℕ} {s : ℕ} → Ready t o s → SeatOf t s
seat_ready {t} {o} {s} w = sound_seat w.sound (let_seat t s w.is_let)

-- the slot that is selected, if there is one
pub chosen_ready : {t o : List ℕ} {s k : ℕ} → Ready t o s → k ≡ view t (selected s) → k ≢ 0 → ReadyTab t o s k
chosen_ready {t} {o} {s} {k} w e h =
    let z : Closable t s =
    record { sound = w.sound; seat = let_seat t s w.is_let; picked = λ x. h (e ∙ x) } in
    record { sound = w.sound; roomy = w.roomy; there = rw e (selected_tab z).there }

pub chosen_closable : {t o : List ℕ} {s k : ℕ} → Ready t o s → k ≡ view t (selected s) → k ≢ 0 → Closable t s
chosen_closable {t} {o} {s} {k} w e h = record { sound = w.sound; seat = let_seat t s w.is_let; picked = λ x. h (e ∙ x) }

-- a seat's number is an id
pub seat_lt : {t o : List ℕ} {s k : ℕ} → ReadyTab t o s k → s < 4294967296
seat_lt {t} {o} {s} {k} w = let a = (live_there t s k w.there).0.high in omega arith

-- ---- what a bar shows

pub shows_live : {t o : List ℕ} {s k : ℕ} → ReadyTab t o s k → Shows t s k
shows_live w = record { sound = w.sound; seat = seat_lt w; there = λ h. w.there }

pub shows_none : {t o : List ℕ} {s k j : ℕ} → ReadyTab t o s k → j ≡ 0 → Shows t s j
shows_none w e = record { sound = w.sound; seat = seat_lt w; there = λ h. absurd (h e) }

pub shows_tab : {t : List ℕ} {s k : ℕ} → Shows t s k → k ≢ 0 → TabLive t s k
shows_tab w h = record { sound = w.sound; there = w.there h }
