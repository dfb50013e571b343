-- What the readers and updates ask for, from soundness and a test: a seat, a tab row and a process row of a sound table, a serial
-- left to a seat. Assumes nothing.
use Rattle.std.specs.Prelude.{◌≡◌, true, false, List, ◌≢◌, ℕ, ◌≤◌, ◌<◌, eqb}
use Rattle.std.proofs.Common.{le_trans, arith}
use Rattle.std.proofs.lemmas.Bool.{eqb-false}
use Rattle.terms.specs.Base.{within, Range}
use Rattle.terms.specs.Laws.Bools.{cases, within_at}
use Rattle.fields.specs.Rule.View.{there, tenant, selected, opens, serial, row, waiting}
use Rattle.fields.specs.Rule.Layout.{most_opens, view}
use Rattle.fields.specs.Rule.Word.{used}
use Rattle.fields.specs.Rule.Sound.{sound_table}
use Rattle.fields.specs.Rule.Asked.{HasSlot, Openable, Closable, TabLive}
use Rattle.fields.specs.Held.{SeatOf, TabOf, RowOf}
use Rattle.fields.specs.Laws.There.{absent, live_there, used_there}
use Rattle.fields.specs.Laws.Table.{table_facts}

pub sound_seat : {t : List ℕ} {s : ℕ} → sound_table t ≡ true → Range 1 8 s → SeatOf t s
sound_seat {t} e r = record { long = (table_facts t e).long; seat = r }

pub sound_row : {t : List ℕ} {p : ℕ} → sound_table t ≡ true → used (view t) p ≡ true → RowOf t p
sound_row {t} {p} e u = record { long = (table_facts t e).long; row = used_there t p u }

pub live_tab : {t : List ℕ} {s k : ℕ} → TabLive t s k → TabOf t s k
live_tab {t} {s} {k} w =
    let r = live_there t s k w.there in
    record { long = (table_facts t w.sound).long; seat = r.0; slot = r.1 }

-- a live tab hangs on a live process row, and its serial is one
pub live_used : {t : List ℕ} {s k : ℕ} → TabLive t s k → used (view t) (view t (row s k)) ≡ true
live_used {t} {s} {k} w =
    let r = live_there t s k w.there in
    ((table_facts t w.sound).shows.tabs_hang s k r.0 r.1 w.there).live_row

pub live_row : {t : List ℕ} {s k : ℕ} → TabLive t s k → RowOf t (view t (row s k))
live_row w = sound_row w.sound (live_used w)

pub live_serial : {t : List ℕ} {s k : ℕ} → TabLive t s k → view t (serial s k) ≤ most_opens
live_serial {t} {s} {k} w =
    let r = live_there t s k w.there in
    let f = (table_facts t w.sound).shows in
    le_trans (f.serials_fit s k r.0 r.1) (f.opens_fit s r.0)

-- and what it waits for is said by a number of 0 to 3
pub waits_most : {t : List ℕ} {s k : ℕ} → TabLive t s k → view t (waiting s k) ≤ 3
waits_most {t} {s} {k} w =
    let r = live_there t s k w.there in (table_facts t w.sound).shows.waits s k r.0 r.1

-- the selected tab is live
pub selected_tab : {t : List ℕ} {s : ℕ} → Closable t s → TabLive t s (view t (selected s))
selected_tab {t} {s} w =
    record { sound = w.sound; there = (table_facts t w.sound).shows.selected_live s w.seat w.picked }

-- a seat that shows a tenant is one of the eight
pub let_seat : (t : List ℕ) (s : ℕ) → view t (tenant s) ≢ 0 → Range 1 8 s
unfolding there
let_seat t s h = within_at 1 8 s (cases (within 1 8 s) (λ e. e) (λ e. absurd (h (absent t (tenant s) e))))

pub open_seat : {t : List ℕ} {s : ℕ} {suffix : List ℕ} → Openable t s suffix → SeatOf t s
open_seat w = sound_seat w.sound w.seat

pub open_slot : {t : List ℕ} {s : ℕ} {suffix : List ℕ} → Openable t s suffix → HasSlot t s
open_slot w = record { sound = w.sound; seat = w.seat; slot = w.slot }

pub close_seat : {t : List ℕ} {s : ℕ} → Closable t s → SeatOf t s
close_seat w = sound_seat w.sound w.seat

-- opens that are not the largest are below it
pub opens_left : (t : List ℕ) (s : ℕ) → sound_table t ≡ true → Range 1 8 s → eqb (view t (opens s)) most_opens ≡ false
    → view t (opens s) < most_opens
opens_left t s e r n =
    let fit = (table_facts t e).shows.opens_fit s r in
    let most = eqb-false (view t (opens s)) most_opens n in
    below (view t (opens s)) most_opens fit most
  where
    below : (a b : ℕ) → a ≤ b → a ≢ b → a < b
    below a b h g = omega arith
