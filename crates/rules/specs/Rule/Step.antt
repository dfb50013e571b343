-- The two calls, document 01, "Numbers given back" and "Table", its last paragraph: what each gives for any bytes, refusals in
-- the document's order, and what a call leaves. Assumes nothing.
use Rattle.std.specs.Prelude.{ℕ, ◌+◌, ◌*◌, ◌/◌, ◌%◌, ◌≡◌, not, cond, List, [], length, eqb, ltb, Option, Some, None}
use Rattle.terms.specs.Names.{sound_book}
use Rattle.fields.specs.Table.{tenant, table_bytes, view, sound_table, tab_of, process_of, fresh}
use Rattle.fields.specs.declared.place.Place.{Place}
use Rattle.rules.specs.Rule.Frame.{Frame, frames, over}
use Rattle.rules.specs.Rule.Event.{part, reading_of}
use Rattle.rules.specs.Rule.Desk.{Desk, desk_at, Reply, changed}
use Rattle.rules.specs.Rule.Seat.{seat_rule}
use Rattle.rules.specs.Rule.Tab.{tab_rule, result_rule, document_rule}
use Rattle.rules.specs.declared.event.Event.{Event}
use Rattle.rules.specs.declared.event.Event.TheVariants.{Seat, Tab, Process, Network}

-- ---- an outcome

pub record Outcome : Type 0 where
  pub number : ℕ
  pub actions : List Frame
  pub table : List ℕ

unfoldable pub refused : ℕ → List ℕ → Outcome
refused n t = record { number = n; actions = []; table = t }

-- a rule's reply, of a seat of table t
unfoldable pub made : List ℕ → ℕ → Reply → Outcome
made t s r = record { number = r.number; actions = r.actions; table = changed t s r.change }

-- ---- step

-- what is asked of the tab at a place; n is the refusal where there is none
unfoldable pub at_tab : List ℕ → ℕ → Option Place → (Desk → ℕ → Reply) → Outcome
at_tab t n None f = refused n t
at_tab t n (Some p) f = made t p.seat (f (desk_at t p.seat) p.slot)

-- 4: "seat not let, tab or process not live, network id not 0"; 10: "result or document that no such tab waits for"
unfoldable pub event_rule : List ℕ → List ℕ → List ℕ → Event → Outcome
event_rule t b e (Seat s m) = cond (eqb (view t (tenant s)) 0) (refused 4 t) (made t s (seat_rule (desk_at t s) b e m))
event_rule t b e (Tab i m) = at_tab t 4 (tab_of (view t) i) (λ d k. tab_rule d b e k m)
event_rule t b e (Process n r) =
    cond (eqb (process_of (view t) n) 0) (refused 4 t)
    (at_tab t 10 (tab_of (view t) r.tab) (λ d k. result_rule d n k (part e r.body)))
event_rule t b e (Network n r) =
    cond (not (eqb n 0)) (refused 4 t)
    (at_tab t 10 (tab_of (view t) r.tab) (λ d k. document_rule d k (part e r.body)))

unfoldable pub read_rule : List ℕ → List ℕ → List ℕ → Option Event → Outcome
read_rule t b e None = refused 3 t
read_rule t b e (Some v) = event_rule t b e v

-- 1: "output room below 4,106 bytes"
abbrev pub room_needed : ℕ
room_needed = 4106

unfoldable pub step_of : ℕ → List ℕ → List ℕ → List ℕ → Outcome
step_of room t b e =
    cond (ltb room room_needed) (refused 1 t)
    (cond (not (sound_table t)) (refused 2 t)
    (read_rule t b e (reading_of e)))

-- ---- start: "It refuses 2 (wrong length only), then 6"

unfoldable pub start_of : List ℕ → List ℕ → Outcome
start_of t b =
    cond (not (eqb (length t) table_bytes)) (refused 2 t)
    (cond (not (sound_book b)) (refused 6 t)
    (record { number = 0; actions = []; table = fresh b }))

-- ---- what a call leaves

-- the number, the count of actions and the count of bytes written, in one number
unfoldable pub packed : ℕ → ℕ → ℕ → ℕ
packed n actions written = n + 256 * actions + 65536 * written

-- and each of them read out of it; what stands at bit 32 and above is not looked at
unfoldable pub number_in : ℕ → ℕ
number_in r = r % 256

unfoldable pub actions_in : ℕ → ℕ
actions_in r = r / 256 % 256

unfoldable pub bytes_in : ℕ → ℕ
bytes_in r = r / 65536 % 65536

unfoldable pub answer : Outcome → ℕ
answer x = packed x.number (length x.actions) (length (frames x.actions))

-- a step, of a room that is lent: the answer, the table, and the frames over the front of the room
pub record Stepped (x : Outcome) (lent table_after room_after : List ℕ) (r : ℕ) : Type 0 where
  pub says : r ≡ answer x
  pub table : table_after ≡ x.table
  pub room : room_after ≡ over lent 0 (frames x.actions)

-- a start
pub record Started (x : Outcome) (table_after : List ℕ) (r : ℕ) : Type 0 where
  pub says : r ≡ answer x
  pub table : table_after ≡ x.table
