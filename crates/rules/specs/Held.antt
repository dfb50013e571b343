-- What the kernel's functions ask of their callers, and what they leave, below the two calls. Assumes nothing.
use Rattle.std.specs.Prelude.{ℕ, Bool, ◌+◌, ◌≤◌, ◌<◌, ◌≡◌, true, not, cond, ◌≢◌, List, [], ◌∷◌, length, eqb, Result, Ok, Err}
use Rattle.terms.specs.Names.{sound_book}
use Rattle.fields.specs.Table.{tenant, view, sound_table, live, owner_at, process_with, waits, Openable}
use Rattle.fields.specs.declared.mark.Mark.{Mark}
use Rattle.rules.specs.Rule.Frame.{Frame, frames, over}
use Rattle.rules.specs.Rule.Desk.{Desk, Reply, changed}
use Rattle.rules.specs.Rule.Seat.{acceptable}
use Rattle.rules.specs.Rule.Step.{Outcome, room_needed}
use Rattle.rules.specs.Rule.Refusal.{number_of}
use Rattle.rules.specs.declared.verdict.Done.{Done}
use Rattle.rules.specs.declared.verdict.Refusal.{Refusal}
use Rattle.rules.specs.declared.event.Part.{Part}
use Rattle.rules.specs.declared.event.SeatMessage.{SeatMessage}
use Rattle.rules.specs.declared.event.SeatMessage.TheVariants.{Key, Mouse, Open}
use Rattle.rules.specs.declared.event.TabMessage.{TabMessage}
use Rattle.rules.specs.declared.event.TabMessage.TheVariants.{Display, Socket, Url, Store, Retrieve}
use Rattle.rules.specs.declared.event.Event.{Event}
use Rattle.rules.specs.declared.event.Event.TheVariants.{Seat, Tab, Process, Network}

-- ---- bytes written

-- o' is o with x written from at on, and r is the place after it
pub record Wrote (o : List ℕ) (at : ℕ) (x o' : List ℕ) (r : ℕ) : Type 0 where
  pub next : r ≡ at + length x
  pub bytes : o' ≡ over o at x

-- and the room is as long as it was
pub record Put (o : List ℕ) (at : ℕ) (x o' : List ℕ) (r : ℕ) : Type 0 where
  pub next : r ≡ at + length x
  pub bytes : o' ≡ over o at x
  pub same : length o' ≡ length o

-- how many bytes frames have, by their payloads
abbrev pub size : List Frame → ℕ
size [] = 0
size (a ∷ l) = 10 + length a.payload + size l

-- the frames of l were written, and the room is as long as it was
pub record Sent (o : List ℕ) (at : ℕ) (l : List Frame) (o' : List ℕ) (r : ℕ) : Type 0 where
  pub next : r ≡ at + size l
  pub bytes : o' ≡ over o at (frames l)
  pub same : length o' ≡ length o

-- a frame with n bytes of payload fits, and so does its id
pub record Fits (o : List ℕ) (at id n : ℕ) : Type 0 where
  pub room : at + 10 + n ≤ length o
  pub small : n ≤ 4096
  pub short : id < 4294967296

-- ---- answers

-- the number of a result: 0 is done, and a refusal has its own
abbrev pub number_given : {A : Type 0} → Result A Refusal → ℕ
number_given (Ok x) = 0
number_given (Err why) = number_of why

-- and both counts: "A refusal reports both counts 0"
abbrev pub actions_given : Result Done Refusal → ℕ
actions_given (Ok x) = x.actions
actions_given (Err why) = 0

abbrev pub written_given : Result Done Refusal → ℕ
written_given (Ok x) = x.written
written_given (Err why) = 0

pub record Says (number actions written : ℕ) (d : Result Done Refusal) : Type 0 where
  pub number= : number_given d ≡ number
  pub actions= : actions_given d ≡ actions
  pub written= : written_given d ≡ written

-- what a rule's function leaves, of seat s of table t: the reply's number and counts, its change, and its frames over the
-- front of the room
pub record Replied (t : List ℕ) (s : ℕ) (x : Reply) (lent table_after room_after : List ℕ) (d : Result Done Refusal) : Type 0 where
  pub says : Says x.number (length x.actions) (length (frames x.actions)) d
  pub table : table_after ≡ changed t s x.change
  pub room : room_after ≡ over lent 0 (frames x.actions)

-- what an event's function leaves: the same of an outcome
pub record Decided (x : Outcome) (lent table_after room_after : List ℕ) (d : Result Done Refusal) : Type 0 where
  pub says : Says x.number (length x.actions) (length (frames x.actions)) d
  pub table : table_after ≡ x.table
  pub room : room_after ≡ over lent 0 (frames x.actions)

-- ---- what a rule's function may count on: a sound table and room enough

pub record Able (t o : List ℕ) : Type 0 where
  pub sound : sound_table t ≡ true
  pub roomy : room_needed ≤ length o

-- a let seat
pub record Opening (t : List ℕ) (s : ℕ) : Type 0 where
  pub sound : sound_table t ≡ true
  pub is_let : view t (tenant s) ≢ 0

pub record Ready (t o : List ℕ) (s : ℕ) : Type 0 where
  pub sound : sound_table t ≡ true
  pub roomy : room_needed ≤ length o
  pub is_let : view t (tenant s) ≢ 0

-- or a live tab
pub record ReadyTab (t o : List ℕ) (s k : ℕ) : Type 0 where
  pub sound : sound_table t ≡ true
  pub roomy : room_needed ≤ length o
  pub there : live (view t) s k ≡ true

-- what a live tab waits for, and what is passed on to it
pub record Awaited (t o : List ℕ) (s k : ℕ) (m : Mark) (x : List ℕ) : Type 0 where
  pub tab : ReadyTab t o s k
  pub mark : waits (view t) s k m ≡ true
  pub small : length x ≤ 4096

-- an open that the table takes, and the row of its owner's process with this suffix, or 0
pub record Taking (t o : List ℕ) (s : ℕ) (x : List ℕ) : Type 0 where
  pub takes : Openable t s x
  pub roomy : room_needed ≤ length o

pub record Found (t : List ℕ) (s : ℕ) (x : List ℕ) (owner : ℕ) (new : Bool) : Type 0 where
  pub owner= : owner ≡ owner_at (view t) s
  pub new= : new ≡ eqb (process_with (view t) owner x) 0

-- the bar of a seat: the suffix of the tab in a slot, or empty for slot 0
pub record Shows (t : List ℕ) (s k : ℕ) : Type 0 where
  pub sound : sound_table t ≡ true
  pub seat : s < 4294967296
  pub there : k ≢ 0 → live (view t) s k ≡ true

unfoldable pub bar_of : Desk → ℕ → List ℕ
bar_of d k = cond (eqb k 0) [] (d.suffix k)

-- the number of an open: 6 to 9, or 0
unfoldable pub book_number : List ℕ → List ℕ → ℕ
book_number b x = cond (not (sound_book b)) 6 (cond (not (acceptable b x)) 7 0)

unfoldable pub open_number : Desk → List ℕ → List ℕ → ℕ
open_number d b x =
    cond (eqb (book_number b x) 0) (cond (eqb d.tab_count 10) 8 (cond d.spent 9 0)) (book_number b x)

-- ---- the parts of an event lie in its bytes

abbrev pub PartIn : List ℕ → Part → Type 0
PartIn e p = (p.at + p.len ≤ length e) × (p.len ≤ 4096)

pub record StoreIn (e : List ℕ) (domain cookie : Part) : Type 0 where
  pub domain_in : PartIn e domain
  pub cookie_in : PartIn e cookie
  pub both : 1 + domain.len + cookie.len ≤ 4096
  pub short : domain.len < 256

abbrev pub SeatIn : List ℕ → SeatMessage → Type 0
SeatIn e (Key k) = Unit {0}
SeatIn e (Mouse p) = PartIn e p
SeatIn e (Open x) = PartIn e x

abbrev pub TabIn : List ℕ → TabMessage → Type 0
TabIn e (Display p) = PartIn e p
TabIn e (Socket port h) = (PartIn e h) × (2 + h.len ≤ 4096) × (port < 65536)
TabIn e (Url u) = PartIn e u
TabIn e (Store d c) = StoreIn e d c
TabIn e (Retrieve d) = PartIn e d

abbrev pub EventIn : List ℕ → Event → Type 0
EventIn e (Seat s m) = SeatIn e m
EventIn e (Tab i m) = TabIn e m
EventIn e (Process n r) = PartIn e r.body
EventIn e (Network n r) = PartIn e r.body
