-- What two steps, made in any two histories, must have in common to give the same (the Quark paper, sections 3.6 and 5.5): for
-- every kind of event, "response integrity", and for a tab's, "tab non-interference". Assumes nothing.
use Rattle.std.specs.Prelude.{ℕ, ◌-◌, ◌≤◌, ◌≡◌, Bool, true, false, cond, ◌≢◌, List, map, eqb, Option, Some, None}
use Rattle.terms.specs.Base.{within}
use Rattle.terms.specs.Names.{folded, sound_book}
use Rattle.fields.specs.Table.{tenant, selected, view, tab_of, process_of, name_of}
use Rattle.fields.specs.declared.mark.Mark.TheVariants.{Cookie, Document}
use Rattle.fields.specs.declared.place.Place.{Place}
use Rattle.rules.specs.Rule.Call.{Call, step, Past, typed, pending}
use Rattle.rules.specs.Rule.History.{History}
use Rattle.rules.specs.Rule.Ids.{tab_live, process_live}
use Rattle.rules.specs.Sheet.{Frame, part, reading_of, Desk, desk_at, acceptable, plain, room_needed}
use Rattle.rules.specs.declared.event.SeatMessage.{SeatMessage}
use Rattle.rules.specs.declared.event.SeatMessage.TheVariants.{Key, Mouse, Open}
use Rattle.rules.specs.declared.event.TabMessage.{TabMessage}
use Rattle.rules.specs.declared.event.TabMessage.TheVariants.{Display, Socket, Url, Store, Retrieve}
use Rattle.rules.specs.declared.event.Event.{Event}
use Rattle.rules.specs.declared.event.Event.TheVariants.{Seat, Tab, Process, Network}

-- ---- a step that was made

-- In some history, after the calls `earlier`, a step was lent table t, book b, event e and room enough; it gave the answer r and
-- the actions l, and left the table u.
pub record StepMade (earlier : List Call) (t b e : List ℕ) (r : ℕ) (l : List Frame) (u : List ℕ) : Type 0 where
  pub book : List ℕ
  pub calls : List Call
  pub now : List ℕ
  pub room : ℕ
  pub history : History book calls now
  pub past : Past (step t b e room r l u) earlier calls
  pub enough : room_needed ≤ room

-- Two steps gave the same,
pub record SameReply (r₁ r₂ : ℕ) (l₁ l₂ : List Frame) : Type 0 where
  pub answer= : r₁ ≡ r₂
  pub actions= : l₁ ≡ l₂

-- and left the same too.
pub record Alike (r₁ r₂ : ℕ) (l₁ l₂ : List Frame) (u₁ u₂ : List ℕ) : Type 0 where
  pub answer= : r₁ ≡ r₂
  pub actions= : l₁ ≡ l₂
  pub left= : u₁ ≡ u₂

-- ---- response integrity: what a reply depends on, a clause for each kind of event. d₁ and d₂ are desks of the two tables

-- Which tab is selected at a desk: whether one is, and if so its id.
pub record SameChosen (d₁ d₂ : Desk) : Type 0 where
  pub none= : eqb d₁.chosen 0 ≡ eqb d₂.chosen 0
  pub id= : d₁.chosen ≢ 0 → d₁.id d₁.chosen ≡ d₂.id d₂.chosen

-- F1 to F10: whether a tab is live in that slot, and if so its id and its suffix.
pub record SameSlot (d₁ d₂ : Desk) (k : ℕ) : Type 0 where
  pub live= : d₁.live k ≡ d₂.live k
  pub id= : d₁.live k ≡ true → d₁.id k ≡ d₂.id k
  pub suffix= : d₁.live k ≡ true → d₁.suffix k ≡ d₂.suffix k

-- F12: which tab is selected, whether it is the last one of its process, and if so that process's number.
pub record SameClose (d₁ d₂ : Desk) : Type 0 where
  pub chosen= : SameChosen d₁ d₂
  pub last= : d₁.chosen ≢ 0 → d₁.last_tab d₁.chosen ≡ d₂.last_tab d₂.chosen
  pub process= : d₁.last_tab d₁.chosen ≡ true → d₁.process d₁.chosen ≡ d₂.process d₂.chosen

-- A key: F1 to F10, F12, or one that goes to the selected tab. For any other, nothing.
pub record SameKey (d₁ d₂ : Desk) (k : ℕ) : Type 0 where
  pub select : within 14 23 k ≡ true → SameSlot d₁ d₂ (k - 13)
  pub close : k ≡ 25 → SameClose d₁ d₂
  pub pass : plain k ≡ true → SameChosen d₁ d₂

-- An open of x: whether the book is sound, and x acceptable under it; whether ten tabs are live, and whether the opens are spent;
-- the id that comes next; whether a process is to be started, and if so the seat's owner and the number that comes next.
pub record SameOpen (d₁ d₂ : Desk) (b₁ b₂ x : List ℕ) : Type 0 where
  pub book= : sound_book b₁ ≡ sound_book b₂
  pub accepts= : acceptable b₁ x ≡ acceptable b₂ x
  pub full= : eqb d₁.tab_count 10 ≡ eqb d₂.tab_count 10
  pub spent= : d₁.spent ≡ d₂.spent
  pub id= : d₁.next_id ≡ d₂.next_id
  pub new= : d₁.new x ≡ d₂.new x
  pub owner= : d₁.new x ≡ true → d₁.owner ≡ d₂.owner
  pub next= : d₁.new x ≡ true → d₁.next ≡ d₂.next

abbrev pub SameSeat : (d₁ d₂ : Desk) (b₁ b₂ e : List ℕ) → SeatMessage → Type 0
SameSeat d₁ d₂ b₁ b₂ e (Key k) = SameKey d₁ d₂ k
SameSeat d₁ d₂ b₁ b₂ e (Mouse p) = SameChosen d₁ d₂
SameSeat d₁ d₂ b₁ b₂ e (Open x) = SameOpen d₁ d₂ b₁ b₂ (part e x)

-- A tab's event, the tab being in slot k₁ of the one desk and in k₂ of the other: whether it is selected, its suffix, what it waits
-- for, or the number of its process.
abbrev pub SameTab : Desk → ℕ → Desk → ℕ → TabMessage → Type 0
SameTab d₁ k₁ d₂ k₂ (Display p) = eqb d₁.chosen k₁ ≡ eqb d₂.chosen k₂
SameTab d₁ k₁ d₂ k₂ (Socket port h) = d₁.suffix k₁ ≡ d₂.suffix k₂
SameTab d₁ k₁ d₂ k₂ (Url u) = d₁.waits k₁ Document ≡ d₂.waits k₂ Document
SameTab d₁ k₁ d₂ k₂ (Store n c) = (d₁.suffix k₁ ≡ d₂.suffix k₂) × (d₁.process k₁ ≡ d₂.process k₂)
SameTab d₁ k₁ d₂ k₂ (Retrieve n) =
    (d₁.suffix k₁ ≡ d₂.suffix k₂) × (d₁.process k₁ ≡ d₂.process k₂) × (d₁.waits k₁ Cookie ≡ d₂.waits k₂ Cookie)

-- A result of process n: whether its tab hangs on n and waits for a cookie.
abbrev pub SameResult : ℕ → Desk → ℕ → Desk → ℕ → Type 0
SameResult n d₁ k₁ d₂ k₂ = (eqb (d₁.process k₁) n ≡ eqb (d₂.process k₂) n) × (d₁.waits k₁ Cookie ≡ d₂.waits k₂ Cookie)

-- A document: whether its tab waits for one.
abbrev pub SameDocument : Desk → ℕ → Desk → ℕ → Type 0
SameDocument d₁ k₁ d₂ k₂ = d₁.waits k₁ Document ≡ d₂.waits k₂ Document

-- A tab that is live in both tables, at places of which R holds, or in neither.
abbrev pub Both : List ℕ → List ℕ → (Desk → ℕ → Desk → ℕ → Type 0) → Option Place → Option Place → Type 0
Both t₁ t₂ R None None = Unit {0}
Both t₁ t₂ R (Some p) (Some q) = R (desk_at t₁ p.seat) p.slot (desk_at t₂ q.seat) q.slot
Both t₁ t₂ R None (Some q) = ⊥
Both t₁ t₂ R (Some p) None = ⊥

abbrev pub BothLive : List ℕ → List ℕ → (Desk → ℕ → Desk → ℕ → Type 0) → ℕ → Type 0
BothLive t₁ t₂ R i = Both t₁ t₂ R (tab_of (view t₁) i) (tab_of (view t₂) i)

-- Any event: whether its seat is let, its process live, its tab live, and if so what its kind depends on.
abbrev pub SameFor : (t₁ t₂ b₁ b₂ e : List ℕ) → Event → Type 0
SameFor t₁ t₂ b₁ b₂ e (Seat s m) =
    (eqb (view t₁ (tenant s)) 0 ≡ eqb (view t₂ (tenant s)) 0)
    × (view t₁ (tenant s) ≢ 0 → SameSeat (desk_at t₁ s) (desk_at t₂ s) b₁ b₂ e m)
SameFor t₁ t₂ b₁ b₂ e (Tab i m) = BothLive t₁ t₂ (λ d₁ k₁ d₂ k₂. SameTab d₁ k₁ d₂ k₂ m) i
SameFor t₁ t₂ b₁ b₂ e (Process n r) =
    (process_live t₁ n ≡ process_live t₂ n) × (process_live t₁ n ≡ true → BothLive t₁ t₂ (SameResult n) r.tab)
SameFor t₁ t₂ b₁ b₂ e (Network n r) = n ≡ 0 → BothLive t₁ t₂ SameDocument r.tab

-- Any bytes: what the event that they are read as depends on, and nothing where they are none.
abbrev pub Agree : (t₁ t₂ b₁ b₂ e : List ℕ) → Type 0
Agree t₁ t₂ b₁ b₂ e = (v : Event) → reading_of e ≡ Some v → SameFor t₁ t₂ b₁ b₂ e v

-- ---- tab non-interference

-- Whether the tab of an id is the selected one of its seat.
unfoldable pub chosen_at : List ℕ → Option Place → Bool
chosen_at t None = false
chosen_at t (Some p) = eqb (view t (selected p.seat)) p.slot

unfoldable pub tab_chosen : List ℕ → ℕ → Bool
tab_chosen t i = chosen_at t (tab_of (view t) i)

-- Two histories have this in common of tab i: it is live in both or in neither, the same was typed for it, it waits for the same,
-- and it is selected in both or in neither.
pub record Common (earlier₁ earlier₂ : List Call) (t₁ t₂ : List ℕ) (i : ℕ) : Type 0 where
  pub live= : tab_live t₁ i ≡ tab_live t₂ i
  pub typed= : folded (typed earlier₁ i) ≡ folded (typed earlier₂ i)
  pub cookie= : pending 5 3 7 earlier₁ i ≡ pending 5 3 7 earlier₂ i
  pub document= : pending 3 4 6 earlier₁ i ≡ pending 3 4 6 earlier₂ i
  pub chosen= : tab_chosen t₁ i ≡ tab_chosen t₂ i

-- An action as it is seen: it goes to an id, or to a process by the suffix of the live one that has its number.
pub data Whom : Type 0 where
  numbered : ℕ → Whom
  named : List ℕ → Whom

pub record Seen : Type 0 where
  pub party : ℕ
  pub whom : Whom
  pub tag : ℕ
  pub payload : List ℕ

unfoldable pub seen : List ℕ → Frame → Seen
seen t a =
    record {
      party = a.party;
      whom = cond (eqb a.party 3) (named (name_of (view t) (process_of (view t) a.id))) (numbered a.id);
      tag = a.tag;
      payload = a.payload;
    }

-- Two steps gave the same, so seen.
pub record SameSeen (t₁ t₂ : List ℕ) (r₁ r₂ : ℕ) (l₁ l₂ : List Frame) : Type 0 where
  pub answer= : r₁ ≡ r₂
  pub actions= : map (seen t₁) l₁ ≡ map (seen t₂) l₂
