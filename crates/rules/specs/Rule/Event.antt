-- Events, document 01, "Frames", the first table, and the refusal 3: which bytes are an event, and what stands in memory for
-- them. Assumes nothing.
use Rattle.std.specs.Prelude.{ℕ, ◌+◌, ◌-◌, Bool, ◌&&◌, cond, List, ◌++◌, length, get_or, take, drop, eqb, leb, Option, Some, None}
use Rattle.terms.specs.Names.{num}
use Rattle.rules.specs.Rule.Frame.{be, Frame, framed}
use Rattle.rules.specs.declared.event.Part.{Part}
use Rattle.rules.specs.declared.event.Delivery.{Delivery}
use Rattle.rules.specs.declared.event.SeatMessage.{SeatMessage}
use Rattle.rules.specs.declared.event.SeatMessage.TheVariants.{Key, Mouse, Open}
use Rattle.rules.specs.declared.event.TabMessage.{TabMessage}
use Rattle.rules.specs.declared.event.TabMessage.TheVariants.{Display, Socket, Url, Store, Retrieve}
use Rattle.rules.specs.declared.event.Event.{Event}
use Rattle.rules.specs.declared.event.Event.TheVariants.{Seat, Tab, Process, Network}

-- the bytes of an event that a part is
unfoldable pub part : List ℕ → Part → List ℕ
part e p = take p.len (drop p.at e)

-- ---- the document's party, id, tag and payload of an event in memory, the bytes of the event being e

unfoldable pub seat_frame : List ℕ → ℕ → SeatMessage → Frame
seat_frame e s (Key k) = framed 1 s 1 (be 1 k)
seat_frame e s (Mouse p) = framed 1 s 2 (part e p)
seat_frame e s (Open x) = framed 1 s 3 (part e x)

unfoldable pub tab_frame : List ℕ → ℕ → TabMessage → Frame
tab_frame e i (Display p) = framed 2 i 1 (part e p)
tab_frame e i (Socket port h) = framed 2 i 2 (be 2 port ++ part e h)
tab_frame e i (Url u) = framed 2 i 3 (part e u)
tab_frame e i (Store d c) = framed 2 i 4 (be 1 d.len ++ (part e d ++ part e c))
tab_frame e i (Retrieve d) = framed 2 i 5 (part e d)

unfoldable pub event_frame : List ℕ → Event → Frame
event_frame e (Seat s m) = seat_frame e s m
event_frame e (Tab i m) = tab_frame e i m
event_frame e (Process n d) = framed 3 n 1 (be 4 d.tab ++ part e d.body)
event_frame e (Network n d) = framed 4 n 1 (be 4 d.tab ++ part e d.body)

-- ---- which bytes are an event

-- "frame below 10 bytes, size over 4,096 or not the bytes present"
unfoldable pub sized : List ℕ → Bool
sized e = leb 10 (length e) && leb (num e 6 4) 4096 && eqb (num e 6 4) (length e - 10)

-- the payload from its byte j on
unfoldable pub rest : List ℕ → ℕ → Part
rest e j = record { at = 10 + j; len = length e - (10 + j) }

-- the payload's bytes j to j + n - 1
unfoldable pub field : ℕ → ℕ → Part
field j n = record { at = 10 + j; len = n }

-- "unknown party or tag, payload that does not fit its tag (fixed sizes; socket 2, store 1 + its length, result and document 4
-- at least)": n is the payload's size
unfoldable pub when : Bool → Event → Option Event
when fits v = cond fits (Some v) None

unfoldable pub from_seat : List ℕ → ℕ → ℕ → ℕ → Option Event
from_seat e n s tag =
    cond (eqb tag 1) (when (eqb n 1) (Seat s (Key (get_or e 10 0))))
    (cond (eqb tag 2) (when (eqb n 4) (Seat s (Mouse (rest e 0))))
    (cond (eqb tag 3) (Some (Seat s (Open (rest e 0))))
    None))

unfoldable pub from_tab : List ℕ → ℕ → ℕ → ℕ → Option Event
from_tab e n i tag =
    cond (eqb tag 1) (when (eqb n 12) (Tab i (Display (rest e 0))))
    (cond (eqb tag 2) (when (leb 2 n) (Tab i (Socket (num e 10 2) (rest e 2))))
    (cond (eqb tag 3) (Some (Tab i (Url (rest e 0))))
    (cond (eqb tag 4)
    (when (leb (1 + get_or e 10 0) n) (Tab i (Store (field 1 (get_or e 10 0)) (rest e (1 + get_or e 10 0)))))
    (cond (eqb tag 5) (Some (Tab i (Retrieve (rest e 0))))
    None))))

unfoldable pub delivered : List ℕ → Delivery
delivered e = record { tab = num e 10 4; body = rest e 4 }

unfoldable pub sent_by : List ℕ → ℕ → ℕ → ℕ → ℕ → Option Event
sent_by e n party i tag =
    cond (eqb party 1) (from_seat e n i tag)
    (cond (eqb party 2) (from_tab e n i tag)
    (cond (eqb party 3) (when (eqb tag 1 && leb 4 n) (Process i (delivered e)))
    (cond (eqb party 4) (when (eqb tag 1 && leb 4 n) (Network i (delivered e)))
    None)))

unfoldable pub reading_of : List ℕ → Option Event
reading_of e = cond (sized e) (sent_by e (length e - 10) (get_or e 0 0) (num e 1 4) (get_or e 5 0)) None
