-- Which frames are events, document 01, "Frames", the first table: a constructor for each entry, with a payload that fits its tag.
-- Whether a seat is let, a tab or a process live, is not asked here. Assumes nothing.
use Rattle.std.specs.Prelude.{ℕ, ◌<◌, ◌≡◌, List, ◌++◌, length, Some}
use Rattle.rules.specs.Rule.Frame.{be, Frame, framed, bytes}
use Rattle.rules.specs.Rule.Event.{event_frame, reading_of}
use Rattle.rules.specs.declared.event.Event.{Event}

pub data FitsTag : Frame → Type 0 where
  -- from 1, a seat: "1 key: 1 byte; 2 mouse: x, y (2 each); 3 open: suffix"
  key_sent : (s k : ℕ) → k < 256 → FitsTag (framed 1 s 1 (be 1 k))
  mouse_sent : (s : ℕ) (x : List ℕ) → length x ≡ 4 → FitsTag (framed 1 s 2 x)
  open_sent : (s : ℕ) (x : List ℕ) → FitsTag (framed 1 s 3 x)
  -- from 2, a tab: "1 display: memory id (4), x, y, w, h (2 each); 2 socket: port (2), host; 3 URL; 4 store: length (1), domain of
  -- that length, cookie; 5 retrieve: domain"
  display_sent : (i : ℕ) (x : List ℕ) → length x ≡ 12 → FitsTag (framed 2 i 1 x)
  socket_sent : (i port : ℕ) (host : List ℕ) → port < 65536 → FitsTag (framed 2 i 2 (be 2 port ++ host))
  url_sent : (i : ℕ) (u : List ℕ) → FitsTag (framed 2 i 3 u)
  store_sent : (i : ℕ) (domain x : List ℕ) → length domain < 256
      → FitsTag (framed 2 i 4 (be 1 (length domain) ++ (domain ++ x)))
  retrieve_sent : (i : ℕ) (domain : List ℕ) → FitsTag (framed 2 i 5 domain)
  -- from 3, a process: "1 result: tab id, cookie"; from 4, the network: "1 document: tab id, body"
  result_sent : (n i : ℕ) (x : List ℕ) → i < 4294967296 → FitsTag (framed 3 n 1 (be 4 i ++ x))
  document_sent : (n i : ℕ) (x : List ℕ) → i < 4294967296 → FitsTag (framed 4 n 1 (be 4 i ++ x))

-- its bytes are read as an event, which is the frame
pub record ReadAs (a : Frame) : Type 0 where
  pub event : Event
  pub reads : reading_of (bytes a) ≡ Some event
  pub same : event_frame (bytes a) event ≡ a
