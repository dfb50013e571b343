-- Frames, document 01, "Frames": "Event and action alike: party (1), id (4), tag (1), size (4), payload of that size". All
-- numbers are big-endian. Assumes nothing.
use Rattle.std.specs.Prelude.{ℕ, zero, suc, ◌+◌, ◌/◌, ◌%◌, ◌<◌, List, [], ◌∷◌, ◌++◌, length, get_or, take, drop}
use Rattle.terms.specs.Names.{num}

-- x in w bytes, the highest first
unfoldable pub be : ℕ → ℕ → List ℕ
be zero x = []
be (suc w) x = be w (x / 256) ++ (x % 256 ∷ [])

pub record Frame : Type 0 where
  pub party : ℕ
  pub id : ℕ
  pub tag : ℕ
  pub payload : List ℕ

abbrev pub framed : ℕ → ℕ → ℕ → List ℕ → Frame
framed p i t x = record { party = p; id = i; tag = t; payload = x }

unfoldable pub head : ℕ → ℕ → ℕ → ℕ → List ℕ
head p i t n = be 1 p ++ (be 4 i ++ (be 1 t ++ be 4 n))

unfoldable pub bytes : Frame → List ℕ
bytes a = head a.party a.id a.tag (length a.payload) ++ a.payload

-- frames end to end
unfoldable pub frames : List Frame → List ℕ
frames [] = []
frames (a ∷ l) = bytes a ++ frames l

-- bytes written over a room from a place on; "output bytes past those stay"
unfoldable pub over : List ℕ → ℕ → List ℕ → List ℕ
over room at x = take at room ++ (x ++ drop (at + length x) room)

-- ---- read back

-- the frame at the front of s
unfoldable pub frame_at : List ℕ → Frame
frame_at s = framed (get_or s 0 0) (num s 1 4) (get_or s 5 0) (take (num s 6 4) (drop 10 s))

-- k frames, end to end in s
unfoldable pub frames_of : ℕ → List ℕ → List Frame
frames_of zero s = []
frames_of (suc k) s = frame_at s ∷ frames_of k (drop (10 + num s 6 4) s)

-- ---- what fits

-- an action's fields fit the bytes that a frame has for them
pub record Narrow (a : Frame) : Type 0 where
  pub party : a.party < 256
  pub id : a.id < 4294967296
  pub tag : a.tag < 256
  pub size : length a.payload < 4294967296

-- those of every action do
abbrev pub AllNarrow : List Frame → Type 0
AllNarrow [] = Unit {0}
AllNarrow (a ∷ l) = Narrow a × AllNarrow l
