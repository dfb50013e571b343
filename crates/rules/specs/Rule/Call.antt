-- Calls that were lent one table, and the words in which promises speak of them: which actions were given, what was typed. Party,
-- id, tag and payload are those of document 01, "Frames". Assumes nothing.
use Rattle.std.specs.Prelude.{ℕ, ◌+◌, Bool, true, false, ◌&&◌, ◌||◌, cond, List, [], ◌∷◌, length, get_or, drop, eqb}
use Rattle.fields.specs.Base.{one}
use Rattle.terms.specs.Names.{num}
use Rattle.rules.specs.Sheet.{Frame}

-- ---- a call

-- a step, or a refused start: the table as it was lent, what was lent besides, what was given back, the table as it was left
pub data Call : Type 0 where
  step : (table book event : List ℕ) (room answer : ℕ) (actions : List Frame) (left : List ℕ) → Call
  start : (table book : List ℕ) (answer : ℕ) (left : List ℕ) → Call

unfoldable pub table : Call → List ℕ
table (step t b e room r l u) = t
table (start t b r u) = t

unfoldable pub book : Call → List ℕ
book (step t b e room r l u) = b
book (start t b r u) = b

unfoldable pub event : Call → List ℕ
event (step t b e room r l u) = e
event (start t b r u) = []

unfoldable pub actions : Call → List Frame
actions (step t b e room r l u) = l
actions (start t b r u) = []

unfoldable pub left : Call → List ℕ
left (step t b e room r l u) = u
left (start t b r u) = u

-- c is one of the calls cs, the latest of which stands first, and was made after the calls `earlier`
pub data Past (c : Call) (earlier : List Call) : List Call → Type 0 where
  newest : Past c earlier (c ∷ earlier)
  older : {cs : List Call} (d : Call) → Past c earlier cs → Past c earlier (d ∷ cs)

-- ---- events: party (1), id (4), tag (1), size (4), payload

unfoldable pub party_of : List ℕ → ℕ
party_of e = get_or e 0 0

unfoldable pub id_of : List ℕ → ℕ
id_of e = num e 1 4

unfoldable pub tag_of : List ℕ → ℕ
tag_of e = get_or e 5 0

unfoldable pub payload_of : List ℕ → List ℕ
payload_of e = drop 10 e

-- ---- actions: to a party's id, with a tag

unfoldable pub is_frame : ℕ → ℕ → ℕ → Frame → Bool
is_frame party i tag a = eqb a.party party && eqb a.tag tag && eqb a.id i

-- every one of these actions is so
pub data Every (P : Frame → Type 0) : List Frame → Type 0 where
  none : Every P []
  more : {a : Frame} {l : List Frame} → P a → Every P l → Every P (a ∷ l)

-- those of them that go to a party with a tag, whatever its id
unfoldable pub given : ℕ → ℕ → List Frame → List Frame
given party tag [] = []
given party tag (a ∷ l) = cond (eqb a.party party && eqb a.tag tag) (a ∷ given party tag l) (given party tag l)

-- no two have party and tag in common
unfoldable pub kinds_apart : List Frame → Bool
kinds_apart [] = true
kinds_apart (a ∷ l) = eqb (length (given a.party a.tag l)) 0 && kinds_apart l

-- one of these actions is such
unfoldable pub sends : ℕ → ℕ → ℕ → List Frame → Bool
sends party i tag [] = false
sends party i tag (a ∷ l) = is_frame party i tag a || sends party i tag l

-- what the last such one carries, and x where there is none
unfoldable pub carried : ℕ → ℕ → ℕ → List ℕ → List Frame → List ℕ
carried party i tag x [] = x
carried party i tag x (a ∷ l) = carried party i tag (cond (is_frame party i tag a) a.payload x) l

-- how many they are
unfoldable pub among : ℕ → ℕ → ℕ → List Frame → ℕ
among party i tag [] = 0
among party i tag (a ∷ l) = one (is_frame party i tag a) + among party i tag l

-- one goes to a party, whatever its id
unfoldable pub reaches : ℕ → List Frame → Bool
reaches party [] = false
reaches party (a ∷ l) = eqb a.party party || reaches party l

-- ---- over all calls

-- what the latest such action carried; nothing where none was ever given
unfoldable pub latest : ℕ → ℕ → ℕ → List Call → List ℕ
latest party i tag [] = []
latest party i tag (c ∷ cs) = carried party i tag (latest party i tag cs) (actions c)

-- how many such actions were ever given
unfoldable pub times : ℕ → ℕ → ℕ → List Call → ℕ
times party i tag [] = 0
times party i tag (c ∷ cs) = among party i tag (actions c) + times party i tag cs

-- what was typed for a tab: the payload of the event by which it was started
unfoldable pub typed : List Call → ℕ → List ℕ
typed [] i = []
typed (c ∷ cs) i = cond (sends 5 i 1 (actions c)) (payload_of (event c)) (typed cs i)

-- by this call a tab asked for something: it sent an event of a tag, and an action went on to a party
unfoldable pub asks : ℕ → ℕ → ℕ → Call → Bool
asks tag party i c =
    eqb (party_of (event c)) 2 && eqb (tag_of (event c)) tag && eqb (id_of (event c)) i && reaches party (actions c)

-- a tab has asked so, and no action of tag `back` has come to it since
unfoldable pub pending : ℕ → ℕ → ℕ → List Call → ℕ → Bool
pending tag party back [] i = false
pending tag party back (c ∷ cs) i =
    cond (sends 2 i back (actions c)) false (asks tag party i c || pending tag party back cs i)
