-- What functions inside the table layer ask of their callers, and what they leave: a table of the document's length, and a seat,
-- tab row, process row or place of a name in it. A reader of the rules need not believe it: no call from outside asks for any of
-- it. Assumes nothing.
use Rattle.std.specs.Prelude.{ℕ, ◌-◌, ◌^◌, ◌≤◌, ◌<◌, ◌≡◌, true, List, length}
use Rattle.terms.specs.Base.{Range}
use Rattle.terms.specs.Names.{sound_book}
use Rattle.fields.specs.Rule.View.{Field, opens, slots, tabs, last}
use Rattle.fields.specs.Rule.Layout.{table_bytes, most_opens, most_number, view, write}
use Rattle.fields.specs.Rule.Fresh.{ordered}

pub record SeatOf (t : List ℕ) (s : ℕ) : Type 0 where
  pub long : length t ≡ table_bytes
  pub seat : Range 1 8 s

pub record TabOf (t : List ℕ) (s k : ℕ) : Type 0 where
  pub long : length t ≡ table_bytes
  pub seat : Range 1 8 s
  pub slot : Range 1 10 k

pub record RowOf (t : List ℕ) (p : ℕ) : Type 0 where
  pub long : length t ≡ table_bytes
  pub row : Range 1 80 p

pub record LetterOf (t : List ℕ) (p j : ℕ) : Type 0 where
  pub long : length t ≡ table_bytes
  pub row : Range 1 80 p
  pub place : Range 1 64 j

-- u is t with x in a field
pub record WroteField (t u : List ℕ) (f : Field) (x : ℕ) : Type 0 where
  pub long : length u ≡ table_bytes
  pub is : u ≡ write t f x

-- u is a table of the document's length, namely w
abbrev pub Left : List ℕ → List ℕ → Type 0
Left u w = (length u ≡ table_bytes) × (u ≡ w)

-- ---- the parts of an update

-- a tab hung on a process row: what is added still fits its bytes
pub record Hangable (t : List ℕ) (s k p : ℕ) : Type 0 where
  pub long : length t ≡ table_bytes
  pub seat : Range 1 8 s
  pub slot : Range 1 10 k
  pub row : Range 1 80 p
  pub more : view t (opens s) < most_opens
  pub map : view t (slots s) < 1024
  pub few : view t (tabs p) ≤ 80

-- a process row made: its number and name fit
pub record Makable (t : List ℕ) (p : ℕ) (suffix : List ℕ) : Type 0 where
  pub long : length t ≡ table_bytes
  pub row : Range 1 80 p
  pub next : view t last < most_number
  pub short : length suffix ≤ 64

-- a tab taken off its process row: it is on it, and its bit is in the map
pub record Unhangable (t : List ℕ) (s k p : ℕ) : Type 0 where
  pub long : length t ≡ table_bytes
  pub seat : Range 1 8 s
  pub slot : Range 1 10 k
  pub row : Range 1 80 p
  pub bit : 2 ^ (k - 1) ≤ view t (slots s)
  pub some : 1 ≤ view t (tabs p)

-- what writing the next seat asks for: a sound book, and a table with the seats below as ordered
pub record Orderable (t book : List ℕ) (n : ℕ) : Type 0 where
  pub long : length t ≡ table_bytes
  pub sound : sound_book book ≡ true
  pub below : n < 8
  pub is : t ≡ ordered book n
