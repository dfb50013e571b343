-- The events of a stream as a relation, in the document's words: "events end to end", "cut short", "a head alone whose size exceeds
-- 4,096". Assumes nothing.
use Rattle.std.specs.Prelude.{ℕ, ◌+◌, ◌≡◌, true, false, ◌≢◌, List, [], ◌∷◌, ◌++◌, length}
use Rattle.terms.specs.Names.{num}
use Rattle.logs.specs.Rule.Stream.{whole, oversized, joined}
use Rattle.terms.specs.Base.{last_of}

-- a frame, and no byte more
pub record Alone (e : List ℕ) : Type 0 where
  pub all : whole e ≡ true
  pub end : length e ≡ 10 + num e 6 4

-- a head whose size exceeds 4,096, and no byte more
pub record Oversize (e : List ℕ) : Type 0 where
  pub over : oversized e ≡ true
  pub end : length e ≡ 10

-- a head or a payload that is cut short
pub record Short (e : List ℕ) : Type 0 where
  pub some : e ≢ []
  pub part : whole e ≡ false
  pub under : oversized e ≡ false

pub data Parted : List ℕ → List (List ℕ) → Type 0 where
  done : Parted [] []
  -- a frame, and the events of what comes after it
  frame : {e s : List ℕ} {l : List (List ℕ)} → Alone e → Parted s l → Parted (e ++ s) (e ∷ l)
  -- what comes after a head too large is in no event
  large : {e : List ℕ} (s : List ℕ) → Oversize e → Parted (e ++ s) (e ∷ [])
  short : {e : List ℕ} → Short e → Parted e (e ∷ [])

-- the events l, end to end, are the front of the stream s
pub record Laid (s : List ℕ) (l : List (List ℕ)) : Type 0 where
  pub rest : List ℕ
  pub same : joined l ++ rest ≡ s
  -- something is left over only behind a head too large, which is the last event
  pub over : rest ≢ [] → Oversize (last_of l)
