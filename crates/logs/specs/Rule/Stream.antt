-- The events of a stream, document 01, "The desk log program": "events end to end on standard input .. A head or payload that
-- is cut short, or a head alone whose size exceeds 4,096, is given as one last event." Assumes nothing.
use Rattle.std.specs.Prelude.{ℕ, zero, suc, ◌+◌, Bool, ◌&&◌, cond, List, [], ◌∷◌, ◌++◌, length, take, drop, eqb, leb, ltb}
use Rattle.terms.specs.Names.{num}

-- the stream begins with a head of ten bytes and all of the payload that it announces
unfoldable pub whole : List ℕ → Bool
whole s = leb 10 (length s) && leb (num s 6 4) 4096 && leb (10 + num s 6 4) (length s)

-- it begins with a head whose size exceeds 4,096
unfoldable pub oversized : List ℕ → Bool
oversized s = leb 10 (length s) && ltb 4096 (num s 6 4)

-- how many bytes its first event has: the frame's, the head's alone, or all that is left
unfoldable pub first_bytes : List ℕ → ℕ
first_bytes s = cond (whole s) (10 + num s 6 4) (cond (oversized s) 10 (length s))

-- its events, n at most; only a whole frame is followed by another
unfoldable pub events_in : ℕ → List ℕ → List (List ℕ)
events_in zero s = []
events_in (suc n) s =
    cond (eqb (length s) 0) [] (take (first_bytes s) s ∷ cond (whole s) (events_in n (drop (first_bytes s) s)) [])

-- an event has a byte at least, so these are all
unfoldable pub events : List ℕ → List (List ℕ)
events s = events_in (length s) s

-- byte strings laid end to end
unfoldable pub joined : List (List ℕ) → List ℕ
joined [] = []
joined (x ∷ l) = x ++ joined l
