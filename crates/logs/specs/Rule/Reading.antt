-- A stream that is read piece by piece: what is held of it and not yet given to the kernel, how many events of that are ready,
-- and the ways in which a reader can go on until its log is done. Assumes nothing.
use Rattle.std.specs.Prelude.{ℕ, zero, suc, ◌+◌, Bool, true, false, not, cond, ◌≡◌, List, [], ◌∷◌, ◌++◌, length, take, drop, eqb}
use Rattle.fields.specs.Base.{one}
use Rattle.logs.specs.Rule.Stream.{whole, oversized, first_bytes, joined}
use Rattle.logs.specs.Rule.Log.{log_from, table_after}
use Rattle.logs.specs.declared.frame.Ready.{Ready}

-- k events off the front
unfoldable pub taken : ℕ → List ℕ → List (List ℕ)
taken zero s = []
taken (suc k) s = take (first_bytes s) s ∷ taken k (drop (first_bytes s) s)

unfoldable pub one_more : Ready → Ready
one_more r = record { count = r.count + 1; last = r.last }

-- what is ready where no whole frame is held: a head too large, and at the stream's end what is left
unfoldable pub cut : Bool → List ℕ → Ready
cut ended s =
    cond (oversized s) (record { count = 1; last = true })
    (cond ended (record { count = one (not (eqb (length s) 0)); last = true }) (record { count = 0; last = false }))

-- how many events are ready in what is held, k at most, and whether none comes after them
unfoldable pub ready : ℕ → Bool → List ℕ → Ready
ready zero ended s = record { count = 0; last = false }
ready (suc k) ended s = cond (whole s) (one_more (ready k ended (drop (first_bytes s) s))) (cut ended s)

-- what a read brought, as a chunk; where it brought nothing there is none
unfoldable pub chunk : List ℕ → List (List ℕ)
chunk [] = []
chunk (x ∷ l) = (x ∷ l) ∷ []

-- A reader: `held` is unread, `ended` says that the end was seen, n events were given before, t is the table, b the book, the
-- chunks are still to come, and the text is what it will say.
pub data Reads (b : List ℕ) : List ℕ → Bool → ℕ → List ℕ → List (List ℕ) → List ℕ → Type 0 where
  -- a chunk comes
  comes : {held : List ℕ} {n : ℕ} {t : List ℕ} {more : List (List ℕ)} {x : List ℕ} (chunk : List ℕ)
      → Reads b (held ++ chunk) false n t more x → Reads b held false n t (chunk ∷ more) x
  -- the end comes
  ends : {held : List ℕ} {n : ℕ} {t : List ℕ} {x : List ℕ} → Reads b held true n t [] x → Reads b held false n t [] x
  -- events that are ready are given to the kernel, and others may follow
  gives : {held : List ℕ} {ended : Bool} {n : ℕ} {t : List ℕ} {more : List (List ℕ)} {x : List ℕ} (k m : ℕ)
      → ready k ended held ≡ record { count = m; last = false }
      → Reads b (drop (length (joined (taken m held))) held) ended (n + m) (table_after t b (taken m held)) more x
      → Reads b held ended n t more (log_from n t b (taken m held) ++ x)
  -- the last ones
  stops : {held : List ℕ} {ended : Bool} {n : ℕ} {t : List ℕ} {more : List (List ℕ)} (k m : ℕ)
      → ready k ended held ≡ record { count = m; last = true }
      → Reads b held ended n t more (log_from n t b (taken m held))

-- what m events off the front leave
abbrev pub left : ℕ → List ℕ → List ℕ
left m s = drop (length (joined (taken m s))) s

pub data Serves (k : ℕ) (b : List ℕ) : List ℕ → Bool → ℕ → List ℕ → List (List ℕ) → List ℕ → Type 0 where
  -- nothing is ready, and a chunk is read
  reads : {held : List ℕ} {n : ℕ} {t : List ℕ} {more : List (List ℕ)} {x : List ℕ} (chunk : List ℕ)
      → ready k false held ≡ record { count = 0; last = false }
      → Serves k b (held ++ chunk) false n t more x → Serves k b held false n t (chunk ∷ more) x
  -- or the end
  closes : {held : List ℕ} {n : ℕ} {t : List ℕ} {x : List ℕ} → ready k false held ≡ record { count = 0; last = false }
      → Serves k b held true n t [] x → Serves k b held false n t [] x
  -- what is ready is given to the kernel
  serves : {held : List ℕ} {ended : Bool} {n : ℕ} {t : List ℕ} {more : List (List ℕ)} {x : List ℕ} (m : ℕ)
      → ready k ended held ≡ record { count = suc m; last = false }
      → Serves k b (left (suc m) held) ended (n + suc m) (table_after t b (taken (suc m) held)) more x
      → Serves k b held ended n t more (log_from n t b (taken (suc m) held) ++ x)
  -- and the last of it
  quits : {held : List ℕ} {ended : Bool} {n : ℕ} {t : List ℕ} {more : List (List ℕ)} (m : ℕ)
      → ready k ended held ≡ record { count = m; last = true }
      → Serves k b held ended n t more (log_from n t b (taken m held))

pub record ServesSome (k : ℕ) (b held : List ℕ) (ended : Bool) (n : ℕ) (t : List ℕ) (more : List (List ℕ)) : Type 0 where
  pub text : List ℕ
  pub way : Serves k b held ended n t more text
