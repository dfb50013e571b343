-- The words that every definition is written in: a range, all of a list, one of a list, a rising list, bytes, equal bytes.
-- They are open (`abbrev`, `unfoldable`): each says no more than its one line, and every layer computes with it.
-- Assumes nothing.
use Rattle.std.specs.Prelude.{ℕ, zero, suc, Option, Some, None, ◌≤◌, ◌<◌, Bool, true, false, ◌&&◌, ◌||◌, List, [], ◌∷◌, get_or, leb, eqb}

-- from lo to hi, both included
abbrev pub within : ℕ → ℕ → ℕ → Bool
within lo hi x = leb lo x && leb x hi

-- the same, as two facts
pub record Range (lo hi x : ℕ) : Type 0 where
  pub low : lo ≤ x
  pub high : x ≤ hi

-- all of a list passes
unfoldable pub every : {A : Type 0} → (A → Bool) → List A → Bool
every f [] = true
every f (x ∷ xs) = f x && every f xs

-- one of a list passes
unfoldable pub some : {A : Type 0} → (A → Bool) → List A → Bool
some f [] = false
some f (x ∷ xs) = f x || some f xs

-- each is less than the next
unfoldable pub rising : {A : Type 0} → (A → A → Bool) → List A → Bool
rising less [] = true
rising less (x ∷ []) = true
rising less (x ∷ y ∷ zs) = less x y && rising less (y ∷ zs)

-- the last of a list of lists; of none, the empty list
unfoldable pub last_of : List (List ℕ) → List ℕ
last_of [] = []
last_of (l ∷ []) = l
last_of (l ∷ m ∷ ls) = last_of (m ∷ ls)

-- every one is a byte
abbrev pub Bytes : List ℕ → Type 0
Bytes s = (i : ℕ) → get_or s i 0 < 256

-- the same bytes
unfoldable pub alike : List ℕ → List ℕ → Bool
alike [] [] = true
alike [] (y ∷ t) = false
alike (x ∷ s) [] = false
alike (x ∷ s) (y ∷ t) = eqb x y && alike s t

-- a count that is 0 where there is none: none, or the count
abbrev pub if_any : ℕ → Option ℕ
if_any zero = None
if_any (suc n) = Some (suc n)
