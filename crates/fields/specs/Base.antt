-- The words that the table's definitions are written in. Seats, slots, rows and places are counted from 1, as the document
-- counts them: each of 1 to n, no two of them, the sum, how many, the lowest. They are open (`unfoldable`), as those of terms.
-- Assumes nothing.
use Rattle.std.specs.Prelude.{ℕ, zero, suc, ◌+◌, ◌-◌, ◌*◌, ◌^◌, Bool, true, false, not, ◌&&◌, cond, List, [], ◌∷◌, eqb}

-- f holds of 1, 2, .., n
unfoldable pub each : ℕ → (ℕ → Bool) → Bool
each zero f = true
each (suc n) f = each n f && f (suc n)

-- there are no two of 1 to n, i below k, of which f holds
unfoldable pub no_two : ℕ → (ℕ → ℕ → Bool) → Bool
no_two n f = each n (λ k. each (k - 1) (λ i. not (f i k)))

-- f 1 + f 2 + .. + f n
unfoldable pub sum : ℕ → (ℕ → ℕ) → ℕ
sum zero f = 0
sum (suc n) f = sum n f + f (suc n)

unfoldable pub one : Bool → ℕ
one true = 1
one false = 0

-- how many of 1 to n pass
unfoldable pub count : ℕ → (ℕ → Bool) → ℕ
count n f = sum n (λ k. one (f k))

-- the lowest of 1 to n that passes; 0 where none does
unfoldable pub lowest : ℕ → (ℕ → Bool) → ℕ
lowest zero f = 0
lowest (suc n) f = cond (eqb (lowest n f) 0) (cond (f (suc n)) (suc n) 0) (lowest n f)

-- the number whose bit k-1 is set for each k of 1 to n that passes, and no other bit
unfoldable pub bits : ℕ → (ℕ → Bool) → ℕ
bits zero f = 0
bits (suc n) f = bits n f + one (f (suc n)) * 2 ^ n

-- the list of f 1, f 2, .., f n
unfoldable pub series : ℕ → (ℕ → ℕ) → List ℕ
series zero f = []
series (suc n) f = f 1 ∷ series n (λ j. f (suc j))
