-- Laws of a word's digits: one more, and what is no number stays none. Assumes nothing.
use Rattle.std.proofs.Common.{◌≡◌, ℕ, zero, suc, ◌+◌, ◌-◌, ◌≤◌, true, false, ◌==◌, Some, None, List, length, get_or, refl, add-one, arith}
use Rattle.runs.specs.Decimal.{with_digit, next, digits, decimal}

pub digits_none : (w : List ℕ) → digits w 0 ≡ Some 0
unfolding digits
digits_none w = refl

pub digits_next : (w : List ℕ) (i n : ℕ) → digits w i ≡ Some n → digits w (i + 1) ≡ with_digit n (get_or w i 0)
unfolding digits next
digits_next w i n e = rw (add-one i, e)

not_stays : (w : List ℕ) (i k : ℕ) → digits w i ≡ None → digits w (k + i) ≡ None
unfolding digits next
not_stays w i zero e = let z : 0 + i ≡ i = omega arith in rw z e
not_stays w i (suc k) e = let s : suc k + i ≡ suc (k + i) = omega arith in rw (s, not_stays w i k e)

pub decimal_empty : (w : List ℕ) → (length w == 0) ≡ true → decimal w ≡ None
unfolding decimal
decimal_empty w e = rw e

pub decimal_not : (w : List ℕ) (i : ℕ) → i ≤ length w → (length w == 0) ≡ false → digits w i ≡ None → decimal w ≡ None
unfolding decimal
decimal_not w i h some e =
    let k : length w - i + i ≡ length w = omega arith in
    let n : digits w (length w - i + i) ≡ None = not_stays w i (length w - i) e in
    rw some (rw k at n)

pub decimal_is : (w : List ℕ) (n i : ℕ) → i ≡ length w → (length w == 0) ≡ false → digits w i ≡ Some n → decimal w ≡ Some n
unfolding decimal
decimal_is w n i e some d = rw some (rw e at d)
