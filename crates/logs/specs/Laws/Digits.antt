-- Laws of numbers in decimal: their digits one by one, how long they are, and how they are written. Assumes nothing.
use Rattle.std.specs.Prelude.{ℕ, zero, suc, ◌+◌, ◌-◌, ◌/◌, ◌%◌, ◌≤◌, ◌<◌, ◌≡◌, refl, Bool, true, false, cond, ◌≢◌, List, [], ◌∷◌, ◌++◌, length, ltb}
use Rattle.std.proofs.Common.{ap, sym, ◌∙◌, arith, length-append, lt-ltb, le-ltb}
use Rattle.logs.specs.Rule.Line.{digits, decimal}
use Rattle.rules.specs.Inner.{Wrote}
use Rattle.rules.proofs.Laws.Wrote.{wrote_none, wrote_then, wrote_is}

pub digits_none : (x : ℕ) → digits 0 x ≡ []
unfolding digits
digits_none x = refl

pub digits_one : (w x : ℕ) → w ≢ 0 → x < 10 → digits w x ≡ (48 + x) ∷ []
unfolding digits
digits_one zero x n h = absurd (n refl)
digits_one (suc w) x n h = rw (lt-ltb x 10 h)

pub digits_more : (w x : ℕ) → w ≢ 0 → 10 ≤ x → digits w x ≡ digits (w - 1) (x / 10) ++ ((48 + x % 10) ∷ [])
unfolding digits
digits_more zero x n h = absurd (n refl)
digits_more (suc w) x n h =
    let e : suc w - 1 ≡ w = omega arith in
    rw (le-ltb x 10 h, e)

either : (b : Bool) (c d : ℕ) (l : List ℕ) (w : ℕ) → length l ≤ w → length (cond b (c ∷ []) (l ++ (d ∷ []))) ≤ suc w
either true c d l w h = omega arith
either false c d l w h = simp length-append (omega arith)

pub length_digits : (w x : ℕ) → length (digits w x) ≤ w
unfolding digits
length_digits zero x = omega arith
length_digits (suc w) x = either (ltb x 10) (48 + x) (48 + x % 10) (digits w (x / 10)) w (length_digits w (x / 10))

pub decimal_one : (x : ℕ) → x < 10 → decimal x ≡ (48 + x) ∷ []
unfolding decimal
decimal_one x h = digits_one 20 x (λ e. omega arith) h

pub length_decimal : (x : ℕ) → length (decimal x) ≤ 20
unfolding decimal
length_decimal x = length_digits 20 x

-- ---- written: nothing in no digits; the last digit; the digits before the last, and then the last

pub wrote_no_digits : (o : List ℕ) (at : ℕ) {w : ℕ} (x : ℕ) → w ≡ 0 → Wrote o at (digits w x) o at
wrote_no_digits o at x e = wrote_is (sym (ap (λ n. digits n x) e ∙ digits_none x)) refl (wrote_none o at)

pub wrote_digit : {o : List ℕ} {at w x : ℕ} {o' : List ℕ} {r : ℕ} → w ≢ 0 → x < 10 → Wrote o at ((48 + x) ∷ []) o' r
    → Wrote o at (digits w x) o' r
wrote_digit {o} {at} {w} {x} n h a = wrote_is (sym (digits_one w x n h)) refl a

pub wrote_digits : {o : List ℕ} {at w x : ℕ} {o₁ : List ℕ} {k : ℕ} {o₂ : List ℕ} {r : ℕ} → w ≢ 0 → 10 ≤ x → at ≤ length o
    → Wrote o at (digits (w - 1) (x / 10)) o₁ k → Wrote o₁ k ((48 + x % 10) ∷ []) o₂ r → Wrote o at (digits w x) o₂ r
wrote_digits {o} {at} {w} {x} n h l a b = wrote_is (sym (digits_more w x n h)) refl (wrote_then l a b)

pub wrote_decimal : {o : List ℕ} {at : ℕ} (x : ℕ) {o' : List ℕ} {r : ℕ} → Wrote o at (digits 20 x) o' r
    → Wrote o at (decimal x) o' r
unfolding decimal
wrote_decimal x w = w
