-- The map of occupied slots, document 01, "slot k is bit k-1": its count of ones is the number of live tabs, the trailing zeros of
-- its complement lead to the lowest free slot, and a slot taken or given back is a bit more or less. Assumes nothing.
use Rattle.std.specs.Prelude.{◌≡◌, refl, Bool, true, false, not, cond, ◌≢◌, ℕ, zero, suc, ◌+◌, ◌-◌, ◌*◌, ◌/◌, ◌%◌, ◌^◌, ◌≤◌, ◌<◌}
use Rattle.std.proofs.Common.{sym, ap, ap₂, ◌∙◌, zero-add, suc-add, lt_of_lt_of_le, pow-suc, add_comm, add-one, arith, pow_pos, pow_mono}
use Rattle.std.specs.Int.Count.{ones, count_trailing_zeros}
use Rattle.std.proofs.lemmas.Nat.{ones_cat}
use Rattle.terms.specs.Base.{Range}
use Rattle.fields.specs.Base.{sum, one, count, lowest, bits}
use Rattle.fields.specs.Laws.Each.{range}
use Rattle.fields.specs.Laws.Sum.{sum_ext, sum_at, sum_part}
use Rattle.fields.specs.Laws.Lowest.{lowest_is}

one_mul : (b : Bool) (x : ℕ) → one b * x ≤ x
unfolding one
one_mul true x = omega arith
one_mul false x = omega arith

pub bits_lt : (n : ℕ) (f : ℕ → Bool) → bits n f < 2 ^ n
unfolding bits
bits_lt zero f = omega arith
bits_lt (suc n) f = let a = bits_lt n f in let b = one_mul (f (suc n)) (2 ^ n) in omega arith

-- ---- the count of ones

ones_one : (b : Bool) → ones (one b) ≡ one b
unfolding ones one
ones_one true = refl
ones_one false = refl

pub ones_bits : (n : ℕ) (f : ℕ → Bool) → ones (bits n f) ≡ count n f
unfolding bits sum count ones
ones_bits zero f = refl
ones_bits (suc n) f =
    ap ones (add_comm (bits n f) (one (f (suc n)) * 2 ^ n)) ∙ ones_cat n (one (f (suc n))) (bits n f) (bits_lt n f)
    ∙ ap₂ (λ (a b : ℕ). a + b) (ones_one (f (suc n))) (ones_bits n f) ∙ add_comm (one (f (suc n))) (count n f)

-- ---- the trailing zeros of the complement

-- how many of 1, 2, .. pass before one fails
run : ℕ → (ℕ → Bool) → ℕ
run zero f = 0
run (suc n) f = cond (f 1) (suc (run n (λ k. f (suc k)))) 0

sum_low : (n : ℕ) (g : ℕ → ℕ) → sum (suc n) g ≡ g 1 + sum n (λ k. g (suc k))
unfolding sum
sum_low zero g = omega arith
sum_low (suc n) g = let a = sum_low n g in omega arith

bits_low : (n : ℕ) (f : ℕ → Bool) → bits (suc n) f ≡ one (f 1) + 2 * bits n (λ k. f (suc k))
unfolding bits
bits_low zero f = omega arith
bits_low (suc n) f =
    let a = bits_low n f in
    let b : one (f (suc (suc n))) * 2 ^ suc n ≡ 2 * (one (f (suc (suc n))) * 2 ^ n) = rw pow-suc (omega arith) in
    omega arith

-- one more slot below: its bit decides, or the rest does
trailing_step : (w x : ℕ) (b : Bool) (r : ℕ) → x < 2 ^ w → count_trailing_zeros w (2 ^ w - 1 - x) ≡ r
    → count_trailing_zeros (suc w) (2 ^ suc w - 1 - (one b + 2 * x)) ≡ cond b (suc r) 0
unfolding count_trailing_zeros one
trailing_step w x true r h e =
    let p : 2 ^ suc w ≡ 2 * 2 ^ w = omega arith in
    let m : (2 ^ suc w - 1 - (1 + 2 * x)) % 2 ≡ 0 = omega arith in
    let d : (2 ^ suc w - 1 - (1 + 2 * x)) / 2 ≡ 2 ^ w - 1 - x = omega arith in
    rw (m, d, e)
trailing_step w x false r h e =
    let p : 2 ^ suc w ≡ 2 * 2 ^ w = omega arith in
    let m : (2 ^ suc w - 1 - (0 + 2 * x)) % 2 ≡ 1 = omega arith in
    rw m

trailing_ones : (m : ℕ) → count_trailing_zeros (suc m) (2 ^ suc m - 1 - 0) ≡ 0
unfolding count_trailing_zeros
trailing_ones m = let o : (2 ^ suc m - 1 - 0) % 2 ≡ 1 = let q = pow_pos m in omega arith in rw o

trailing_run : (n m : ℕ) (f : ℕ → Bool) → count_trailing_zeros (n + suc m) (2 ^ (n + suc m) - 1 - bits n f) ≡ run n f
unfolding run bits
trailing_run zero m f = rw zero-add (trailing_ones m)
trailing_run (suc n) m f =
    let g : ℕ → Bool = λ k. f (suc k) in
    let h : bits n g < 2 ^ (n + suc m) = lt_of_lt_of_le (bits_lt n g) (pow_mono (omega arith)) in
    rw (suc-add, bits_low n f) (trailing_step (n + suc m) (bits n g) (f 1) (run n g) h (trailing_run n m g))

run_passes : (n : ℕ) (f : ℕ → Bool) (i : ℕ) → i < run n f → f (suc i) ≡ true
unfolding run
run_passes zero f i l = absurd (omega arith)
run_passes (suc n) f i l = go (run_passes n (λ k. f (suc k))) i (f 1) refl l
  where
    go : ((j : ℕ) → j < run n (λ k. f (suc k)) → f (suc (suc j)) ≡ true) → (j : ℕ) (b : Bool) → f 1 ≡ b
        → j < cond b (suc (run n (λ k. f (suc k)))) 0 → f (suc j) ≡ true
    go ih zero true e m = e
    go ih (suc j) true e m = ih j (omega arith)
    go ih j false e m = absurd (omega arith)

run_fails : (n : ℕ) (f : ℕ → Bool) → run n f < n → f (suc (run n f)) ≡ false
unfolding run
run_fails zero f l = absurd (omega arith)
run_fails (suc n) f l = go (run_fails n (λ k. f (suc k))) (f 1) refl l
  where
    go : (run n (λ k. f (suc k)) < n → f (suc (suc (run n (λ k. f (suc k))))) ≡ false) → (b : Bool) → f 1 ≡ b
        → cond b (suc (run n (λ k. f (suc k)))) 0 < suc n → f (suc (cond b (suc (run n (λ k. f (suc k)))) 0)) ≡ false
    go ih true e m = ih (omega arith)
    go ih false e m = e

run_lt : (n : ℕ) (f : ℕ → Bool) → count n f < n → run n f < n
unfolding count run one
run_lt zero f h = absurd (omega arith)
run_lt (suc n) f h = go (run_lt n (λ k. f (suc k))) (f 1) refl
  where
    go : (count n (λ k. f (suc k)) < n → run n (λ k. f (suc k)) < n) → (b : Bool) → f 1 ≡ b
        → cond b (suc (run n (λ k. f (suc k)))) 0 < suc n
    go ih true e =
        let a = sum_low n (λ k. one (f k)) in
        let b : one (f 1) ≡ 1 = ap one e in
        let d = ih (omega arith) in omega arith
    go ih false e = omega arith

-- ten slots in more than ten bits, one of them free
pub lowest_free : (m : ℕ) (f : ℕ → Bool) → count 10 f < 10
    → count_trailing_zeros (10 + suc m) (2 ^ (10 + suc m) - 1 - bits 10 f) + 1 ≡ lowest 10 (λ k. not (f k))
lowest_free m f h =
    let l = run_lt 10 f h in
    let e : count_trailing_zeros (10 + suc m) (2 ^ (10 + suc m) - 1 - bits 10 f) ≡ run 10 f = trailing_run 10 m f in
    ap (λ (x : ℕ). x + 1) e
    ∙ add-one (run 10 f)
    ∙ sym (lowest_is 10 (λ k. not (f k)) (suc (run 10 f))
    (record {
      range = range (omega arith) (omega arith);
      passes = ap not (run_fails 10 f l);
      below = λ i a b. ap not (before i a b);
    }))
  where
    before : (i : ℕ) → 1 ≤ i → i < suc (run 10 f) → f i ≡ true
    before zero a b = absurd (omega arith)
    before (suc i) a b = run_passes 10 f i (omega arith)

-- ---- a slot taken, a slot given back

bits_sum : (n : ℕ) (f : ℕ → Bool) → bits n f ≡ sum n (λ k. one (f k) * 2 ^ (k - 1))
unfolding bits sum
bits_sum zero f = refl
bits_sum (suc n) f =
    let e : suc n - 1 ≡ n = omega arith in
    rw e (ap (λ (x : ℕ). x + one (f (suc n)) * 2 ^ n) (bits_sum n f))

-- f and g differ at i, where g passes and f does not
pub bits_more : (n : ℕ) (f g : ℕ → Bool) (i : ℕ) → Range 1 n i → f i ≡ false → g i ≡ true
    → ((k : ℕ) → Range 1 n k → k ≢ i → f k ≡ g k) → bits n g ≡ bits n f + 2 ^ (i - 1)
unfolding one
bits_more n f g i r p q h =
    let a = sum_at n (λ k. one (f k) * 2 ^ (k - 1)) (λ k. one (g k) * 2 ^ (k - 1)) i r
    (λ k m z. ap (λ (b : Bool). one b * 2 ^ (k - 1)) (h k m z)) in
    let x = bits_sum n f in
    let y = bits_sum n g in
    let d : one (f i) * 2 ^ (i - 1) ≡ 0 = rw p (omega arith) in
    let e : one (g i) * 2 ^ (i - 1) ≡ 2 ^ (i - 1) = rw q (omega arith) in
    omega arith

pub bits_ext : (n : ℕ) (f g : ℕ → Bool) → ((k : ℕ) → Range 1 n k → f k ≡ g k) → bits n f ≡ bits n g
bits_ext n f g h =
    bits_sum n f
    ∙ sum_ext n (λ k. one (f k) * 2 ^ (k - 1)) (λ k. one (g k) * 2 ^ (k - 1))
    (λ k r. ap (λ (b : Bool). one b * 2 ^ (k - 1)) (h k r))
    ∙ sym (bits_sum n g)

-- ---- a loop that builds the map from the rows: m has the bits below k, and k is next

pub bits_none : (f : ℕ → Bool) → bits 0 f ≡ 0
unfolding bits
bits_none f = refl

pub bits_next : (f : ℕ → Bool) {k m r : ℕ} → 1 ≤ k → m ≡ bits (k - 1) f → r ≡ one (f k)
    → m + r * 2 ^ (k - 1) ≡ bits (k + 1 - 1) f
unfolding bits
bits_next f {k} l e d =
    let p : k + 1 - 1 ≡ suc (k - 1) = omega arith in
    let o : k ≡ suc (k - 1) = omega arith in
    rw (p, e, d ∙ ap (λ (x : ℕ). one (f x)) o)

-- the same with k bits, and w the weight of the next
pub bits_pass : (f : ℕ → Bool) (k m w r : ℕ) → m ≡ bits k f → w ≡ 2 ^ k → r ≡ one (f (k + 1)) → m + r * w ≡ bits (k + 1) f
unfolding bits
bits_pass f k m w r a b d = rw add-one (rw (a, b, d ∙ ap (λ (x : ℕ). one (f x)) (add-one k)))

-- a slot that passes has its bit in the map
pub bits_part : (n : ℕ) (f : ℕ → Bool) (k : ℕ) → Range 1 n k → f k ≡ true → 2 ^ (k - 1) ≤ bits n f
unfolding one
bits_part n f k r e =
    let a = sum_part n (λ j. one (f j) * 2 ^ (j - 1)) k r in
    let b = bits_sum n f in
    let d : one (f k) * 2 ^ (k - 1) ≡ 2 ^ (k - 1) = rw e (omega arith) in
    omega arith
