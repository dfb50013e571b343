-- Laws of `sum` and `count`. Assumes nothing.
use Rattle.std.specs.Prelude.{◌≡◌, refl, Bool, true, false, ◌≢◌, ℕ, zero, suc, ◌+◌, ◌-◌, ◌*◌, ◌≤◌, ◌<◌, eqb}
use Rattle.std.proofs.Common.{sym, ap, ap₂, ◌∙◌, ⊎_elim, arith, ne_eqb, eqb-true, subst, le_antisymm, add-one}
use Rattle.terms.specs.Laws.Bools.{cases}
use Rattle.terms.specs.Base.{Range}
use Rattle.fields.specs.Base.{sum, one, count}
use Rattle.fields.specs.Laws.Each.{range, last_or}

wider : {n k : ℕ} → Range 1 n k → Range 1 (suc n) k
wider r = let a = r.high in range r.low (omega arith)

top : (n : ℕ) → Range 1 (suc n) (suc n)
top n = range (omega arith) (omega arith)

pub one_le : (b : Bool) → one b ≤ 1
unfolding one
one_le true = omega arith
one_le false = omega arith

pub sum_none : (f : ℕ → ℕ) → sum 0 f ≡ 0
unfolding sum
sum_none f = refl

-- a loop that adds up: n is the sum below k, and k is next
pub sum_next : (f : ℕ → ℕ) {k n r : ℕ} → 1 ≤ k → n ≡ sum (k - 1) f → r ≡ f k → n + r ≡ sum (k + 1 - 1) f
unfolding sum
sum_next f {k} l e q =
    let p : k + 1 - 1 ≡ suc (k - 1) = omega arith in
    let o : k ≡ suc (k - 1) = omega arith in
    rw p (ap₂ (λ (a b : ℕ). a + b) e (q ∙ ap f o))

pub sum_last : (f : ℕ → ℕ) (k : ℕ) → 1 ≤ k → sum (k - 1) f + f k ≡ sum k f
sum_last f k l = let e : k + 1 - 1 ≡ k = omega arith in sum_next f l refl refl ∙ ap (λ (x : ℕ). sum x f) e

-- a loop that adds up: it asks for k + 1 after k have been added
pub sum_pass : (f : ℕ → ℕ) (k n r : ℕ) → n ≡ sum k f → r ≡ f (k + 1) → n + r ≡ sum (k + 1) f
unfolding sum
sum_pass f k n r e q = rw add-one (ap₂ (λ (a b : ℕ). a + b) e (q ∙ ap f (add-one k)))

pub sum_done : (f : ℕ → ℕ) (m k n : ℕ) → n ≡ sum k f → k ≤ m → m ≤ k → n ≡ sum m f
sum_done f m k n e l g = subst (λ (x : ℕ). n ≡ sum x f) (le_antisymm l g) e

pub sum_ext : (n : ℕ) (f g : ℕ → ℕ) → ((k : ℕ) → Range 1 n k → f k ≡ g k) → sum n f ≡ sum n g
unfolding sum
sum_ext zero f g h = refl
sum_ext (suc n) f g h = ap₂ (λ (a b : ℕ). a + b) (sum_ext n f g (λ k r. h k (wider r))) (h (suc n) (top n))

-- f and g differ at i alone
pub sum_at : (n : ℕ) (f g : ℕ → ℕ) (i : ℕ) → Range 1 n i → ((k : ℕ) → Range 1 n k → k ≢ i → f k ≡ g k)
    → sum n f + g i ≡ sum n g + f i
unfolding sum
sum_at zero f g i r h = let a = r.low in let b = r.high in absurd (omega arith)
sum_at (suc n) f g i r h =
    ⊎_elim
    (λ (e : i ≡ suc n).
    let a : sum n f ≡ sum n g = sum_ext n f g (λ k q. let m = q.high in h k (wider q) (λ z. omega arith)) in
    let b : f i ≡ f (suc n) = ap f e in
    let d : g i ≡ g (suc n) = ap g e in omega arith)
    (λ (l : i ≤ n).
    let a : sum n f + g i ≡ sum n g + f i = sum_at n f g i (range r.low l) (λ k q m. h k (wider q) m) in
    let b : f (suc n) ≡ g (suc n) = h (suc n) (top n) (λ z. omega arith) in omega arith)
    (last_or n i r.high)

pub sum_le : (n : ℕ) (f : ℕ → ℕ) (b : ℕ) → ((k : ℕ) → Range 1 n k → f k ≤ b) → sum n f ≤ n * b
unfolding sum
sum_le zero f b h = omega arith
sum_le (suc n) f b h = let a = sum_le n f b (λ k r. h k (wider r)) in let d = h (suc n) (top n) in omega arith

pub sum_mono : (n : ℕ) (f g : ℕ → ℕ) → ((k : ℕ) → Range 1 n k → f k ≤ g k) → sum n f ≤ sum n g
unfolding sum
sum_mono zero f g h = omega arith
sum_mono (suc n) f g h = let a = sum_mono n f g (λ k r. h k (wider r)) in let b = h (suc n) (top n) in omega arith

pub sum_part : (n : ℕ) (f : ℕ → ℕ) (k : ℕ) → Range 1 n k → f k ≤ sum n f
unfolding sum
sum_part zero f k r = let a = r.low in let b = r.high in absurd (omega arith)
sum_part (suc n) f k r =
    ⊎_elim (λ (e : k ≡ suc n). let a : f k ≡ f (suc n) = ap f e in omega arith)
    (λ (l : k ≤ n). let a = sum_part n f k (range r.low l) in omega arith)
    (last_or n k r.high)

pub sum_zero : (n : ℕ) → sum n (λ k. 0) ≡ 0
unfolding sum
sum_zero zero = refl
sum_zero (suc n) = let a = sum_zero n in omega arith

pub sum_nil : (n : ℕ) (f : ℕ → ℕ) → ((k : ℕ) → Range 1 n k → f k ≡ 0) → sum n f ≡ 0
sum_nil n f h = sum_ext n f (λ k. 0) h ∙ sum_zero n

sum_plus : (n : ℕ) (f g : ℕ → ℕ) → sum n (λ k. f k + g k) ≡ sum n f + sum n g
unfolding sum
sum_plus zero f g = refl
sum_plus (suc n) f g = let a = sum_plus n f g in omega arith

pub sum_swap : (m n : ℕ) (f : ℕ → ℕ → ℕ) → sum m (λ i. sum n (λ j. f i j)) ≡ sum n (λ j. sum m (λ i. f i j))
unfolding sum
sum_swap zero n f = sym (sum_zero n)
sum_swap (suc m) n f =
    ap (λ (x : ℕ). x + sum n (λ j. f (suc m) j)) (sum_swap m n f) ∙ sym (sum_plus n (λ j. sum m (λ i. f i j)) (λ j. f (suc m) j))

-- ---- count

pub count_le : (n : ℕ) (f : ℕ → Bool) → count n f ≤ n
unfolding count
count_le n f = let a = sum_le n (λ k. one (f k)) 1 (λ k r. one_le (f k)) in omega arith

pub count_ext : (n : ℕ) (f g : ℕ → Bool) → ((k : ℕ) → Range 1 n k → f k ≡ g k) → count n f ≡ count n g
unfolding count
count_ext n f g h = sum_ext n (λ k. one (f k)) (λ k. one (g k)) (λ k r. ap one (h k r))

-- one that fails is one that is not counted
pub count_lt : (n : ℕ) (f : ℕ → Bool) (k : ℕ) → Range 1 n k → f k ≡ false → count n f < n
unfolding count one sum
count_lt zero f k r e = let a = r.low in let b = r.high in absurd (omega arith)
count_lt (suc n) f k r e =
    ⊎_elim
    (λ (q : k ≡ suc n). let a = count_le n f in let b : one (f (suc n)) ≡ 0 = ap one (ap f (sym q) ∙ e) in omega arith)
    (λ (l : k ≤ n). let a = count_lt n f k (range r.low l) e in let b = one_le (f (suc n)) in omega arith)
    (last_or n k r.high)

-- a number is one of 1 to n at most once
hits_none : (n x : ℕ) → n < x → sum n (λ p. one (eqb x p)) ≡ 0
unfolding sum one
hits_none zero x h = refl
hits_none (suc n) x h =
    let a = hits_none n x (omega arith) in
    let b : one (eqb x (suc n)) ≡ 0 = ap one (ne_eqb x (suc n) (λ e. omega arith)) in omega arith

pub hits : (n x : ℕ) → sum n (λ p. one (eqb x p)) ≤ 1
unfolding sum one
hits zero x = omega arith
hits (suc n) x =
    cases (eqb x (suc n))
    (λ e. let a = hits_none n x (let q = eqb-true x (suc n) e in omega arith) in let b = one_le (eqb x (suc n)) in omega arith)
    (λ e. let a : one (eqb x (suc n)) ≡ 0 = ap one e in let b = hits n x in omega arith)

pub count_all : (n : ℕ) (f : ℕ → Bool) → ((k : ℕ) → Range 1 n k → f k ≡ true) → count n f ≡ n
unfolding count sum one
count_all zero f h = refl
count_all (suc n) f h =
    let a = count_all n f (λ k r. h k (wider r)) in
    let b : one (f (suc n)) ≡ 1 = ap one (h (suc n) (top n)) in
    omega arith

-- parts of at most b, one of which falls short of it
pub sum_short : (n : ℕ) (f : ℕ → ℕ) (b s : ℕ) → ((k : ℕ) → Range 1 n k → f k ≤ b) → Range 1 n s → sum n f + b ≤ n * b + f s
unfolding sum
sum_short zero f b s h r = let x = r.low in let y = r.high in absurd (omega arith)
sum_short (suc n) f b s h r =
    ⊎_elim
    (λ (e : s ≡ suc n). let a = sum_le n f b (λ k q. h k (wider q)) in let d : f s ≡ f (suc n) = ap f e in omega arith)
    (λ (l : s ≤ n). let a = sum_short n f b s (λ k q. h k (wider q)) (range r.low l) in let d = h (suc n) (top n) in omega arith)
    (last_or n s r.high)
