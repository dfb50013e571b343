-- Laws of `each` and `no_two`: to all of 1 to n and back, a loop's three places, and a loop from n on that leaves nowhere.
-- Assumes nothing.
use Rattle.std.specs.Prelude.{◌≡◌, refl, Bool, false, not, ◌&&◌, ◌||◌, ◌≢◌, ◌⊎◌, ℕ, zero, suc, ◌+◌, ◌-◌, ◌≤◌, ◌<◌, eqb, leb}
use Rattle.std.proofs.Math.Path.{sym, ap}
use Rattle.std.proofs.Common.{ap₂, ◌∙◌, subst, le-leb, inl, inr, ⊎_elim, eqb-true, leb-true, leb-false, eq-or-lt_of_le, le_antisymm, arith}
use Rattle.std.proofs.Math.Bool.{true, and-false}
use Rattle.std.proofs.lemmas.Bool.{eqb-false, not-true, lt-leb}
use Rattle.std.proofs.Math.Numerals.{add-one}
use Rattle.terms.specs.Laws.Bools.{and_left, and_right, and_both, cases, within_in}
use Rattle.terms.specs.Base.{within, Range}
use Rattle.fields.specs.Base.{each, no_two}

pub range : {lo hi x : ℕ} → lo ≤ x → x ≤ hi → Range lo hi x
range a b = record { low = a; high = b }

pub in_range : {n x : ℕ} → Range 1 n x → within 1 n x ≡ true
in_range {n} {x} r = within_in 1 n x r.low r.high

pub in_ranges : {n m x y : ℕ} → Range 1 n x → Range 1 m y → within 1 n x && within 1 m y ≡ true
in_ranges {n} {m} {x} {y} r q = and_both (within 1 n x) (within 1 m y) (in_range r) (in_range q)

-- the last of 1 to n + 1, or one before it
pub last_or : (n k : ℕ) → k ≤ suc n → (k ≡ suc n) ⊎ (k ≤ n)
last_or n k l = ⊎_elim (λ (e : k ≡ suc n). inl e) (λ (m : k < suc n). inr (omega arith)) (eq-or-lt_of_le l)

-- two numbers are the same or not
pub same_or : (a b : ℕ) → (a ≡ b) ⊎ (a ≢ b)
same_or a b = cases (eqb a b) (λ e. inl (eqb-true a b e)) (λ e. inr (eqb-false a b e))

-- what holds of b, and of a where it is another, holds of a
pub at_or : (P : ℕ → Type 0) (a b : ℕ) → P b → (a ≢ b → P a) → P a
at_or P a b here there = ⊎_elim (λ (e : a ≡ b). subst P (sym e) here) there (same_or a b)

-- two that are not the same are one below the other
pub less : (a b : ℕ) → a ≢ b → (a < b) ⊎ (b < a)
less a b h =
    cases (leb a b)
    (λ e. let l = leb-true a b e in ⊎_elim (λ (q : a ≡ b). absurd (h q)) (λ (m : a < b). inl m) (eq-or-lt_of_le l))
    (λ e. inr (leb-false a b e))

-- ---- each

pub each_at : (n : ℕ) (f : ℕ → Bool) (k : ℕ) → each n f ≡ true → Range 1 n k → f k ≡ true
unfolding each
each_at zero f k e r = let a = r.low in let b = r.high in absurd (omega arith)
each_at (suc n) f k e r =
    ⊎_elim (λ (q : k ≡ suc n). ap f q ∙ and_right (each n f) (f (suc n)) e)
    (λ (l : k ≤ n). each_at n f k (and_left (each n f) (f (suc n)) e) (range r.low l))
    (last_or n k r.high)

pub each_of : (n : ℕ) (f : ℕ → Bool) → ((k : ℕ) → Range 1 n k → f k ≡ true) → each n f ≡ true
unfolding each
each_of zero f h = refl
each_of (suc n) f h =
    and_both (each n f) (f (suc n))
    (each_of n f (λ k r. h k (let a = r.high in range r.low (omega arith)))) (h (suc n) (range (omega arith) (omega arith)))

pub each_not : (n : ℕ) (f : ℕ → Bool) (k : ℕ) → Range 1 n k → f k ≡ false → each n f ≡ false
unfolding each
each_not zero f k r e = let a = r.low in let b = r.high in absurd (omega arith)
each_not (suc n) f k r e =
    ⊎_elim (λ (q : k ≡ suc n). rw (ap f (sym q) ∙ e) (and-false (each n f)))
    (λ (l : k ≤ n). rw (each_not n f k (range r.low l) e))
    (last_or n k r.high)

pub each_none : (f : ℕ → Bool) → each 0 f ≡ true
unfolding each
each_none f = refl

pub each_ext : (n : ℕ) (f g : ℕ → Bool) → ((k : ℕ) → Range 1 n k → f k ≡ g k) → each n f ≡ each n g
unfolding each
each_ext zero f g h = refl
each_ext (suc n) f g h =
    ap₂ ◌&&◌ (each_ext n f g (λ k r. h k (let a = r.high in range r.low (omega arith)))) (h (suc n) (range (omega arith) (omega arith)))

-- a loop that counts up to n and leaves at the first that fails: it asks for k + 1 after k have passed
pub record Passed (n : ℕ) (f : ℕ → Bool) (k : ℕ) : Type 0 where
  pub most : k ≤ n
  pub all : each k f ≡ true

pub passed_start : (n : ℕ) (f : ℕ → Bool) → Passed n f 0
passed_start n f = record { most = omega arith; all = each_none f }

module _ {n : ℕ} {f : ℕ → Bool} {k : ℕ} (w : Passed n f k) where
  pub passed_on : {r : Bool} → k < n → r ≡ f (k + 1) → r ≡ true → Passed n f (k + 1)
  unfolding each
  passed_on l q h =
      let next : f (suc k) ≡ true = ap f (sym (add-one k)) ∙ sym q ∙ h in
      record { most = omega arith; all = rw add-one (and_both (each k f) (f (suc k)) w.all next) }

  pub passed_fail : {r : Bool} → k < n → r ≡ f (k + 1) → r ≡ false → false ≡ each n f
  passed_fail l q h = sym (each_not n f (k + 1) (range (omega arith) (omega arith)) (sym q ∙ h))

  pub passed_done : n ≤ k → true ≡ each n f
  passed_done m = sym (subst (λ (x : ℕ). each x f ≡ true) (le_antisymm w.most m) w.all)

  -- what has passed is all below the one that is asked for
  pub passed_below : each (k + 1 - 1) f ≡ true
  passed_below = let a : k + 1 - 1 ≡ k = omega arith in rw a w.all

-- a loop that counts up and leaves nowhere: what is known of k, and then of k + 1
pub each_more : (f : ℕ → Bool) (k : ℕ) (a b : Bool) → a ≡ each k f → b ≡ f (k + 1) → a && b ≡ each (k + 1) f
unfolding each
each_more f k a b e h = rw add-one (ap₂ ◌&&◌ e (h ∙ ap f (add-one k)))

pub each_all : (n : ℕ) (f : ℕ → Bool) (k : ℕ) (a : Bool) → a ≡ each k f → k ≤ n → n ≤ k → a ≡ each n f
each_all n f k a e l m = subst (λ (x : ℕ). a ≡ each x f) (le_antisymm l m) e

-- the same for one that begins with none
pub record Tested (n : ℕ) (f : ℕ → Bool) (k : ℕ) (a : Bool) : Type 0 where
  pub most : k ≤ n
  pub is : a ≡ each k f

pub tested_start : (n : ℕ) (f : ℕ → Bool) → Tested n f 0 true
tested_start n f = record { most = omega arith; is = sym (each_none f) }

module _ {n : ℕ} {f : ℕ → Bool} {k : ℕ} {a : Bool} (w : Tested n f k a) where
  pub tested_on : {b : Bool} → k < n → b ≡ f (k + 1) → Tested n f (k + 1) (a && b)
  tested_on {b} l h = record { most = omega arith; is = each_more f k a b w.is h }

  pub tested_done : n ≤ k → a ≡ each n f
  tested_done m = each_all n f k a w.is w.most m

-- ---- a loop from n on that leaves nowhere: the first n pass at once, and k has been asked

abbrev pub after : ℕ → (ℕ → Bool) → ℕ → Bool
after n f k = leb k n || f k

pub after_start : (n : ℕ) (f : ℕ → Bool) → true ≡ each n (after n f)
after_start n f = sym (each_of n (after n f) (λ k r. rw (le-leb k n r.high)))

pub after_next : (n : ℕ) {k : ℕ} (f : ℕ → Bool) {a b : Bool} → n ≤ k → a ≡ each k (after n f) → b ≡ f (k + 1)
    → a && b ≡ each (k + 1) (after n f)
unfolding each
after_next n {k} f l e h =
    rw add-one
    (ap₂ ◌&&◌ e (h ∙ ap f (add-one k) ∙ sym (let m : n < suc k = omega arith in rw (lt-leb (suc k) n m))))

-- where n is above m, none of 1 to m is asked
pub after_done : (n : ℕ) {k m : ℕ} (f : ℕ → Bool) {a : Bool} → a ≡ each k (after n f) → k ≤ m + (n - m) → m ≤ k → a ≡ each m (after n f)
after_done n {k} {m} f {a} e l h =
    cases (leb n m)
    (λ q. let w = leb-true n m q in subst (λ (x : ℕ). a ≡ each x (after n f)) (le_antisymm (omega arith) h) e)
    (λ q.
    let w = leb-false n m q in
    e ∙ each_of k (after n f) (λ i r. let b = r.high in rw (le-leb i n (omega arith)))
    ∙ sym (each_of m (after n f) (λ i r. let b = r.high in rw (le-leb i n (omega arith)))))

pub after_none : (n : ℕ) (f : ℕ → Bool) → each n (after 0 f) ≡ each n f
after_none n f = each_ext n (after 0 f) f (λ k r. rw (lt-leb k 0 r.low))

-- ---- no two

pub two_at : (n : ℕ) (f : ℕ → ℕ → Bool) (i k : ℕ) → no_two n f ≡ true → 1 ≤ i → i < k → k ≤ n → f i k ≡ false
unfolding no_two
two_at n f i k e a b d =
    let at-k = each_at n (λ k. each (k - 1) (λ i. not (f i k))) k e (range (omega arith) d) in
    not-true (f i k) (each_at (k - 1) (λ i. not (f i k)) i at-k (range a (omega arith)))

pub two_of : (n : ℕ) (f : ℕ → ℕ → Bool) → ((i k : ℕ) → 1 ≤ i → i < k → k ≤ n → f i k ≡ false) → no_two n f ≡ true
unfolding no_two
two_of n f h =
    each_of n (λ k. each (k - 1) (λ i. not (f i k))) (λ k r.
    let a = r.low in
    each_of (k - 1) (λ i. not (f i k)) (λ i q. let b = q.high in ap not (h i k q.low (omega arith) r.high)))
