-- Laws of `lowest`: what it finds, a loop's three places, and the same as an option. Assumes nothing.
use Rattle.std.specs.Prelude.{◌≡◌, refl, Bool, true, false, not, cond, ◌≢◌, Option, None, Some, ℕ, zero, suc, ◌≤◌, ◌<◌, eqb, ◌+◌}
use Rattle.std.proofs.Math.Path.{sym, ap}
use Rattle.std.proofs.Common.{◌∙◌, ⊎_elim, ne_eqb, eqb-true, arith, subst, le_antisymm}
use Rattle.std.proofs.lemmas.Bool.{eqb-false, false≢true}
use Rattle.std.specs.Option.{IfSome, is_some}
use Rattle.terms.specs.Base.{Range, if_any}
use Rattle.fields.specs.Base.{lowest}
use Rattle.fields.specs.Laws.Each.{range, last_or}
use Rattle.std.proofs.Math.Numerals.{add-one}

-- k is the lowest of 1 to n that passes
pub record Lowest (n : ℕ) (f : ℕ → Bool) (k : ℕ) : Type 0 where
  pub range : Range 1 n k
  pub passes : f k ≡ true
  pub below : (i : ℕ) → 1 ≤ i → i < k → f i ≡ false

-- ---- none

pub lowest_nil : (n : ℕ) (f : ℕ → Bool) → lowest n f ≡ 0 → (k : ℕ) → Range 1 n k → f k ≡ false
unfolding lowest
lowest_nil zero f e k r = let a = r.low in let b = r.high in absurd (omega arith)
lowest_nil (suc n) f e k r = go (λ z l. lowest_nil n f z k (range r.low l)) (eqb (lowest n f) 0) refl (f (suc n)) refl e
  where
    go : (lowest n f ≡ 0 → k ≤ n → f k ≡ false) → (a : Bool) → eqb (lowest n f) 0 ≡ a → (b : Bool) → f (suc n) ≡ b
        → cond a (cond b (suc n) 0) (lowest n f) ≡ 0 → f k ≡ false
    go ih true p true q h = absurd (omega arith)
    go ih true p false q h =
        ⊎_elim (λ (z : k ≡ suc n). ap f z ∙ q) (λ (l : k ≤ n). ih (eqb-true (lowest n f) 0 p) l) (last_or n k r.high)
    go ih false p b q h = absurd (eqb-false (lowest n f) 0 p h)

pub lowest_none : (n : ℕ) (f : ℕ → Bool) → ((k : ℕ) → Range 1 n k → f k ≡ false) → lowest n f ≡ 0
unfolding lowest
lowest_none zero f h = refl
lowest_none (suc n) f h =
    let below = lowest_none n f (λ k r. let a = r.high in h k (range r.low (omega arith))) in
    rw (below, h (suc n) (range (omega arith) (omega arith)))

-- ---- one

pub lowest_is : (n : ℕ) (f : ℕ → Bool) (k : ℕ) → Lowest n f k → lowest n f ≡ k
unfolding lowest
lowest_is zero f k w = let a = w.range.low in let b = w.range.high in absurd (omega arith)
lowest_is (suc n) f k w =
    ⊎_elim
    (λ (e : k ≡ suc n).
    let z : lowest n f ≡ 0 = lowest_none n f (λ i r. let a = r.high in w.below i r.low (omega arith)) in
    rw (z, ap f (sym e) ∙ w.passes) (sym e))
    (λ (l : k ≤ n).
    let z : lowest n f ≡ k = lowest_is n f k (record { range = range w.range.low l; passes = w.passes; below = w.below }) in
    let a = w.range.low in
    rw (z, ne_eqb k 0 (λ e. omega arith)))
    (last_or n k w.range.high)

pub lowest_at : (n : ℕ) (f : ℕ → Bool) → lowest n f ≢ 0 → Lowest n f (lowest n f)
unfolding lowest
lowest_at zero f h = absurd (h refl)
lowest_at (suc n) f h = go (lowest_at n f) (eqb (lowest n f) 0) refl (f (suc n)) refl h
  where
    go : (lowest n f ≢ 0 → Lowest n f (lowest n f)) → (a : Bool) → eqb (lowest n f) 0 ≡ a → (b : Bool) → f (suc n) ≡ b
        → cond a (cond b (suc n) 0) (lowest n f) ≢ 0
        → Lowest (suc n) f (cond a (cond b (suc n) 0) (lowest n f))
    go ih true p true q h =
        record {
          range = range (omega arith) (omega arith);
          passes = q;
          below = λ i l m. lowest_nil n f (eqb-true (lowest n f) 0 p) i (range l (omega arith));
        }
    go ih true p false q h = absurd (h refl)
    go ih false p b q h =
        let w = ih h in
        let a = w.range.high in
        record { range = range w.range.low (omega arith); passes = w.passes; below = w.below }

-- ---- a loop that counts up to n and leaves at the first that passes: it asks for k + 1 after k have failed

pub record Sought (n : ℕ) (f : ℕ → Bool) (k : ℕ) : Type 0 where
  pub most : k ≤ n
  pub none : lowest k f ≡ 0

-- what it gives
abbrev pub Found : ℕ → (ℕ → Bool) → ℕ → Type 0
Found n f k = (k ≡ lowest n f) × (k ≤ n)

pub sought_start : (n : ℕ) (f : ℕ → Bool) → Sought n f 0
unfolding lowest
sought_start n f = record { most = omega arith; none = refl }

module _ {n : ℕ} {f : ℕ → Bool} {k : ℕ} (w : Sought n f k) where
  pub sought_pass : {r : Bool} → k < n → r ≡ f (k + 1) → r ≡ false → Sought n f (k + 1)
  unfolding lowest
  sought_pass l q h = record { most = omega arith; none = rw add-one (rw (w.none, ap f (sym (add-one k)) ∙ sym q ∙ h)) }

  pub sought_stop : {r : Bool} → k < n → r ≡ f (k + 1) → r ≡ true → Found n f (k + 1)
  sought_stop l q h = (
    sym (lowest_is n f (k + 1)
        (record {
          range = range (omega arith) (omega arith);
          passes = sym q ∙ h;
          below = λ i a b. lowest_nil k f w.none i (range a (omega arith));
        })),
    omega arith,
  )

  pub sought_done : n ≤ k → Found n f 0
  sought_done m = (sym (subst (λ (x : ℕ). lowest x f ≡ 0) (le_antisymm w.most m) w.none), omega arith)

-- ---- the same as an option

pub any_none : (n : ℕ) → None ≡ if_any n → n ≡ 0
any_none zero e = refl
any_none (suc n) e = cc

pub any_some : (n : ℕ) {p : ℕ} → Some p ≡ if_any n → (p ≡ n) × (p ≢ 0)
any_some zero e = cc
any_some (suc n) {p} e = let q : p ≡ suc n = cc in (q, λ z. absurd (omega (arith, q, z)))

none_any : (n : ℕ) (b : Bool) → is_some (if_any n) ≡ not b → b ≡ eqb n 0
none_any zero true e = refl
none_any zero false e = absurd (false≢true e)
none_any (suc n) true e = absurd (false≢true (sym e))
none_any (suc n) false e = sym (ne_eqb (suc n) 0 (λ z. absurd (omega (arith, z))))

-- no row is found where the option is none
pub is_new_any : (n : ℕ) {o : Option ℕ} {b : Bool} → o ≡ if_any n → is_some o ≡ not b → b ≡ eqb n 0
is_new_any n {o} {b} e h = none_any n b (ap is_some (sym e) ∙ h)

pub some_any : (k : ℕ) → 1 ≤ k → Some k ≡ if_any k
some_any zero l = absurd (omega arith)
some_any (suc k) l = refl

pub any_in : (n : ℕ) (f : ℕ → Bool) (r : Option ℕ) → r ≡ if_any (lowest n f) → IfSome r (Range 1 n)
any_in n f None e = tt
any_in n f (Some k) e =
    let q = any_some (lowest n f) e in
    subst (Range 1 n) (sym q.0) (lowest_at n f (λ z. q.1 (q.0 ∙ z))).range
