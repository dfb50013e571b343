-- Chains of iterators over the numbers 1 to n, said in the words of Base: `all` and `each`, `find` and `lowest`. What the closure
-- gives for a number is what the test gives. Assumes nothing.
use Rattle.std.specs.Prelude.{◌≡◌, Bool, true, false, Option, None, Some, List, [], ◌∷◌, ℕ, suc, ◌+◌, ◌-◌, ◌≤◌, ◌<◌, length}
use Rattle.std.proofs.Math.Path.{sym, ap}
use Rattle.std.proofs.Common.{◌∙◌, subst, arith}
use Rattle.std.specs.declared.ops.Range.{Range as Numbers}
use Rattle.std.specs.Bool.{MatchBool}
use Rattle.std.specs.Option.{MatchOption}
use Rattle.std.specs.Fn.{Called, CalledAt, Takes}
use Rattle.std.specs.Iterator.{ChecksAll, CallableWhile, FindsItem, Yields}
use Rattle.std.specs.List.{range_with_len, AllWithin, HoldsAt, FoldsTo}
use Rattle.std.proofs.iter.Yields.{nat_range_steps}
use Rattle.std.proofs.lemmas.Iterator.{YieldsList-from_range, cases_from_all, first_from_Range}
use Rattle.std.proofs.lemmas.List.FromFn.{length-range_with_len, get_or-range_with_len}
use denote.Param.Members.{Mut}
use denote.Ref.{Bor}
use Rattle.terms.specs.Base.{Range, if_any}
use Rattle.terms.specs.Laws.Bools.{and_both}
use Rattle.fields.specs.Base.{each, lowest}
use Rattle.fields.specs.Laws.Each.{range, each_of, each_not, each_none}
use Rattle.fields.specs.Laws.Lowest.{lowest_none, lowest_is, some_any}

abbrev pub numbers : ℕ → ℕ → Numbers ℕ
numbers a b = record { start = a; end = b }

-- the range of 1 to p - 1
pub up_to : {p : ℕ} → 1 ≤ p → numbers 1 p ≡ numbers 1 (p - 1 + 1)
up_to {p} l = let e : p ≡ p - 1 + 1 = omega arith in ap (numbers 1) e

module _ {F : Type 0} {g : Mut F (ℕ × Unit {0}) Bool} {s : Numbers ℕ} {f : F} {r : Bool} (u : Numbers ℕ) where
  pub all_each : (n : ℕ) (test : ℕ → Bool) → s ≡ numbers 1 (n + 1) → ChecksAll nat_range_steps g s f r u
      → ((x : ℕ) (b : Bool) (q : F) → Called g f (x, tt) b q → (q ≡ f) × (b ≡ test x)) → r ≡ each n test
  all_each n test e ran calls =
      told r
      (cases_from_all u f r (λ x. test x ≡ true) (λ x. test x ≡ false) ran (YieldsList-from_range 1 (n + 1) n e (omega arith))
      (λ x q h. let k = calls x true q h in (k.0, sym k.1)) (λ x q h. sym (calls x false q h).1))
    where
      all : List ℕ
      all = range_with_len 1 n

      long : length all ≡ n
      long = length-range_with_len 1 n

      told : (b : Bool) → MatchBool b (AllWithin (λ x. test x ≡ true) all 0 (length all)) ((k : ℕ) × (k < length all) × HoldsAt (λ x. test x ≡ false) all k)
          → b ≡ each n test
      told true h =
          sym (each_of n test (λ k i. let a = i.low in let b = i.high in
          subst (λ (x : ℕ). test x ≡ true) (get_or-range_with_len 1 n (k - 1) 0 (omega arith) ∙ omega arith) (h (k - 1) 0 (omega arith) (omega (arith, long)))))
      told false h =
          let k = h.0 in let l = h.1 in
          let at : test (1 + k) ≡ false = subst (λ (x : ℕ). test x ≡ false) (get_or-range_with_len 1 n k 0 (omega (arith, long))) (h.2 0) in
          sym (each_not n test (1 + k) (range (omega arith) (omega (arith, long))) at)

-- ---- what the closure of `all` may be asked: a number of 1 to n, after all below it have passed

each_next : (test : ℕ → Bool) {a b x : ℕ} → each (a - 1) test ≡ true → 1 ≤ a → x ≡ a → b ≡ a + 1 → true ≡ test x
    → each (b - 1) test ≡ true
unfolding each
each_next test {a} {b} {x} h l e d t =
    let p : b - 1 ≡ suc (a - 1) = omega arith in
    let o : x ≡ suc (a - 1) = omega arith in
    rw p (and_both (each (a - 1) test) (test (suc (a - 1))) h (ap test (sym o) ∙ sym t))

module _ {F : Type 0} {g : Mut F (ℕ × Unit {0}) Bool} {f : F} (n : ℕ) (test : ℕ → Bool)
    (calls : (x : ℕ) (b : Bool) (q : F) → Called g f (x, tt) b q → (q ≡ f) × (b ≡ test x)) where
  -- where the range stands after the numbers xs have passed
  passed : (xs : List ℕ) (s t : Numbers ℕ) (q : F) → s.end ≡ n + 1 → 1 ≤ s.start → each (s.start - 1) test ≡ true
      → Yields nat_range_steps s xs t → FoldsTo (λ p x q. Called g p (x, tt) true q) f xs q
      → (q ≡ f) × (t.end ≡ n + 1) × (1 ≤ t.start) × (each (t.start - 1) test ≡ true)
  passed [] s t q e l h y c = (
    sym c,
    subst (λ (k : Numbers ℕ). k.end ≡ n + 1) y e,
    subst (λ (k : Numbers ℕ). 1 ≤ k.start) y l,
    subst (λ (k : Numbers ℕ). each (k.start - 1) test ≡ true) y h,
  )
  passed (x ∷ xs) s t q e l h y c =
      let k = calls x true c.0 c.1 in
      passed xs y.0 t q (y.1.0 ∙ e) (omega (arith, y.1.1.2)) (each_next test h l y.1.1.1 y.1.1.2 k.1) y.2
      (subst (λ (j : F). FoldsTo (λ p x q. Called g p (x, tt) true q) j xs q) k.0 c.2)

  pub may_each : {s : Numbers ℕ} → s ≡ numbers 1 (n + 1)
      → ((x : ℕ) → Range 1 n x → each (x - 1) test ≡ true → Takes g f (x, tt)) → CallableWhile nat_range_steps g true s f
  may_each {s} e ok =
      record {
        at = λ xs t q x u y c d.
            let w = passed xs s t q (ap (λ (k : Numbers ℕ). k.end) e) (let a = ap (λ (k : Numbers ℕ). k.start) e in omega arith)
            (each_first (ap (λ (k : Numbers ℕ). k.start) e)) y c in
            let below : each (x - 1) test ≡ true = subst (λ (z : ℕ). each (z - 1) test ≡ true) (sym d.1.1) w.3 in
            subst (λ (j : F). Takes g j (x, tt)) (sym w.0)
            (ok x (range (omega (arith, w.2, d.1.1)) (omega (arith, w.1, d.1.0, d.1.1))) below);
      }
    where
      each_first : {a : ℕ} → a ≡ 1 → each (a - 1) test ≡ true
      each_first {a} q = let z : a - 1 ≡ 0 = omega arith in rw z (each_none test)

module _ {F : Type 0} {g : Mut F (Bor ℕ × Unit {0}) Bool} {s : Numbers ℕ} {f : F} {r : Option ℕ} (u : Numbers ℕ) where
  pub find_lowest : (n : ℕ) (test : ℕ → Bool) → s ≡ numbers 1 (n + 1) → FindsItem nat_range_steps g s f r u
      → ((x : ℕ) (b : Bool) (q : F) → CalledAt g f x b q → (q ≡ f) × (b ≡ test x)) → r ≡ if_any (lowest n test)
  find_lowest n test e ran calls =
      told r
      (first_from_Range s u f r (λ x. test x ≡ true) (λ x. test x ≡ false) ran (λ x q h. sym (calls x true q h).1)
      (λ x q h. let k = calls x false q h in (k.0, sym k.1)))
    where
      start : s.start ≡ 1
      start = ap (λ (k : Numbers ℕ). k.start) e

      end : s.end ≡ n + 1
      end = ap (λ (k : Numbers ℕ). k.end) e

      told : (o : Option ℕ) → MatchOption o ((k : ℕ) → s.start ≤ k → k < s.end → test k ≡ false)
          (λ i. (s.start ≤ i) × (i < s.end) × (test i ≡ true) × ((k : ℕ) → s.start ≤ k → k < i → test k ≡ false))
          → o ≡ if_any (lowest n test)
      told None h =
          sym (ap if_any (lowest_none n test (λ k i. let a = i.low in let b = i.high in h k (omega (arith, start)) (omega (arith, end)))))
      told (Some i) h =
          let low : 1 ≤ i = omega (arith, start, h.0) in
          some_any i low
          ∙ sym (ap if_any (lowest_is n test i
          (record {
            range = range low (omega (arith, end, h.1));
            passes = h.2;
            below = λ k a b. h.3 k (omega (arith, start)) b;
          })))
