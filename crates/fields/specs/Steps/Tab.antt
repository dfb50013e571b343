-- The tests of soundness/src/tab.rt. Assumes nothing.
use Rattle.std.specs.Prelude.{◌≡◌, refl, Bool, true, false, ◌&&◌, ◌||◌, cond, List, ℕ, ◌-◌, ◌<◌, leb}
use Rattle.std.proofs.Common.{arith}
use Rattle.std.proofs.Math.Bool.{not, and-false}
use Rattle.std.proofs.Math.Dec.{eqb}
use borrow.Author.Tests.{le-leb}
use Rattle.terms.specs.Base.{within}
use Rattle.terms.specs.Names.{owner_of}
use Rattle.terms.specs.Laws.Bools.{cases, within_high, within_low}
use Rattle.fields.specs.Base.{each}
use Rattle.fields.specs.Rule.View.{View, there, tenant, options, opens, serial, row, waiting, number, owner}
use Rattle.fields.specs.Rule.Layout.{view}
use Rattle.fields.specs.Rule.Clause.{tab_in_range, empty_tab, live_or_empty, same_serial, serial_fits, hangs, tab_formed}
use Rattle.fields.specs.Rule.Word.{live, used, owner_at}
use Rattle.fields.specs.Good.{tab_good}
use Rattle.fields.specs.Laws.There.{absent}
use Rattle.fields.specs.Laws.Each.{each_of}
use Rattle.fields.specs.Laws.Sound.{zero_free, zero_unused}
use Rattle.fields.specs.Laws.Clause.{empty_tab_lem}

turned : (a b : Bool) → a && true && b ≡ b && a
turned true true = refl
turned true false = refl
turned false true = refl
turned false false = refl

-- ---- a field that is not there

-- no row 0, and none above 80
pub unused_low : (t : List ℕ) (p : ℕ) → p ≡ 0 → used (view t) p ≡ false
unfolding there
unused_low t p e = zero_unused (view t) p (absent t (number p) (within_low 1 80 p (omega arith)))

pub unused_high : (t : List ℕ) (p : ℕ) → 80 < p → used (view t) p ≡ false
unfolding there
unused_high t p h = zero_unused (view t) p (absent t (number p) (within_high 1 80 p h))

-- no slot above 10
pub free_high : (t : List ℕ) (s k : ℕ) → 10 < k → live (view t) s k ≡ false
unfolding there
free_high t s k h = zero_free (view t) s k (absent t (serial s k) (rw (within_high 1 10 k h) (and-false (within 1 8 s))))

module _ (v : View) (s : ℕ) where
  pub owner_is : owner_at v s ≡ owner_of s (v (tenant s)) (v (options s))
  unfolding owner_at
  owner_is = refl

  module _ (k : ℕ) where
    pub live_is : live v s k ≡ not (eqb (v (serial s k)) 0)
    unfolding live
    live_is = refl

    -- ---- the tests as the code asks them

    pub empty_is : empty_tab v s k ≡ eqb (v (serial s k)) 0 && eqb (v (row s k)) 0 && eqb (v (waiting s k)) 0
    unfolding empty_tab
    empty_is = refl

    -- a free slot that is empty has no serial and waits for nothing
    free_formed : live v s k ≡ false → tab_formed v s k ≡ empty_tab v s k
    unfolding tab_formed tab_in_range live_or_empty serial_fits
    free_formed f =
        cases (empty_tab v s k)
        (λ h.
        let w = empty_tab_lem v s k h in
        rw (
          le-leb (v (waiting s k)) 3 (let q = w.waiting0 in omega arith),
          f,
          h,
          le-leb (v (serial s k)) (v (opens s)) (let q = w.serial0 in omega arith),
        ))
        (λ h. rw (f, h, and-false (leb (v (waiting s k)) 3)))

    live_formed : live v s k ≡ true → tab_formed v s k ≡ leb (v (serial s k)) (v (opens s)) && leb (v (waiting s k)) 3
    unfolding tab_formed tab_in_range live_or_empty serial_fits
    live_formed l = rw l (turned (leb (v (waiting s k)) 3) (leb (v (serial s k)) (v (opens s))))

    pub formed_is : tab_formed v s k
        ≡ cond (live v s k) (leb (v (serial s k)) (v (opens s)) && leb (v (waiting s k)) 3) (empty_tab v s k)
    formed_is = cases (live v s k) (λ l. rw l (live_formed l)) (λ f. rw f (free_formed f))

    pub same_is : (i : ℕ) → same_serial v s i k ≡ live v s k && eqb (v (serial s i)) (v (serial s k))
    unfolding same_serial
    same_is i = refl

    pub free_new : live v s k ≡ false → each (k - 1) (λ i. not (same_serial v s i k)) ≡ true
    unfolding same_serial
    free_new e = each_of (k - 1) (λ i. not (same_serial v s i k)) (λ i q. rw e)

    pub good_is : tab_good v s k ≡ tab_formed v s k && hangs v s k && each (k - 1) (λ i. not (same_serial v s i k))
    unfolding tab_good
    good_is = refl

-- no row 0 and none above 80 is used
pub hangs_is : (t : List ℕ) (s k : ℕ) → hangs (view t) s k
    ≡ not (live (view t) s k)
    || (leb 1 (view t (row s k)) && leb (view t (row s k)) 80 && used (view t) (view t (row s k))
    && eqb (view t (owner (view t (row s k)))) (owner_at (view t) s))
unfolding hangs there
hangs_is t s k =
    let p = view t (row s k) in
    cases (within 1 80 p) (λ w. rw w) (λ w. rw (w, zero_unused (view t) p (absent t (number p) w)))
