-- What the head of a stream tells: whether a frame is whole, whether it is too large, and how many bytes the first event has.
-- Assumes nothing.
use Rattle.std.specs.Prelude.{ℕ, ◌+◌, ◌≤◌, ◌<◌, ◌≡◌, true, false, ◌&&◌, List, length}
use Rattle.std.proofs.Math.Path.{refl}
use Rattle.std.proofs.Common.{sym, ◌∙◌, arith}
use Rattle.std.proofs.Math.Dec.{leb, ltb}
use borrow.Author.Tests.{leb-true, leb-false, ltb-true, ltb-false, le-leb, lt-leb}
use Rattle.terms.specs.Laws.Bools.{and_left, and_right, cases}
use Rattle.terms.specs.Names.{num}
use Rattle.logs.specs.Rule.Stream.{whole, oversized, first_bytes}

module _ (s : List ℕ) where
  -- ---- the tests

  pub whole_is : whole s ≡ leb 10 (length s) && leb (num s 6 4) 4096 && leb (10 + num s 6 4) (length s)
  unfolding whole
  whole_is = refl

  pub oversized_is : oversized s ≡ leb 10 (length s) && ltb 4096 (num s 6 4)
  unfolding oversized
  oversized_is = refl

  large_cut : 10 ≤ length s → 4096 < num s 6 4 → whole s ≡ false
  large_cut h o = rw (whole_is, le-leb 10 (length s) h, lt-leb (num s 6 4) 4096 o) refl

  small_whole : 10 ≤ length s → num s 6 4 ≤ 4096 → whole s ≡ leb (10 + num s 6 4) (length s)
  small_whole h o = rw (whole_is, le-leb 10 (length s) h, le-leb (num s 6 4) 4096 o) refl

  head_oversized : 10 ≤ length s → oversized s ≡ ltb 4096 (num s 6 4)
  head_oversized h = rw (oversized_is, le-leb 10 (length s) h) refl

  -- ---- where they fail

  pub whole_short : length s < 10 → false ≡ whole s
  unfolding whole
  whole_short h = rw (lt-leb 10 (length s) h)

  pub whole_over : {k : ℕ} → 10 ≤ length s → k ≡ num s 6 4 → 4096 < k → false ≡ whole s
  unfolding whole
  whole_over {k} h e o = rw (← e, le-leb 10 (length s) h, lt-leb k 4096 o)

  pub oversized_short : length s < 10 → false ≡ oversized s
  unfolding oversized
  oversized_short h = rw (lt-leb 10 (length s) h)

  -- ---- what a test says that holds

  pub record Whole : Type 0 where
    pub long : 10 ≤ length s
    pub small : num s 6 4 ≤ 4096
    pub present : 10 + num s 6 4 ≤ length s

  pub whole_has : whole s ≡ true → Whole
  unfolding whole
  whole_has h =
      let a = leb 10 (length s) in
      let b = leb (num s 6 4) 4096 in
      let d = leb (10 + num s 6 4) (length s) in
      let front = and_left (a && b) d h in
      record {
        long = leb-true 10 (length s) (and_left a b front);
        small = leb-true (num s 6 4) 4096 (and_right a b front);
        present = leb-true (10 + num s 6 4) (length s) (and_right (a && b) d h);
      }

  pub record Oversized : Type 0 where
    pub long : 10 ≤ length s
    pub large : 4096 < num s 6 4

  pub oversized_has : oversized s ≡ true → Oversized
  unfolding oversized
  oversized_has h =
      let a = leb 10 (length s) in
      let b = ltb 4096 (num s 6 4) in
      record {
        long = leb-true 10 (length s) (and_left a b h);
        large = ltb-true 4096 (num s 6 4) (and_right a b h);
      }

  -- ---- the first event

  pub first_whole : whole s ≡ true → first_bytes s ≡ 10 + num s 6 4
  unfolding first_bytes
  first_whole h = rw h

  pub first_oversized : oversized s ≡ true → first_bytes s ≡ 10
  unfolding first_bytes
  first_oversized h =
      let o = oversized_has h in
      rw (large_cut o.long o.large, h)

  pub first_rest : whole s ≡ false → oversized s ≡ false → first_bytes s ≡ length s
  unfolding first_bytes
  first_rest h o = rw (h, o)

  -- a frame that is neither whole nor too large is cut short
  pub rest_small : whole s ≡ false → oversized s ≡ false → length s < 4106
  rest_small h o =
      cases (ltb (length s) 4106) (λ e. ltb-true (length s) 4106 e)
      (λ e.
      let l = ltb-false (length s) 4106 e in
      let long : 10 ≤ length s = omega arith in
      let small = ltb-false 4096 (num s 6 4) (sym (head_oversized long) ∙ o) in
      let short = leb-false (10 + num s 6 4) (length s) (sym (small_whole long small) ∙ h) in
      omega arith)

  pub first_inside : first_bytes s ≤ length s
  first_inside =
      cases (whole s)
      (λ h. let w = (whole_has h).present in omega (arith, first_whole h))
      (λ h.
      cases (oversized s) (λ o. let l = (oversized_has o).long in omega (arith, first_oversized o))
      (λ o. omega (arith, first_rest h o)))
