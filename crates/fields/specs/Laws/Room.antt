-- Where a seat has a free slot, a process row is free: each live row has a live tab of its own, and there are as many rows as
-- slots. And the numbers that an open writes fit their bytes. Assumes nothing.
use Rattle.std.specs.Prelude.{◌≡◌, refl, Bool, true, false, not, ◌&&◌, ◌≢◌, ℕ, ◌+◌, ◌*◌, ◌≤◌, ◌<◌, eqb}
use Rattle.std.proofs.Common.{◌∙◌, zero-le, le_trans, le_of_eq, arith}
use Rattle.std.proofs.lemmas.Bool.{not-false}
use Rattle.terms.specs.Base.{Range}
use Rattle.fields.specs.Base.{sum, one, count}
use Rattle.fields.specs.Rule.View.{View, opens, row, tabs, last}
use Rattle.fields.specs.Rule.Word.{live, used, points, pointing}
use Rattle.fields.specs.Rule.Find.{free_process, live_tabs}
use Rattle.fields.specs.Laws.Sum.{one_le, sum_ext, sum_le, sum_mono, sum_zero, sum_swap, sum_short, count_le, count_all}
use Rattle.fields.specs.Laws.Sum.{hits}
use Rattle.fields.specs.Laws.Lowest.{lowest_nil}
use Rattle.fields.specs.Laws.Sound.{Sound}

-- a tab points at one row at most, and at none if it is not live
one_row : (v : View) (s k : ℕ) → sum 80 (λ p. one (points v p s k)) ≤ one (live v s k)
unfolding points one
one_row v s k = go (live v s k)
  where
    go : (b : Bool) → sum 80 (λ p. one (b && eqb (v (row s k)) p)) ≤ one b
    go true = hits 80 (v (row s k))
    go false = le_of_eq (sum_zero 80)

-- all rows' tabs together are at most the live tabs
tabs_le : (v : View) → sum 80 (λ p. pointing v p) ≤ sum 8 (λ s. live_tabs v s)
unfolding pointing count live_tabs
tabs_le v =
    let f : ℕ → ℕ → ℕ → ℕ = λ p s k. one (points v p s k) in
    let a : sum 80 (λ p. sum 8 (λ s. sum 10 (λ k. f p s k))) ≡ sum 8 (λ s. sum 10 (λ k. sum 80 (λ p. f p s k)))
    = sum_swap 80 8 (λ p s. sum 10 (λ k. f p s k))
    ∙ sum_ext 8 (λ s. sum 80 (λ p. sum 10 (λ k. f p s k))) (λ s. sum 10 (λ k. sum 80 (λ p. f p s k)))
    (λ s r. sum_swap 80 10 (λ p k. f p s k)) in
    le_trans (le_of_eq a)
    (sum_mono 8 (λ s. sum 10 (λ k. sum 80 (λ p. f p s k))) (λ s. sum 10 (λ k. one (live v s k)))
    (λ s r. sum_mono 10 (λ k. sum 80 (λ p. f p s k)) (λ k. one (live v s k)) (λ k q. one_row v s k)))

pub tabs_most : (v : View) (s : ℕ) → live_tabs v s ≤ 10
unfolding live_tabs
tabs_most v s = count_le 10 (λ k. live v s k)

when : (b : Bool) (x : ℕ) → (b ≡ true → 1 ≤ x) → one b ≤ x
unfolding one
when true x h = h refl
when false x h = zero-le

-- live rows are at most the tabs that they count
tabs_counted : (most : ℕ) (v : View) → Sound most v → count 80 (λ p. used v p) ≤ sum 80 (λ p. pointing v p)
unfolding count
tabs_counted most v w =
    sum_mono 80 (λ p. one (used v p)) (λ p. pointing v p)
    (λ p r. when (used v p) (pointing v p) (λ u. let a = w.some_tab p r u in let b = w.counts p r in omega arith))

-- a free slot leaves a free row
pub room : (most : ℕ) (v : View) (s : ℕ) → Sound most v → Range 1 8 s → live_tabs v s < 10 → free_process v ≢ 0
unfolding free_process
room most v s w r h z =
    let all : count 80 (λ p. used v p) ≡ 80
    = count_all 80 (λ p. used v p) (λ p q. not-false (used v p) (lowest_nil 80 (λ p. not (used v p)) z p q)) in
    let a = tabs_counted most v w in
    let b = tabs_le v in
    let d = sum_short 8 (λ s. live_tabs v s) 10 s (λ k q. tabs_most v k) r in
    omega arith

-- ---- numbers that fit

-- the sum of opens
pub opens_sum_le : (most : ℕ) (v : View) → Sound most v → sum 8 (λ s. v (opens s)) ≤ 8 * most
opens_sum_le most v w = sum_le 8 (λ s. v (opens s)) most (λ s r. w.opens_fit s r)

-- "last number + 1"
pub last_next : (most : ℕ) (v : View) → Sound most v → v last + 1 ≤ 8 * most + 1
last_next most v w = let a = opens_sum_le most v w in let b = w.last_fits in omega arith

-- a tab count
pub tabs_le_80 : (most : ℕ) (v : View) (p : ℕ) → Sound most v → Range 1 80 p → v (tabs p) ≤ 80
unfolding pointing count
tabs_le_80 most v p w r =
    let a = sum_le 8 (λ s. sum 10 (λ k. one (points v p s k))) 10
    (λ s q. let b = sum_le 10 (λ k. one (points v p s k)) 1 (λ k i. one_le (points v p s k)) in omega arith) in
    let d = w.counts p r in
    omega arith
