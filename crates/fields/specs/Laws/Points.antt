-- How many tabs point at a row: one that hangs on it does, and a free one at none. Assumes nothing.
use Rattle.std.specs.Prelude.{◌≡◌, true, false, ◌≢◌, ℕ, ◌≤◌}
use Rattle.std.proofs.Common.{sym, ap, ◌∙◌, arith, eq-eqb, ne_eqb}
use Rattle.std.proofs.lemmas.Bool.{false≢true}
use Rattle.terms.specs.Laws.Bools.{cases}
use Rattle.terms.specs.Base.{Range}
use Rattle.fields.specs.Base.{count, one}
use Rattle.fields.specs.Rule.View.{View, row}
use Rattle.fields.specs.Rule.Word.{live, points, pointing}
use Rattle.fields.specs.Laws.Sum.{sum_part}

pub points_is : (v : View) (p s k : ℕ) → live v s k ≡ true → v (row s k) ≡ p → points v p s k ≡ true
unfolding points
points_is v p s k l e = rw (l, eq-eqb (v (row s k)) p e)

pub points_not : (v : View) (q s k : ℕ) → (live v s k ≡ true → v (row s k) ≢ q) → points v q s k ≡ false
unfolding points
points_not v q s k h = cases (live v s k) (λ l. rw (l, ne_eqb (v (row s k)) q (h l))) (λ l. rw l)

pub points_free : (v : View) (q s k : ℕ) → live v s k ≡ false → points v q s k ≡ false
points_free v q s k e = points_not v q s k (λ l. absurd (false≢true (sym e ∙ l)))

-- a tab that points at a row is one of those counted
pub pointing_part : (v : View) (p s k : ℕ) → Range 1 8 s → Range 1 10 k → points v p s k ≡ true → 1 ≤ pointing v p
unfolding pointing count one
pointing_part v p s k r q e =
    let a = sum_part 8 (λ s. count 10 (λ k. points v p s k)) s r in
    let b = sum_part 10 (λ k. one (points v p s k)) k q in
    let d : one (points v p s k) ≡ 1 = ap one e in omega arith
