-- Marks as the code reads and writes them. Assumes nothing.
use Rattle.std.specs.Prelude.{◌≡◌, true, ◌||◌, List, ℕ, ◌+◌, ◌-◌, ◌≤◌, eqb}
use Rattle.std.proofs.Common.{refl, ⊎_elim, arith, eqb-true}
use Rattle.terms.specs.Laws.Bools.{or_case}
use Rattle.fields.specs.Rule.View.{View, waiting}
use Rattle.fields.specs.Rule.Layout.{view}
use Rattle.fields.specs.Rule.Update.{weight, waits, marked, unmarked}
use Rattle.fields.specs.declared.mark.Mark.{Mark}
use Rattle.fields.specs.declared.mark.Mark.TheVariants.{Cookie, Document}
use Rattle.fields.specs.Held.{WroteField}

pub weight_cookie : {n : ℕ} → n ≡ 1 → n ≡ weight Cookie
unfolding weight
weight_cookie e = e

pub weight_document : {n : ℕ} → n ≡ 2 → n ≡ weight Document
unfolding weight
weight_document e = e

pub weight_le : (m : Mark) → weight m ≤ 2
unfolding weight
weight_le Cookie = omega arith
weight_le Document = omega arith

pub waits_is : (v : View) (s k : ℕ) (m : Mark) → waits v s k m ≡ eqb (v (waiting s k)) (weight m) || eqb (v (waiting s k)) 3
unfolding waits weight
waits_is v s k Cookie = refl
waits_is v s k Document = refl

-- a mark that is waited for is in the number
pub waits_low : (v : View) (s k : ℕ) (m : Mark) → waits v s k m ≡ true → weight m ≤ v (waiting s k)
unfolding waits weight
waits_low v s k Cookie e =
    ⊎_elim (λ (a : eqb (v (waiting s k)) 1 ≡ true). let b = eqb-true (v (waiting s k)) 1 a in omega arith)
    (λ (a : eqb (v (waiting s k)) 3 ≡ true). let b = eqb-true (v (waiting s k)) 3 a in omega arith)
    (or_case (eqb (v (waiting s k)) 1) (eqb (v (waiting s k)) 3) e)
waits_low v s k Document e =
    ⊎_elim (λ (a : eqb (v (waiting s k)) 2 ≡ true). let b = eqb-true (v (waiting s k)) 2 a in omega arith)
    (λ (a : eqb (v (waiting s k)) 3 ≡ true). let b = eqb-true (v (waiting s k)) 3 a in omega arith)
    (or_case (eqb (v (waiting s k)) 2) (eqb (v (waiting s k)) 3) e)

-- a mark set, and a mark cleared
pub marked_of : {t u : List ℕ} {s k w n : ℕ} (m : Mark) → w ≡ view t (waiting s k) → n ≡ weight m
    → WroteField t u (waiting s k) (w + n) → u ≡ marked t s k m
unfolding marked
marked_of m a b w = rw (w.is, a, b)

pub unmarked_of : {t u : List ℕ} {s k w n : ℕ} (m : Mark) → w ≡ view t (waiting s k) → n ≡ weight m
    → WroteField t u (waiting s k) (w - n) → u ≡ unmarked t s k m
unfolding unmarked
unmarked_of m a b w = rw (w.is, a, b)
