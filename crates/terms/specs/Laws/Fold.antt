-- Laws of the fold to lower case. Assumes nothing.
use Rattle.std.specs.Prelude.{◌≡◌, refl, Bool, true, false, cond, List, [], ◌∷◌, ◌++◌, ℕ, zero, suc, ◌+◌, ◌≤◌, ◌<◌, length, get_or, take, drop, eqb}
use Rattle.std.proofs.Common.{ap, ap₂, ◌∙◌, arith, eqb-true, eq-eqb}
use Rattle.terms.specs.Base.{within, every}
use Rattle.terms.specs.Rule.Name.{lower, folded, is_folded}
use Rattle.terms.specs.Laws.Bools.{and_left, and_right, cases, within_at, within_high}

pub lower_is : (x : ℕ) → lower x ≡ cond (within 65 90 x) (x + 32) x
unfolding lower
lower_is x = refl

-- a capital goes up by 32
pub lower_capital : (x : ℕ) → within 65 90 x ≡ true → lower x ≡ x + 32
lower_capital x e = lower_is x ∙ rw e

-- every other byte stays
pub lower_other : (x : ℕ) → within 65 90 x ≡ false → lower x ≡ x
lower_other x e = lower_is x ∙ rw e

-- a test that does not tell capitals from small letters does not see the fold
pub lower_unseen : (f : ℕ → Bool) → ((x : ℕ) → 65 ≤ x → x ≤ 90 → f (x + 32) ≡ f x) → (x : ℕ) → f (lower x) ≡ f x
lower_unseen f h x =
    cases (within 65 90 x)
    (λ e. let r = within_at 65 90 x e in ap f (lower_capital x e) ∙ h x r.low r.high)
    (λ e. ap f (lower_other x e))

pub lower_lower : (x : ℕ) → lower (lower x) ≡ lower x
lower_lower x =
    cases (within 65 90 x)
    (λ e.
    let r = within_at 65 90 x e in
    let l = r.low in
    lower_other (lower x) (rw (lower_capital x e) (within_high 65 90 (x + 32) (omega arith))))
    (λ e. ap lower (lower_other x e))

pub lower_lt : (x : ℕ) → x < 256 → lower x < 256
lower_lt x h =
    cases (within 65 90 x)
    (λ e. let r = within_at 65 90 x e in let u = r.high in rw (lower_capital x e) (omega arith))
    (λ e. rw (lower_other x e) h)

-- ---- names

pub folded_nil : folded [] ≡ []
unfolding folded
folded_nil = refl

pub folded_cons : (x : ℕ) (s : List ℕ) → folded (x ∷ s) ≡ lower x ∷ folded s
unfolding folded
folded_cons x s = refl

pub folded_append : (s t : List ℕ) → folded (s ++ t) ≡ folded s ++ folded t
unfolding folded
folded_append [] t = refl
folded_append (x ∷ s) t = ap (λ (l : List ℕ). lower x ∷ l) (folded_append s t)

pub length_folded : (s : List ℕ) → length (folded s) ≡ length s
unfolding folded
length_folded [] = refl
length_folded (x ∷ s) = ap suc (length_folded s)

pub get_d_folded : (s : List ℕ) (i : ℕ) → get_or (folded s) i 0 ≡ lower (get_or s i 0)
unfolding folded lower
get_d_folded [] i = refl
get_d_folded (x ∷ s) zero = refl
get_d_folded (x ∷ s) (suc i) = get_d_folded s i

pub folded_drop : (i : ℕ) (s : List ℕ) → folded (drop i s) ≡ drop i (folded s)
unfolding folded
folded_drop zero s = refl
folded_drop (suc i) [] = refl
folded_drop (suc i) (x ∷ s) = folded_drop i s

pub folded_folded : (s : List ℕ) → folded (folded s) ≡ folded s
unfolding folded
folded_folded [] = refl
folded_folded (x ∷ s) = ap₂ (λ (y : ℕ) (l : List ℕ). y ∷ l) (lower_lower x) (folded_folded s)

-- what is folded has nothing left to fold
pub is_folded_folded : (s : List ℕ) → is_folded (folded s) ≡ true
unfolding is_folded folded every
is_folded_folded [] = refl
is_folded_folded (x ∷ s) = rw (eq-eqb (lower (lower x)) (lower x) (lower_lower x)) (is_folded_folded s)

-- and folding leaves it as it is
pub folded_is : (s : List ℕ) → is_folded s ≡ true → folded s ≡ s
unfolding is_folded folded every
folded_is [] e = refl
folded_is (x ∷ s) e =
    ap₂ (λ (y : ℕ) (l : List ℕ). y ∷ l)
    (eqb-true (lower x) x (and_left (eqb (lower x) x) (every (λ y. eqb (lower y) y) s) e))
    (folded_is s (and_right (eqb (lower x) x) (every (λ y. eqb (lower y) y) s) e))

pub folded_take : (i : ℕ) (s : List ℕ) → folded (take i s) ≡ take i (folded s)
unfolding folded
folded_take zero s = refl
folded_take (suc i) [] = refl
folded_take (suc i) (x ∷ s) = ap (λ (l : List ℕ). lower x ∷ l) (folded_take i s)
