-- A list spelled into places and read back. Assumes nothing.
use Rattle.std.specs.Prelude.{◌≡◌, refl, List, [], ◌∷◌, ℕ, zero, suc, ◌-◌, ◌≤◌, ◌<◌, length, get_or, take}
use Rattle.std.proofs.Common.{ap, ap₂, ◌∙◌, arith}
use Rattle.terms.specs.Base.{Range}
use Rattle.fields.specs.Base.{series}
use Rattle.fields.specs.Laws.Each.{range}

shifted : (x : ℕ) (xs : List ℕ) (j : ℕ) → 1 ≤ j → get_or (x ∷ xs) (suc j - 1) 0 ≡ get_or xs (j - 1) 0
shifted x xs zero h = absurd (omega arith)
shifted x xs (suc j) h =
    let a : suc (suc j) - 1 ≡ suc j = omega arith in
    let b : suc j - 1 ≡ j = omega arith in
    rw (a, b)

pub length_series : (m : ℕ) (f : ℕ → ℕ) → length (series m f) ≡ m
unfolding series
length_series zero f = refl
length_series (suc m) f = ap suc (length_series m (λ j. f (suc j)))

pub series_take : (m : ℕ) (xs : List ℕ) (f : ℕ → ℕ) → length xs ≤ m → ((j : ℕ) → Range 1 m j → f j ≡ get_or xs (j - 1) 0)
    → take (length xs) (series m f) ≡ xs
unfolding series
series_take m [] f l h = refl
series_take zero (x ∷ xs) f l h = absurd (omega arith)
series_take (suc m) (x ∷ xs) f l h =
    ap₂ (λ (a : ℕ) (ys : List ℕ). a ∷ ys) (h 1 (range (omega arith) (omega arith)))
    (series_take m xs (λ j. f (suc j)) (omega arith)
    (λ j r. let a = r.low in let b = r.high in h (suc j) (range (omega arith) (omega arith)) ∙ shifted x xs j a))

pub series_at : (m : ℕ) (f : ℕ → ℕ) (i : ℕ) → i < m → get_or (series m f) i 0 ≡ f (suc i)
unfolding series
series_at zero f i h = absurd (omega arith)
series_at (suc m) f zero h = refl
series_at (suc m) f (suc i) h = series_at m (λ j. f (suc j)) i (omega arith)
