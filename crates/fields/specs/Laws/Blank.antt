-- A table of zeros but for the trailer: every field of it. Assumes nothing.
use Rattle.std.specs.Prelude.{◌≡◌, refl, Bool, true, false, cond, ℕ, zero, suc, ◌+◌, eqb, length, get_or}
use Rattle.std.proofs.Common.{ap, ◌∙◌, arith}
use Rattle.fields.specs.Base.{series}
use Rattle.fields.specs.Rule.View.{Field, there, rows_at}
use Rattle.fields.specs.Rule.Layout.{form, form_at, form_width, table_bytes, view, view_by}
use Rattle.fields.specs.Rule.Fresh.{blank}
use Rattle.fields.specs.Change.{kind, major, minor, same_field, change}
use Rattle.fields.specs.Laws.Write.{length_write, view_write}
use Rattle.terms.specs.Names.{num}
use Rattle.terms.specs.Laws.Num.{num_zero, num_suc}

-- ---- zeros

pub length_series : (n : ℕ) (f : ℕ → ℕ) → length (series n f) ≡ n
unfolding series
length_series zero f = refl
length_series (suc n) f = ap suc (length_series n (λ j. f (suc j)))

zeros_at : (n i : ℕ) → get_or (series n (λ j. 0)) i 0 ≡ 0
unfolding series
zeros_at zero i = refl
zeros_at (suc n) zero = refl
zeros_at (suc n) (suc i) = zeros_at n i

zeros_num : (n at w : ℕ) → num (series n (λ j. 0)) at w ≡ 0
zeros_num n at zero = num_zero (series n (λ j. 0)) at
zeros_num n at (suc w) =
    let a = zeros_num n at w in let b = zeros_at n (at + w) in omega (arith, num_suc (series n (λ j. 0)) at w)

zeros_view : (n : ℕ) (f : Field) → view (series n (λ j. 0)) f ≡ 0
unfolding view view_by form
zeros_view n f = go (there f)
  where
    go : (b : Bool) → cond b (num (series n (λ j. 0)) (form_at f) (form_width f)) 0 ≡ 0
    go true = zeros_num n (form_at f) (form_width f)
    go false = refl

pub blank_long : length blank ≡ table_bytes
unfolding blank
blank_long = length_write (series table_bytes (λ i. 0)) rows_at form.rows_begin ∙ length_series table_bytes (λ i. 0)

pub blank_view : view blank ≡ change (view (series table_bytes (λ i. 0))) rows_at form.rows_begin
unfolding blank there form_width form
blank_view = view_write (series table_bytes (λ i. 0)) rows_at form.rows_begin (length_series table_bytes (λ i. 0)) refl (omega arith)

-- a field but the offset of processes
pub blank_zero : (g : Field) → eqb 16 (kind g) ≡ false → view blank g ≡ 0
unfolding change same_field kind major minor
blank_zero g e = rw (blank_view, e) (zeros_view table_bytes g)

pub blank_rows : view blank rows_at ≡ form.rows_begin
unfolding change same_field kind major minor
blank_rows = rw blank_view refl
