-- Laws of choices: what holds of both sides of a choice holds of it. Assumes nothing.
use Rattle.std.specs.Prelude.{◌≡◌, refl, Bool, true, false, cond}

-- either side, the test being known there
pub either : {A : Type 0} (P : A → Type 0) (t : Bool) (a b : A) → (t ≡ true → P a) → (t ≡ false → P b) → P (cond t a b)
either P true a b f g = f refl
either P false a b f g = g refl
