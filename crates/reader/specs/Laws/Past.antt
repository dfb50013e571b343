-- What is held at the beginning, and once some of it was given, from the front. Assumes nothing.
use Rattle.std.specs.Prelude.{ℕ, Bool, false, ◌+◌, ◌-◌, ◌≤◌, ◌≡◌}
use Rattle.std.proofs.Math.Path.{sym, ap₂}
use Rattle.std.proofs.Common.{ap, ◌∙◌, length-take-le, take-add, drop_at, drop-drop}
use mathlib.Core.List.{List}
use native.Mathlib.Omega.{arith}
use Rattle.std.proofs.Math.ListN.{length, take, drop, length-drop}
use Rattle.reader.specs.Held.{outset, Sound, held}
use Rattle.reader.specs.Laws.Fill.{length_held}
use Rattle.reader.specs.declared.place.Place.{Place}

abbrev place_of : ℕ → ℕ → ℕ → ℕ → Bool → Bool → Place
place_of a b n k e d = record { place = a; have = b; number = n; filled = k; ended = e; done = d }

-- the place whose fields are all nothing
pub outset_is : (p : Place)
    → (p.place ≡ 0) × ((p.have ≡ 0) × ((p.number ≡ 0) × ((p.filled ≡ 0) × ((p.ended ≡ false) × (p.done ≡ false)))))
    → p ≡ outset
outset_is p e =
    let same : place_of p.place p.have p.number p.filled p.ended p.done ≡ place_of 0 0 0 0 false false = cc in same

-- at the beginning nothing is held
pub outset_sound : (n : ℕ) → Sound outset n
outset_sound n = record { ahead = omega arith; inside = omega arith }

drop_take : (x n : ℕ) (l : List ℕ) → x ≤ n → x ≤ length l → drop x (take n l) ≡ take (n - x) (drop x l)
drop_take x n l h k =
    let e : n ≡ x + (n - x) = omega arith in
    ap (λ m. drop x (take m l)) e ∙ ap (drop x) (take-add x (n - x) l)
    ∙ drop_at (take x l) (take (n - x) (drop x l)) x (length-take-le x l k)

-- p' is past the k bytes at the front of what is held
module _ (buf : List ℕ) (p p' : Place) (k : ℕ) (s : Sound p (length buf)) (inside : k ≤ length (held buf p))
    (place= : p'.place ≡ p.place + k) (have= : p'.have ≡ p.have) where
  pub sound_past : Sound p' (length buf)
  sound_past =
      let a = s.ahead in
      let i = s.inside in
      let l = length_held buf p s in
      record { ahead = omega arith; inside = omega arith }

  pub held_past : held buf p' ≡ drop k (held buf p)
  unfolding held
  held_past =
      let a = s.ahead in
      let i = s.inside in
      let h = length_held buf p s in
      let l = drop p.place buf in
      let less : p'.have - p'.place ≡ p.have - p.place - k = omega arith in
      let short : k ≤ length l = omega (arith, length-drop p.place buf) in
      ap₂ (λ (u : ℕ) (x : List ℕ). take u x) less (ap (λ (n : ℕ). drop n buf) place= ∙ sym (drop-drop k p.place buf))
      ∙ sym (drop_take k (p.have - p.place) l (omega arith) short)
