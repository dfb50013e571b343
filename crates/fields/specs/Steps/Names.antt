-- A process row's name: where `name` of src/layout.rt finds it, and the turns of the loop in letters/src/spell.rt. Assumes nothing.
use Rattle.std.specs.Prelude.{◌≡◌, refl, List, ◌∷◌, ℕ, zero, suc, ◌+◌, ◌-◌, ◌≤◌, ◌<◌, get_or, take, drop, leb, min}
use Rattle.std.proofs.Common.{ap, ap₂, sym, ◌∙◌, add-one, drop-cons, take-take, take_all}
use native.Mathlib.Omega.{arith}
use Rattle.std.proofs.Common.{leb-true, leb-false}
use Rattle.terms.specs.Laws.Bools.{cases}
use Rattle.std.proofs.Math.ListN.{length, length-take}
use Rattle.terms.specs.Base.{Range}
use Rattle.fields.specs.Base.{series}
use Rattle.fields.specs.Rule.View.{size, letter}
use Rattle.fields.specs.Rule.Layout.{row_at, view}
use Rattle.fields.specs.Rule.Word.{name_of}
use Rattle.fields.specs.Rule.Update.{spelled}
use Rattle.fields.specs.Held.{RowOf, WroteField}
use Rattle.fields.specs.Steps.Layout.{table_bytes_lem, row_at_is, seen, letter_lies}
use Rattle.terms.specs.Names.{num}
use Rattle.terms.specs.Laws.Num.{num1}

-- ---- a part of a list, element by element

series_part : (n at : ℕ) (t : List ℕ) (f : ℕ → ℕ) → at + n ≤ length t → ((i : ℕ) → i < n → f (suc i) ≡ get_or t (at + i) 0)
    → series n f ≡ take n (drop at t)
unfolding series
series_part zero at t f h e = refl
series_part (suc n) at t f h e =
    let k : at < length t = omega arith in
    let z : at + 0 ≡ at = omega arith in
    rw (drop-cons t at 0 k)
    (ap₂ (λ (x : ℕ) (l : List ℕ). x ∷ l)
    (e 0 (omega arith) ∙ ap (λ (i : ℕ). get_or t i 0) z)
    (series_part n (suc at) t (λ j. f (suc j)) (omega arith)
    (λ i l. let q : at + suc i ≡ suc at + i = omega arith in e (suc i) (omega arith) ∙ ap (λ (i : ℕ). get_or t i 0) q)))

-- ---- the name in a row

module _ {t : List ℕ} {p at : ℕ} (in_row : RowOf t p) (e : at ≡ row_at p) where
  letters : series 64 (λ j. view t (letter p j)) ≡ take 64 (drop (at + 8) t)
  letters =
      let r = in_row.row in
      let lo = r.low in
      let hi = r.high in
      let long = in_row.long in
      series_part 64 (at + 8) t (λ j. view t (letter p j)) (omega (arith, table_bytes_lem, row_at_is p))
      (λ i l.
      let k : suc i - 1 ≡ i = omega arith in
      let q : Range 1 64 (suc i) = record { low = omega arith; high = omega arith } in
      seen t (letter_lies r e q)
      ∙ ap (λ (j : ℕ). num t (at + 8 + j) 1) k
      ∙ num1 t (at + 8 + i))

  -- as many bytes as the size says, or all 64
  name_short : (n : ℕ) → n ≡ view t (size p) → n ≤ 64 → take (at + 8 + n - (at + 8)) (drop (at + 8) t) ≡ name_of (view t) p
  unfolding name_of
  name_short n s h =
      let k : at + 8 + n - (at + 8) ≡ n = omega arith in
      rw (k, letters, ← s) (sym (take-take n 64 (drop (at + 8) t) h))

  name_long : (n : ℕ) → n ≡ view t (size p) → 64 < n → take (at + 8 + 64 - (at + 8)) (drop (at + 8) t) ≡ name_of (view t) p
  unfolding name_of
  name_long n s h =
      let k : at + 8 + 64 - (at + 8) ≡ 64 = omega arith in
      let l : length (take 64 (drop (at + 8) t)) ≤ n = rw length-take (omega arith) in
      rw (k, letters, ← s) (sym (take_all n (take 64 (drop (at + 8) t)) l))

  pub name_is : (n m : ℕ) → n ≡ view t (size p) → m ≡ min n 64 → take (at + 8 + m - (at + 8)) (drop (at + 8) t) ≡ name_of (view t) p
  name_is n m s e =
      cases (leb n 64)
      (λ q. let h = leb-true n 64 q in let k : m ≡ n = omega arith in rw k (name_short n s h))
      (λ q. let h = leb-false n 64 q in let k : m ≡ 64 = omega arith in rw k (name_long n s h))

-- ---- a name written byte by byte

pub spelled_none : (t : List ℕ) (p : ℕ) (name : List ℕ) → t ≡ spelled t p name 0
unfolding spelled
spelled_none t p name = refl

pub spelled_more : {u v : List ℕ} {x : ℕ} (t : List ℕ) (p : ℕ) (name : List ℕ) (j : ℕ) → u ≡ spelled t p name j
    → x ≡ get_or name j 0
    → WroteField u v (letter p (j + 1)) x → v ≡ spelled t p name (j + 1)
unfolding spelled
spelled_more t p name j e f w = w.is ∙ rw (e, f, add-one j)
