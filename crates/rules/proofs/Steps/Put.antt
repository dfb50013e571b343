-- What frames/src/put.rt writes: the turns of its loop, a number's bytes, and a frame's ten. Assumes nothing.
use Rattle.std.specs.Prelude.{ℕ, ◌+◌, ◌/◌, ◌%◌, ◌≤◌, ◌<◌, ◌≡◌, refl, List, [], ◌∷◌, ◌++◌, length, get_or, set, take}
use Rattle.std.specs.Int.{w16, w32, to_be_bytes}
use Rattle.std.proofs.Common.{ap, ap₂, sym, ◌∙◌, arith, add-one, length-set, length-take-le, take-suc, take_all}
use Rattle.rules.specs.Rule.Frame.{be, head, over}
use Rattle.rules.specs.Held.{Put}
use Rattle.rules.proofs.Laws.Over.{over_nothing, over_byte, over_over}

-- ---- the loop: of the bytes y, j are written from a place on

pub record Written (o : List ℕ) (at : ℕ) (y u : List ℕ) (j : ℕ) : Type 0 where
  pub some : j ≤ length y
  pub same : length u ≡ length o
  pub bytes : u ≡ over o at (take j y)

pub written_none : (o : List ℕ) (at : ℕ) (y : List ℕ) → Written o at y o 0
written_none o at y = record { some = omega arith; same = refl; bytes = sym (over_nothing o at) }

pub written_more : {o : List ℕ} {at : ℕ} {y u : List ℕ} {j v : ℕ} → at + length y ≤ length o → j < length y
    → Written o at y u j → v ≡ get_or y j 0 → Written o at y (set u (at + j) v) (j + 1)
written_more {o} {at} {y} {u} {j} {v} h l w e =
    let some = w.some in
    let n : length (take j y) ≡ j = length-take-le j y (omega arith) in
    let k = w.same in
    let s : take j y ++ (v ∷ []) ≡ take (j + 1) y =
    ap (λ (z : ℕ). take j y ++ (z ∷ [])) e ∙ sym (ap (λ (i : ℕ). take i y) (add-one j) ∙ take-suc y j 0 (omega arith)) in
    record {
      some = omega arith;
      same = length-set u (at + j) v ∙ k;
      bytes =
          over_byte u (at + j) v (omega arith)
          ∙ ap₂ (λ (z : List ℕ) (i : ℕ). over z (at + i) (v ∷ [])) w.bytes (sym n)
          ∙ over_over o at (take j y) (v ∷ []) (omega arith) ∙ ap (over o at) s;
    }

pub written_all : {o : List ℕ} {at : ℕ} {y u : List ℕ} {j : ℕ} → Written o at y u j → length y ≤ j → Put o at y u (at + j)
written_all {o} {at} {y} {u} {j} w h =
    let s = w.some in
    let e : j ≡ length y = omega arith in
    record { next = ap (λ (i : ℕ). at + i) e; bytes = w.bytes ∙ ap (over o at) (take_all j y (omega arith)); same = w.same }

-- ---- numbers

pub two_is : (x : ℕ) → to_be_bytes w16 x ≡ be 2 x
unfolding be
two_is x = refl

pub four_is : (x : ℕ) → to_be_bytes w32 x ≡ be 4 x
unfolding be
four_is x =
    let a : x / 16777216 % 256 ≡ x / 256 / 256 / 256 % 256 = omega arith in
    let b : x / 65536 % 256 ≡ x / 256 / 256 % 256 = omega arith in
    ap₂ (λ (y z : ℕ). y ∷ z ∷ x / 256 % 256 ∷ x % 256 ∷ []) a b

pub head_is : (p i t n : ℕ) (a b : List ℕ) → p < 256 → t < 256 → a ≡ to_be_bytes w32 i → b ≡ to_be_bytes w32 n
    → p ∷ get_or a 0 0 ∷ get_or a 1 0 ∷ get_or a 2 0 ∷ get_or a 3 0 ∷ t ∷ get_or b 0 0 ∷ get_or b 1 0 ∷ get_or b 2 0 ∷ get_or b 3 0 ∷ []
    ≡ head p i t n
unfolding head be
head_is p i t n a b hp ht ea eb =
    let e : p ≡ p % 256 = omega arith in
    let f : t ≡ t % 256 = omega arith in
    rw (ea ∙ four_is i, eb ∙ four_is n)
    (ap₂
    (λ (x y : ℕ).
    x ∷ get_or (be 4 i) 0 0 ∷ get_or (be 4 i) 1 0 ∷ get_or (be 4 i) 2 0 ∷ get_or (be 4 i) 3 0
    ∷ y ∷ get_or (be 4 n) 0 0 ∷ get_or (be 4 n) 1 0 ∷ get_or (be 4 n) 2 0 ∷ get_or (be 4 n) 3 0 ∷ [])
    e f)
