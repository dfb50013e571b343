-- Laws of text written over a room from a place on: nothing, one byte, one text after another. Assumes nothing.
use Rattle.std.specs.Prelude.{ℕ, ◌+◌, ◌≤◌, ◌<◌, ◌≡◌, refl, List, [], ◌∷◌, ◌++◌, length, set}
use Rattle.std.proofs.Common.{ap, ap₂, sym, ◌∙◌, append_assoc, arith, add_assoc, length-append}
use Rattle.rules.specs.Rule.Frame.{over}
use Rattle.rules.proofs.Laws.Over.{over_nothing, over_byte, over_over}
use Rattle.rules.specs.Held.{Wrote}

pub wrote_none : (o : List ℕ) (at : ℕ) → Wrote o at [] o at
wrote_none o at = record { next = omega arith; bytes = sym (over_nothing o at) }

pub wrote_byte : (o : List ℕ) (at v : ℕ) → at < length o → Wrote o at (v ∷ []) (set o at v) (at + 1)
wrote_byte o at v h = record { next = omega arith; bytes = over_byte o at v h }

-- the same text, and the same place after it, said otherwise
pub wrote_is : {o : List ℕ} {at : ℕ} {x y o' : List ℕ} {r k : ℕ} → x ≡ y → r ≡ k → Wrote o at x o' r → Wrote o at y o' k
wrote_is {o} {at} {x} {y} {o'} {r} {k} e p w =
    record { next = sym p ∙ w.next ∙ ap (λ z. at + length z) e; bytes = w.bytes ∙ ap (over o at) e }

pub wrote_then : {o : List ℕ} {at : ℕ} {x o₁ : List ℕ} {k : ℕ} {y o₂ : List ℕ} {r : ℕ}
    → at ≤ length o → Wrote o at x o₁ k → Wrote o₁ k y o₂ r → Wrote o at (x ++ y) o₂ r
wrote_then {o} {at} {x} {o₁} {k} {y} {o₂} {r} h a b =
    record {
      next =
          b.next ∙ ap (λ n. n + length y) a.next ∙ add_assoc at (length x) (length y)
          ∙ ap (λ n. at + n) (sym (length-append x y));
      bytes = b.bytes ∙ ap₂ (λ u n. over u n y) a.bytes a.next ∙ over_over o at x y h;
    }

pub wrote_three : {o : List ℕ} {at : ℕ} {x o₁ : List ℕ} {k₁ : ℕ} {y o₂ : List ℕ} {k₂ : ℕ} {z o₃ : List ℕ} {r : ℕ}
    → at ≤ length o → Wrote o at x o₁ k₁ → Wrote o₁ k₁ y o₂ k₂ → Wrote o₂ k₂ z o₃ r → Wrote o at (x ++ (y ++ z)) o₃ r
wrote_three {x = x} {y = y} {z = z} h a b c = wrote_is (append_assoc x y z) refl (wrote_then h (wrote_then h a b) c)
