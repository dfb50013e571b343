-- What std says of lower case is what the definitions say; what is left of one name, and of two, byte by byte. Assumes nothing.
use Rattle.std.specs.Prelude.{◌≡◌, ◌↔◌, IsTrue, refl, Bool, true, false, ◌&&◌, List, [], ◌∷◌, ℕ, map, eqb, ◌+◌, ◌≤◌, ◌<◌, length, get_or, drop}
use Rattle.std.specs.Char.{to_ascii_lowercase}
use Rattle.std.specs.List.{list_all}
use Rattle.std.proofs.Common.{sym, ap, ap₂, ◌∙◌, arith, add-one, drop_of_length-le, drop-cons, eq-eqb, ne_eqb}
use Rattle.std.proofs.lemmas.Bool.{false≢true}
use Rattle.std.proofs.lemmas.Bool.Decides.{nat_tests}
use Rattle.terms.specs.Base.{every, alike}
use Rattle.terms.specs.Rule.Name.{lower, folded, is_folded}
use Rattle.terms.specs.Rule.Under.{same}
use Rattle.terms.specs.Laws.Bools.{fails}
use Rattle.terms.specs.Laws.Under.{same_eq, same_of, same_length}
use Rattle.terms.specs.Laws.Lists.{every_step, every_end}

pub lowered : (x : ℕ) → lower x ≡ to_ascii_lowercase x
unfolding lower
lowered x = grind (arith, nat_tests)

pub folded_all : (s : List ℕ) → is_folded s ≡ list_all (λ x. eqb (lower x) x) s
unfolding is_folded every
folded_all [] = refl
folded_all (x ∷ s) = ap (λ (b : Bool). eqb (lower x) x && b) (folded_all s)

pub folded_map : (s : List ℕ) → folded s ≡ map to_ascii_lowercase s
unfolding folded
folded_map [] = refl
folded_map (x ∷ s) = ap₂ (λ (y : ℕ) (l : List ℕ). y ∷ l) (lowered x) (folded_map s)

pub same_lower : (s t : List ℕ) (r : Bool) → (IsTrue r ↔ (map to_ascii_lowercase s ≡ map to_ascii_lowercase t)) → r ≡ same s t
same_lower s t true h = sym (same_of s t (folded_map s ∙ h.0 refl ∙ sym (folded_map t)))
same_lower s t false h = sym (fails (same s t) (λ e. false≢true (h.1 (sym (folded_map s) ∙ same_eq s t e ∙ folded_map t))))

-- ---- from a byte on

pub folded_step : (s : List ℕ) (i : ℕ) → i < length s
    → is_folded (drop i s) ≡ eqb (lower (get_or s i 0)) (get_or s i 0) && is_folded (drop (i + 1) s)
unfolding is_folded
folded_step s i h = every_step (λ x. eqb (lower x) x) s i h

pub folded_end : (s : List ℕ) (i : ℕ) → length s ≤ i → is_folded (drop i s) ≡ true
unfolding is_folded
folded_end s i h = every_end (λ x. eqb (lower x) x) s i h

pub same_step : (s t : List ℕ) (i : ℕ) → i < length s → i < length t
    → same (drop i s) (drop i t) ≡ eqb (lower (get_or s i 0)) (lower (get_or t i 0)) && same (drop (i + 1) s) (drop (i + 1) t)
unfolding same alike folded
same_step s t i h k = rw (add-one, drop-cons s i 0 h, drop-cons t i 0 k)

-- two bytes, once they are folded, are alike or not
module _ (s t : List ℕ) (i : ℕ) {x y : ℕ} (h : i < length s) (k : i < length t) (e : x ≡ lower (get_or s i 0))
    (f : y ≡ lower (get_or t i 0)) where
  pub same_goes : x ≡ y → same (drop i s) (drop i t) ≡ same (drop (i + 1) s) (drop (i + 1) t)
  same_goes q = same_step s t i h k ∙ rw (eq-eqb (lower (get_or s i 0)) (lower (get_or t i 0)) (sym e ∙ q ∙ f))

  pub same_parts : (x ≡ y → ⊥) → same (drop i s) (drop i t) ≡ false
  same_parts n = same_step s t i h k ∙ rw (ne_eqb (lower (get_or s i 0)) (lower (get_or t i 0)) (λ q. n (e ∙ q ∙ sym f)))

pub same_end : (s t : List ℕ) (i : ℕ) → length s ≤ i → length t ≤ i → same (drop i s) (drop i t) ≡ true
unfolding same alike folded
same_end s t i h k = rw (drop_of_length-le s h, drop_of_length-le t k)

pub same_unlike : (s t : List ℕ) → (length s ≡ length t → ⊥) → same s t ≡ false
same_unlike s t h = fails (same s t) (λ e. h (same_length s t e))
