-- One turn of a loop that moves n bytes of d₀ from place p to the front, a byte at a time. Assumes nothing.
use Rattle.std.specs.Prelude.{◌≡◌, List, [], ◌∷◌, ◌++◌, ℕ, ◌+◌, ◌≤◌, ◌<◌, length, take, drop, get_or, set}
use Rattle.std.proofs.Common.{sym, ◌∙◌, ap, arith, add_comm, add-one, length-drop, take-suc, take-suc-set, get_or-drop, drop-drop, drop-set-lt}

module _ (d₀ d : List ℕ) (p n i : ℕ) (same : length d ≡ length d₀) (room : p + n ≤ length d₀) (more : i < n)
    (front : take i d ≡ take i (drop p d₀)) (back : drop i d ≡ drop i d₀) where
  -- what is moved has not been written over
  byte : get_or d (p + i) 0 ≡ get_or (drop p d₀) i 0
  byte =
      ap (λ (k : ℕ). get_or d k 0) (add_comm p i) ∙ sym (get_or-drop i d p 0) ∙ ap (λ (l : List ℕ). get_or l p 0) back
      ∙ get_or-drop i d₀ p 0 ∙ ap (λ (k : ℕ). get_or d₀ k 0) (add_comm i p) ∙ sym (get_or-drop p d₀ i 0)

  pub front_more : take (i + 1) (set d i (get_or d (p + i) 0)) ≡ take (i + 1) (drop p d₀)
  front_more =
      let x = get_or d (p + i) 0 in
      let a : i < length d = omega arith in
      let b : i < length (drop p d₀) = omega (arith, length-drop p d₀) in
      rw add-one
      (take-suc-set d i x a ∙ ap (λ (l : List ℕ). l ++ (x ∷ [])) front ∙ ap (λ (k : ℕ). take i (drop p d₀) ++ (k ∷ [])) byte
      ∙ sym (take-suc (drop p d₀) i 0 b))

  pub back_more : drop (i + 1) (set d i (get_or d (p + i) 0)) ≡ drop (i + 1) d₀
  back_more =
      drop-set-lt (i + 1) d i (get_or d (p + i) 0) (omega arith) ∙ sym (drop-drop 1 i d) ∙ ap (drop 1) back ∙ drop-drop 1 i d₀
