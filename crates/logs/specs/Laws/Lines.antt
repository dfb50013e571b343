-- Words and lines written piece by piece, each piece where the one before it ends. Assumes nothing.
use Rattle.std.specs.Prelude.{ℕ, ◌+◌, ◌*◌, ◌≤◌, ◌<◌, ◌≡◌, ◌≢◌, List, [], ◌∷◌, ◌++◌, length, get_or, take, drop}
use Rattle.std.proofs.Math.Path.{refl}
use Rattle.std.proofs.Common.{ap, sym, ◌∙◌, add-one, append-nil, append_assoc, arith, take-suc, take_all, length-drop, length-take-le, eq-eqb, ne_eqb}
use Rattle.terms.specs.Names.{num}
use Rattle.logs.specs.Rule.Line.{decimal, hex, number, payload, event_line, action_line, start_line, action_lines}
use Rattle.logs.specs.Rule.Written.{numbers, lines_of}
use Rattle.rules.specs.Sheet.{frame_at, frames_of, number_in, actions_in, bytes_in}
use Rattle.rules.specs.Inner.{Wrote}
use Rattle.rules.proofs.Laws.Back.{frame_at_lem}
use Rattle.rules.proofs.Laws.Wrote.{wrote_none, wrote_is, wrote_then, wrote_three}
use Rattle.logs.specs.Laws.Bound.{length_numbers}

-- ---- words

module _ {o : List ℕ} {at : ℕ} {o₁ : List ℕ} {k : ℕ} {o₂ : List ℕ} {r : ℕ} where
  pub wrote_number : (n : ℕ) → at ≤ length o → Wrote o at (32 ∷ []) o₁ k → Wrote o₁ k (decimal n) o₂ r
      → Wrote o at (number n) o₂ r
  unfolding number
  wrote_number n h a b = wrote_then h a b

  pub wrote_dash : (x : List ℕ) → at ≤ length o → length x ≡ 0 → Wrote o at (32 ∷ []) o₁ k → Wrote o₁ k (45 ∷ []) o₂ r
      → Wrote o at (payload x) o₂ r
  unfolding payload
  wrote_dash x h e a b = rw (eq-eqb (length x) 0 e) (wrote_then h a b)

  pub wrote_payload : (x : List ℕ) → at ≤ length o → length x ≢ 0 → Wrote o at (32 ∷ []) o₁ k → Wrote o₁ k (hex x) o₂ r
      → Wrote o at (payload x) o₂ r
  unfolding payload
  wrote_payload x h e a b = rw (ne_eqb (length x) 0 e) (wrote_then h a b)

-- ---- lines

module _ {o : List ℕ} {at : ℕ} {o₁ : List ℕ} {k₁ : ℕ} {o₂ : List ℕ} {k₂ : ℕ} {o₃ : List ℕ} {r : ℕ} where
  pub wrote_start : (n : ℕ) → at ≤ length o → Wrote o at (83 ∷ []) o₁ k₁ → Wrote o₁ k₁ (number n) o₂ k₂
      → Wrote o₂ k₂ (10 ∷ []) o₃ r → Wrote o at (start_line n) o₃ r
  unfolding start_line
  wrote_start n h a b c = wrote_three h a b c

  pub wrote_event : (n answer actions : ℕ) → at ≤ length o → Wrote o at (69 ∷ []) o₁ k₁
      → Wrote o₁ k₁ (numbers (n ∷ answer ∷ actions ∷ [])) o₂ k₂ → Wrote o₂ k₂ (10 ∷ []) o₃ r
      → Wrote o at (event_line n answer actions) o₃ r
  unfolding event_line numbers
  wrote_event n answer actions h a b c = wrote_is (simp (append_assoc, append-nil)) refl (wrote_three h a b c)

-- the line of the frame at the front of s: its words are p, i, t, n and x
pub wrote_action : {o : List ℕ} {at : ℕ} {o₁ : List ℕ} {k₁ : ℕ} {o₂ : List ℕ} {k₂ : ℕ} {o₃ : List ℕ} {k₃ : ℕ} {o₄ : List ℕ}
    {r : ℕ} {p i t n : ℕ} {x : List ℕ} (s : List ℕ)
    → 10 + num s 6 4 ≤ length s → at ≤ length o → p ≡ get_or s 0 0 → i ≡ num s 1 4 → t ≡ get_or s 5 0 → n ≡ num s 6 4
    → x ≡ take (num s 6 4) (drop 10 s) → Wrote o at (65 ∷ []) o₁ k₁
    → Wrote o₁ k₁ (numbers (p ∷ i ∷ t ∷ n ∷ [])) o₂ k₂ → Wrote o₂ k₂ (payload x) o₃ k₃
    → Wrote o₃ k₃ (10 ∷ []) o₄ r → Wrote o at (action_line (frame_at s)) o₄ r
unfolding action_line numbers
wrote_action {p} {i} {t} {n} {x} s l h ep ei et en ex a b c d =
    let m : num s 6 4 ≤ length (drop 10 s) = simp length-drop (omega arith) in
    let size : length (take (num s 6 4) (drop 10 s)) ≡ num s 6 4 = length-take-le (num s 6 4) (drop 10 s) m in
    let words : 65 ∷ number p ++ (number i ++ (number t ++ (number n ++ (payload x ++ (10 ∷ []))))) ≡ action_line (frame_at s) =
    rw (frame_at_lem s, ep, ei, et, en, ex, size) in
    wrote_is words refl (wrote_is (simp (append_assoc, append-nil)) refl (wrote_then h (wrote_three h a b c) d))

-- ---- a loop that has written i numbers of l

pub record Numbered (o : List ℕ) (at : ℕ) (l u : List ℕ) (to i : ℕ) : Type 0 where
  pub some : i ≤ length l
  pub same : length u ≡ length o
  pub wrote : Wrote o at (numbers (take i l)) u to

numbers_append : (x y : List ℕ) → numbers (x ++ y) ≡ numbers x ++ numbers y
unfolding numbers
numbers_append [] y = refl
numbers_append (x ∷ l) y = ap (λ m. number x ++ m) (numbers_append l y) ∙ sym (append_assoc (number x) (numbers l) (numbers y))

numbers_one : (x : ℕ) → numbers (x ∷ []) ≡ number x
unfolding numbers
numbers_one x = append-nil (number x)

pub numbered_none : (o : List ℕ) (at : ℕ) (l : List ℕ) → Numbered o at l o at 0
unfolding numbers
numbered_none o at l = record { some = omega arith; same = refl; wrote = wrote_none o at }

module _ {o : List ℕ} {at : ℕ} {l u : List ℕ} {to i : ℕ} (w : Numbered o at l u to i) where
  -- the next one has room
  pub numbered_at : at + 21 * length l ≤ length o → i < length l → to + 21 ≤ length u
  numbered_at h m =
      let a = w.same in
      let b = w.some in
      omega (arith, w.wrote.next, length_numbers (take i l), length-take-le i l b)

  pub numbered_more : {u' : List ℕ} {to' : ℕ} → at ≤ length o → i < length l → Wrote u to (number (get_or l i 0)) u' to'
      → length u' ≡ length u → Numbered o at l u' to' (i + 1)
  numbered_more h m one same =
      let x = get_or l i 0 in
      let more : numbers (take (i + 1) l) ≡ numbers (take i l) ++ number x =
      ap numbers (ap (λ n. take n l) (add-one i) ∙ take-suc l i 0 m) ∙ numbers_append (take i l) (x ∷ [])
      ∙ ap (λ z. numbers (take i l) ++ z) (numbers_one x) in
      record { some = omega arith; same = same ∙ w.same; wrote = wrote_is (sym more) refl (wrote_then h w.wrote one) }

  pub numbered_all : length l ≤ i → Wrote o at (numbers l) u to
  numbered_all h = wrote_is (ap numbers (take_all i l h)) refl w.wrote

pub wrote_lines : {o : List ℕ} {at : ℕ} {o₁ : List ℕ} {k : ℕ} {o₂ : List ℕ} {r x a w : ℕ} (n answer : ℕ) (room : List ℕ)
    → x ≡ number_in answer → a ≡ actions_in answer → w ≡ bytes_in answer → at ≤ length o → Wrote o at (event_line n x a) o₁ k
    → Wrote o₁ k (action_lines (frames_of a (take w room))) o₂ r → Wrote o at (lines_of n answer room) o₂ r
unfolding lines_of
wrote_lines n answer room p q s h a b = rw (← p, ← q, ← s) (wrote_then h a b)
