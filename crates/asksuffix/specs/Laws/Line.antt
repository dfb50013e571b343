-- How long a line is, what it is where the book is unsound, and its words written one after another. Assumes nothing.
use Rattle.std.specs.Prelude.{ℕ, ◌≤◌, ◌<◌, ◌≡◌, refl, Bool, true, false, List, [], ◌∷◌, ◌++◌, length, eqb}
use Rattle.std.proofs.Common.{sym, ap, ap₂, subst, ◌∙◌, ⊎_elim, arith, length-append, eqb-true}
use Rattle.std.proofs.lemmas.Bool.{false≢true, eqb-false}
use Rattle.terms.specs.Names.{sound_book, Answer, suffix_of}
use Rattle.terms.specs.Laws.Suffix.{suffix_facts}
use Rattle.terms.specs.Laws.Answer.{suffix_number, suffix_empty, Way, unsound, refused7, given, suffix_way}
use Rattle.logs.specs.Log.{decimal, payload}
use Rattle.rules.specs.Inner.{Wrote}
use Rattle.logs.specs.Laws.Digits.{decimal_one}
use Rattle.logs.specs.Laws.Bound.{payload_none, payload_some}
use Rattle.rules.proofs.Laws.Wrote.{wrote_is, wrote_three}
use Rattle.asksuffix.specs.Rule.Answers.{most_text, answer_line}

-- ---- the question's answer

why_small : (h b : List ℕ) → (suffix_of h b).why < 10
why_small h b =
    ⊎_elim (λ e. omega (arith, e)) (λ s. ⊎_elim (λ e. omega (arith, e)) (λ e. omega (arith, e)) s) (suffix_number h b)

-- the number has one digit
pub number_word : (b h : List ℕ) {w : ℕ} → w ≡ (suffix_of h b).why → length (decimal w) ≡ 1
number_word b h e = ap (λ (n : ℕ). length (decimal n)) e ∙ ap length (decimal_one (suffix_of h b).why (why_small h b))

-- a part is none, or it has 3 to 64 bytes
pub record Sized (x : List ℕ) : Type 0 where
  pub short : length x ≤ 64
  pub word : length (payload x) ≤ 129

sized : (b h : List ℕ) → Sized (suffix_of h b).part
sized b h = go (eqb (suffix_of h b).why 0) refl
  where
    go : (z : Bool) → eqb (suffix_of h b).why 0 ≡ z → Sized (suffix_of h b).part
    go true e =
        let s = (suffix_facts h b (eqb-true (suffix_of h b).why 0 e)).size in
        let low = s.low in
        let high = s.high in
        let p = payload_some (suffix_of h b).part (λ n. omega arith) in
        record { short = high; word = omega arith }
    go false e =
        let n = suffix_empty h b (eqb-false (suffix_of h b).why 0 e) in
        record { short = omega (arith, ap length n); word = omega (arith, ap length (ap payload n ∙ payload_none)) }

pub part_sized : (b h : List ℕ) {x : List ℕ} → x ≡ (suffix_of h b).part → Sized x
part_sized b h e = subst Sized (sym e) (sized b h)

-- ---- the line

pub length_line : (b h : List ℕ) → length (answer_line b h) ≤ most_text
unfolding answer_line
length_line b h =
    let w = number_word b h refl in
    let p = (sized b h).word in
    simp length-append (omega arith)

-- `6 -`
pub line_unsound : (b h : List ℕ) → sound_book b ≡ false → answer_line b h ≡ 54 ∷ 32 ∷ 45 ∷ 10 ∷ []
unfolding answer_line
line_unsound b h s = go (suffix_way h b)
  where
    go : {a : Answer} → Way h b a → decimal a.why ++ (payload a.part ++ (10 ∷ [])) ≡ 54 ∷ 32 ∷ 45 ∷ 10 ∷ []
    go (unsound e) = rw (decimal_one 6 (omega arith), payload_none)
    go (refused7 e) = absurd (false≢true (sym s ∙ e))
    go (given e n i) = absurd (false≢true (sym s ∙ e))

-- its words, written one after another; w and x are what the question gave
pub wrote_answer : {o : List ℕ} {o₁ : List ℕ} {k₁ : ℕ} {o₂ : List ℕ} {k₂ : ℕ} {o₃ : List ℕ} {r w : ℕ} {x : List ℕ}
    (b h : List ℕ) → w ≡ (suffix_of h b).why → x ≡ (suffix_of h b).part → Wrote o 0 (decimal w) o₁ k₁
    → Wrote o₁ k₁ (payload x) o₂ k₂ → Wrote o₂ k₂ (10 ∷ []) o₃ r → Wrote o 0 (answer_line b h) o₃ r
unfolding answer_line
wrote_answer b h ew ex p q l =
    wrote_is (ap₂ (λ (n : ℕ) (y : List ℕ). decimal n ++ (payload y ++ (10 ∷ []))) ew ex) refl
    (wrote_three (omega arith) p q l)
