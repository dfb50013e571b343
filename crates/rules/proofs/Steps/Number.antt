-- Which number an open has, as src/open.rt finds it: the suffix, the book, the slots and the opens. Assumes nothing.
use Rattle.std.specs.Prelude.{ℕ, zero, suc, ◌≡◌, Bool, ◌≢◌, ◌⊎◌, drop, eqb}
use Rattle.std.proofs.Math.Path.{refl, sym, ap, subst}
use Rattle.std.proofs.Common.{◌∙◌, inl, inr, ⊎_elim, arith, length-drop}
use Rattle.std.proofs.Math.Bool.{true, false, not, cond}
use Rattle.std.proofs.lemmas.Bool.{false≢true}
use mathlib.Core.List.{List, [], ◌∷◌}
use Rattle.std.proofs.Math.ListN.{length}
use borrow.Author.Tests.{eq-eqb, ne_eqb, eqb-true, not-false}
use Rattle.terms.specs.Base.{alike}
use Rattle.terms.specs.Names.{sound_book, suffix_of}
use Rattle.terms.specs.Laws.Lists.{alike_refl, alike_eq}
use Rattle.terms.specs.Laws.Bools.{agree}
use Rattle.terms.specs.Laws.Answer.{suffix_from, suffix_number, suffix_six}
use Rattle.fields.specs.Table.{view, opens, most_opens, live_tabs}
use Rattle.rules.specs.Rule.Desk.{desk, desk_at}
use Rattle.rules.specs.Rule.Seat.{acceptable}
use Rattle.rules.specs.Rule.Refusal.{number_of}
use Rattle.rules.specs.Held.{book_number, open_number}
use Rattle.rules.specs.declared.verdict.Refusal.{Refusal}
use Rattle.rules.specs.declared.verdict.Refusal.TheVariants.{ShortRoom, BadTable, BadFrame, NoSender, BadKey}
use Rattle.rules.specs.declared.verdict.Refusal.TheVariants.{BadBook, BadSuffix, FullSeat, SpentSeat, NotAwaited}

-- ---- a refusal has a number

pub refusal_numbered : (why : Refusal) → number_of why ≢ 0
refusal_numbered ShortRoom e = omega (arith, e)
refusal_numbered BadTable e = omega (arith, e)
refusal_numbered BadFrame e = omega (arith, e)
refusal_numbered NoSender e = omega (arith, e)
refusal_numbered BadKey e = omega (arith, e)
refusal_numbered BadBook e = omega (arith, e)
refusal_numbered BadSuffix e = omega (arith, e)
refusal_numbered FullSeat e = omega (arith, e)
refusal_numbered SpentSeat e = omega (arith, e)
refusal_numbered NotAwaited e = omega (arith, e)

-- ---- the suffix

module _ (b x : List ℕ) where
  accept_no : {why : ℕ} → why ≡ (suffix_of x b).why → why ≢ 0 → false ≡ acceptable b x
  unfolding acceptable
  accept_no e h = rw (ne_eqb (suffix_of x b).why 0 (λ z. h (e ∙ z)))

  -- a part that is as long as the host is all of it
  part_whole : (suffix_of x b).why ≡ 0 → length (suffix_of x b).part ≡ length x → (suffix_of x b).part ≡ x
  part_whole z l = let p = suffix_from x b z in p ∙ whole (suffix_of x b).from x (sym (ap length p) ∙ l)
    where
      whole : (n : ℕ) (y : List ℕ) → length (drop n y) ≡ length y → drop n y ≡ y
      whole zero y h = refl
      whole (suc n) [] h = refl
      whole (suc n) (a ∷ y) h = let k = length-drop n y in absurd (omega arith)

  accept_whole : {why : ℕ} {part : List ℕ} → why ≡ (suffix_of x b).why → part ≡ (suffix_of x b).part → why ≡ 0
      → eqb (length part) (length x) ≡ acceptable b x
  unfolding acceptable
  accept_whole {why} {part} e f z =
      rw (eq-eqb (suffix_of x b).why 0 (sym e ∙ z))
      (agree (eqb (length part) (length x)) (alike (suffix_of x b).part x)
      (λ h.
      subst (λ (y : List ℕ). alike y x ≡ true)
      (sym (part_whole (sym e ∙ z) (sym (ap length f) ∙ eqb-true (length part) (length x) h))) (alike_refl x))
      (λ h. eq-eqb (length part) (length x) (ap length (f ∙ alike_eq (suffix_of x b).part x h))))

  -- ---- the number

  -- a question that is not answered 0 is answered 6 for an unsound book, and else 7
  pub book_refuses : {why : ℕ} → why ≡ (suffix_of x b).why → why ≢ 0 → why ≡ book_number b x
  unfolding book_number
  book_refuses {why} e h = by (suffix_number x b) (sound_book b) refl
    where
      six : (s : Bool) → sound_book b ≡ s → (suffix_of x b).why ≡ 6 → why ≡ cond (not s) 6 (cond (not (acceptable b x)) 7 0)
      six true q z = absurd (false≢true (sym (suffix_six x b ∙ ap not q) ∙ eq-eqb (suffix_of x b).why 6 z))
      six false q z = e ∙ z

      seven : (s : Bool) → sound_book b ≡ s → (suffix_of x b).why ≡ 7 → why ≡ cond (not s) 6 (cond (not (acceptable b x)) 7 0)
      seven true q z = e ∙ z ∙ rw (sym (accept_no e h))
      seven false q z =
          absurd (false≢true (sym (ne_eqb (suffix_of x b).why 6 (λ y. omega (arith, y, z))) ∙ suffix_six x b ∙ ap not q))

      by : ((suffix_of x b).why ≡ 0) ⊎ (((suffix_of x b).why ≡ 6) ⊎ ((suffix_of x b).why ≡ 7)) → (s : Bool) → sound_book b ≡ s
          → why ≡ cond (not s) 6 (cond (not (acceptable b x)) 7 0)
      by (inl z) s q = absurd (h (e ∙ z))
      by (inr (inl z)) s q = six s q z
      by (inr (inr z)) s q = seven s q z

  pub book_six : {why : ℕ} → why ≡ (suffix_of x b).why → why ≡ 6 → 6 ≡ book_number b x
  book_six e z = sym z ∙ book_refuses e (λ y. omega (arith, y, z))

  pub book_seven : {why : ℕ} → why ≡ (suffix_of x b).why → why ≢ 6 → why ≢ 0 → 7 ≡ book_number b x
  book_seven {why} e h k =
      ⊎_elim (λ z. absurd (k (e ∙ z)))
      (λ f. ⊎_elim (λ z. absurd (h (e ∙ z))) (λ z. sym (e ∙ z) ∙ book_refuses e k) f) (suffix_number x b)

  -- a question that is answered 0 was asked of a sound book
  answered_sound : (suffix_of x b).why ≡ 0 → sound_book b ≡ true
  answered_sound z =
      not-false (sound_book b) (sym (suffix_six x b) ∙ ne_eqb (suffix_of x b).why 6 (λ y. omega (arith, y, z)))

  pub book_part : {why : ℕ} {part : List ℕ} → why ≡ (suffix_of x b).why → part ≡ (suffix_of x b).part → why ≡ 0
      → length part ≢ length x → 7 ≡ book_number b x
  unfolding book_number
  book_part {why} {part} e f z h =
      rw (answered_sound (sym e ∙ z), sym (accept_whole e f z) ∙ ne_eqb (length part) (length x) h)

  pub book_takes : {why : ℕ} {part : List ℕ} → why ≡ (suffix_of x b).why → part ≡ (suffix_of x b).part → why ≡ 0
      → length part ≡ length x → 0 ≡ book_number b x
  unfolding book_number
  book_takes {why} {part} e f z h =
      rw (answered_sound (sym e ∙ z), sym (accept_whole e f z) ∙ eq-eqb (length part) (length x) h)

  module _ (t : List ℕ) (s : ℕ) where
    pub number_book : (why : Refusal) → number_of why ≡ book_number b x → number_of why ≡ open_number (desk_at t s) b x
    unfolding open_number
    number_book why e = e ∙ rw (ne_eqb (book_number b x) 0 (λ z. refusal_numbered why (e ∙ z)))

    pub number_full : {l : ℕ} → 0 ≡ book_number b x → l ≡ live_tabs (view t) s → l ≡ 10
        → 8 ≡ open_number (desk_at t s) b x
    unfolding open_number desk
    number_full e f h = rw (eq-eqb (book_number b x) 0 (sym e), eq-eqb (live_tabs (view t) s) 10 (sym f ∙ h))

    pub number_spent : {l : ℕ} {r : Bool} → 0 ≡ book_number b x → l ≡ live_tabs (view t) s → l ≢ 10
        → r ≡ eqb (view t (opens s)) most_opens → r ≡ true → 9 ≡ open_number (desk_at t s) b x
    unfolding open_number desk
    number_spent e f h g y =
        rw (eq-eqb (book_number b x) 0 (sym e), ne_eqb (live_tabs (view t) s) 10 (λ w. h (f ∙ w)), sym g ∙ y)

    pub number_none : {l : ℕ} {r : Bool} → 0 ≡ book_number b x → l ≡ live_tabs (view t) s → l ≢ 10
        → r ≡ eqb (view t (opens s)) most_opens → r ≡ false → 0 ≡ open_number (desk_at t s) b x
    unfolding open_number desk
    number_none e f h g y =
        rw (eq-eqb (book_number b x) 0 (sym e), ne_eqb (live_tabs (view t) s) 10 (λ w. h (f ∙ w)), sym g ∙ y)
