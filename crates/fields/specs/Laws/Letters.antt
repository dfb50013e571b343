-- A process row's name and the 64 bytes of its room: where the fill is zero, the room tells what the name does, whether it is
-- folded, whether it has a dot, and whether it is another row's. Assumes nothing.
use Rattle.std.specs.Prelude.{◌≡◌, refl, Bool, true, false, not, ◌≢◌, List, ◌∷◌, ◌++◌, ℕ, suc, ◌-◌, ◌≤◌, ◌<◌, leb, eqb, length, get_or, take, drop}
use Rattle.std.proofs.Common.{sym, ap, ap₂, subst, ◌∙◌, arith, length-append, take-append-drop, ext_get_or, drop-cons, eq-eqb, ne_eqb, eqb-true, leb-true, leb-false}
use Rattle.std.proofs.lemmas.Bool.{false≢true, eqb-false, not-true}
use Rattle.std.proofs.Math.ListN.{length-take}
use Rattle.std.proofs.Math.Seq.{get_or-append_seam, get_or-take}
use Rattle.terms.specs.Names.{lower, folded, is_folded, has_dot}
use Rattle.terms.specs.Laws.Bools.{agree, cases}
use Rattle.terms.specs.Base.{Range}
use Rattle.terms.specs.Laws.Fold.{lower_other, folded_is, is_folded_folded, length_folded, get_d_folded}
use Rattle.terms.specs.Laws.Labels.{Cut, plain, after, cut, labels_some, labels_join, labels_plain}
use Rattle.fields.specs.Base.{each, series}
use Rattle.fields.specs.Rule.View.{View, size, letter}
use Rattle.fields.specs.Rule.Clause.{filled}
use Rattle.fields.specs.Rule.Word.{name_of}
use Rattle.fields.specs.Laws.Each.{range, each_at, each_of}
use Rattle.fields.specs.Laws.Clause.{fill_at_lem}
use Rattle.fields.specs.Laws.Series.{length_series, series_at}

-- ---- a dot in a list

dotless : {s : List ℕ} → Cut s → ((i : ℕ) → i < length s → get_or s i 0 ≢ 46) → has_dot s ≡ false
dotless (plain e) h = e
dotless (after p l e) h =
    let a = length-append p (46 ∷ l) in absurd (h (length p) (omega (arith, a)) (get_or-append_seam p 46 l 0))

-- more than one label has a dot between them
joined : (p t : List ℕ) → has_dot (p ++ 46 ∷ t) ≡ true
joined p t =
    cases (has_dot (p ++ 46 ∷ t)) (λ e. e) (λ e.
    let a = labels_some p in
    let b = labels_some t in
    let n = ap length (sym (labels_plain (p ++ 46 ∷ t) e) ∙ labels_join p t ∙ ap₂ ◌++◌ a.is b.is) in
    let m = length-append (a.head ∷ a.rest) (b.head ∷ b.rest) in
    absurd (omega (arith, n, m)))

dotted : (s : List ℕ) (i : ℕ) → i < length s → get_or s i 0 ≡ 46 → has_dot s ≡ true
dotted s i h e =
    let a : s ≡ take i s ++ 46 ∷ drop (suc i) s
    = sym (take-append-drop i s) ∙ ap (λ (l : List ℕ). take i s ++ l) (drop-cons s i 0 h ∙ ap (λ (x : ℕ). x ∷ drop (suc i) s) e) in
    ap has_dot a ∙ joined (take i s) (drop (suc i) s)

-- ---- a name in its room

module _ (v : View) (p : ℕ) (short : v (size p) ≤ 64) where
  pub name_length : length (name_of v p) ≡ v (size p)
  unfolding name_of
  name_length =
      let a = length-take (v (size p)) (series 64 (λ j. v (letter p j))) in
      let b = length_series 64 (λ j. v (letter p j)) in
      omega (arith, a, b)

  -- the letter at a place of the name
  pub name_letter : (i : ℕ) → i < v (size p) → get_or (name_of v p) i 0 ≡ v (letter p (suc i))
  unfolding name_of
  name_letter i h =
      get_or-take (v (size p)) (series 64 (λ j. v (letter p j))) i 0 h ∙ series_at 64 (λ j. v (letter p j)) i (omega arith)

  letter_name : (j : ℕ) → Range 1 64 j → j ≤ v (size p) → v (letter p j) ≡ get_or (name_of v p) (j - 1) 0
  letter_name j r h =
      let a = r.low in
      let k : suc (j - 1) ≡ j = omega arith in
      ap (λ (i : ℕ). v (letter p i)) (sym k) ∙ sym (name_letter (j - 1) (omega arith))

  -- what holds of the letters of the name and of 0 holds of all letters
  module _ (full : filled v p ≡ true) where
    all_letters : (P : ℕ → Type 0) → P 0 → ((i : ℕ) → i < length (name_of v p) → P (get_or (name_of v p) i 0))
        → (j : ℕ) → Range 1 64 j → P (v (letter p j))
    all_letters P z h j r =
        cases (leb j (v (size p)))
        (λ e.
        let a = leb-true j (v (size p)) e in
        let b = r.low in
        subst P (sym (letter_name j r a)) (h (j - 1) (omega (arith, name_length))))
        (λ e. subst P (sym (fill_at_lem v p full j r (leb-false j (v (size p)) e))) z)

    one_letter : (P : ℕ → Type 0) → ((j : ℕ) → Range 1 64 j → P (v (letter p j)))
        → (i : ℕ) → i < length (name_of v p) → P (get_or (name_of v p) i 0)
    one_letter P h i l =
        subst P (sym (name_letter i (omega (arith, name_length)))) (h (suc i) (range (omega arith) (omega (arith, name_length))))

    pub room_folded : is_folded (name_of v p) ≡ each 64 (λ j. eqb (lower (v (letter p j))) (v (letter p j)))
    room_folded =
        let s = name_of v p in
        let f : ℕ → Bool = λ j. eqb (lower (v (letter p j))) (v (letter p j)) in
        agree (is_folded s) (each 64 f)
        (λ e.
        each_of 64 f (λ j r.
        eq-eqb (lower (v (letter p j))) (v (letter p j))
        (all_letters (λ x. lower x ≡ x) (lower_other 0 refl)
        (λ i l. sym (get_d_folded s i) ∙ ap (λ (t : List ℕ). get_or t i 0) (folded_is s e)) j r)))
        (λ e.
        subst (λ (t : List ℕ). is_folded t ≡ true)
        (ext_get_or 0 (folded s) s (length_folded s) (λ i l.
        get_d_folded s i
        ∙ one_letter (λ x. lower x ≡ x) (λ j r. eqb-true (lower (v (letter p j))) (v (letter p j)) (each_at 64 f j e r))
        i (omega (arith, length_folded s))))
        (is_folded_folded s))

    pub room_dotted : has_dot (name_of v p) ≡ not (each 64 (λ j. not (eqb (v (letter p j)) 46)))
    room_dotted =
        let s = name_of v p in
        let f : ℕ → Bool = λ j. not (eqb (v (letter p j)) 46) in
        cases (each 64 f)
        (λ e. rw e
        (dotless (cut s)
        (one_letter (λ x. x ≢ 46)
        (λ j r. eqb-false (v (letter p j)) 46 (not-true (eqb (v (letter p j)) 46) (each_at 64 f j e r))))))
        (λ e. rw e
        (cases (has_dot s) (λ d. d) (λ d.
        absurd
        (false≢true
        (sym e
        ∙ each_of 64 f (λ j r.
        ap not
        (ne_eqb (v (letter p j)) 46
        (all_letters (λ x. x ≢ 46) (λ z. omega arith) (λ i l z. false≢true (sym d ∙ dotted s i l z)) j r))))))))

-- ---- two names in their rooms

module _ (v : View) (q p : ℕ) (sizes : v (size q) ≡ v (size p)) (short : v (size p) ≤ 64) where
  -- equal rooms hold equal names
  pub room_name : each 64 (λ j. eqb (v (letter q j)) (v (letter p j))) ≡ true → name_of v q ≡ name_of v p
  room_name e =
      let k : v (size q) ≤ 64 = omega arith in
      ext_get_or 0 (name_of v q) (name_of v p) (name_length v q k ∙ sizes ∙ sym (name_length v p short)) (λ i l.
      let h : i < v (size q) = omega (arith, name_length v q k) in
      name_letter v q k i h
      ∙ eqb-true (v (letter q (suc i))) (v (letter p (suc i)))
      (each_at 64 (λ j. eqb (v (letter q j)) (v (letter p j))) (suc i) e (range (omega arith) (omega arith)))
      ∙ sym (name_letter v p short i (omega arith)))

  -- equal names, with zeros after them, fill equal rooms
  pub name_room : filled v q ≡ true → filled v p ≡ true → name_of v q ≡ name_of v p
      → each 64 (λ j. eqb (v (letter q j)) (v (letter p j))) ≡ true
  name_room fq fp e =
      let k : v (size q) ≤ 64 = omega arith in
      each_of 64 (λ j. eqb (v (letter q j)) (v (letter p j))) (λ j r.
      eq-eqb (v (letter q j)) (v (letter p j))
      (cases (leb j (v (size p)))
      (λ h.
      let l = leb-true j (v (size p)) h in
      letter_name v q k j r (omega arith) ∙ ap (λ (s : List ℕ). get_or s (j - 1) 0) e ∙ sym (letter_name v p short j r l))
      (λ h.
      let l = leb-false j (v (size p)) h in
      fill_at_lem v q fq j r (omega arith) ∙ sym (fill_at_lem v p fp j r l))))
