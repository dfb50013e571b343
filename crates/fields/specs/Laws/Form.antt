-- The document's layout: every field lies inside the table, and no byte belongs to two, so that what is proved over any layout
-- holds of it. Assumes nothing.
use Rattle.std.specs.Prelude.{◌≡◌, refl, true, ◌&&◌, cond, [], ◌∷◌, ℕ, ◌+◌, ◌-◌, ◌*◌, ◌/◌, ◌%◌, ◌≤◌, ◌<◌, ltb, get_or}
use Rattle.std.proofs.Common.{ap, sym, ◌∙◌, arith, lt-ltb, le-ltb}
use Rattle.terms.specs.Base.{within, Range}
use Rattle.terms.specs.Laws.Bools.{and_left, and_right, within_at}
use Rattle.fields.specs.Rule.View.{Field, there, tenant, options, selected, seat_zero, opens, slots, serial, row, waiting}
use Rattle.fields.specs.Rule.View.{number, owner, tabs, size, row_zero, letter, seats_at, rows_at, last}
use Rattle.fields.specs.Rule.Layout.{form, form_at, form_width, seat_at, tab_at, row_at}
use Rattle.fields.specs.Laws.Few.{alone, pair, four}
use Rattle.fields.specs.Laws.Layout.{FieldsFit}

-- ---- the document's layout: whose is the byte at a place?

head_field : ℕ → ℕ → Field
head_field s i = get_or (tenant s ∷ options s ∷ selected s ∷ seat_zero s ∷ opens s ∷ opens s ∷ slots s ∷ slots s ∷ []) i last

tab_field : ℕ → ℕ → ℕ → Field
tab_field s k i = get_or (serial s k ∷ serial s k ∷ row s k ∷ waiting s k ∷ []) i last

seat_field : ℕ → ℕ → Field
seat_field s i = cond (ltb i 8) (head_field s i) (tab_field s ((i - 8) / 4 + 1) ((i - 8) % 4))

row_field : ℕ → ℕ → Field
row_field p i =
    cond (ltb i 8)
    (get_or (number p ∷ number p ∷ number p ∷ number p ∷ owner p ∷ tabs p ∷ size p ∷ row_zero p ∷ []) i last)
    (letter p (i - 7))

trailer_field : ℕ → Field
trailer_field i = get_or (seats_at ∷ seats_at ∷ rows_at ∷ rows_at ∷ []) i last

field_at : ℕ → Field
field_at n =
    cond (ltb n 384) (seat_field (n / 48 + 1) (n % 48))
    (cond (ltb n 6144) (row_field ((n - 384) / 72 + 1) ((n - 384) % 72)) (trailer_field (n - 6144)))

in_seat : (n s i : ℕ) → Range 1 8 s → i < 48 → n ≡ 48 * (s - 1) + i → field_at n ≡ seat_field s i
unfolding field_at
in_seat n s i r h e =
    let lo = r.low in
    let hi = r.high in
    let a : n < 384 = omega arith in
    let b : n / 48 + 1 ≡ s = omega arith in
    let d : n % 48 ≡ i = omega arith in
    rw (lt-ltb n 384 a, b, d)

in_tab : (n s k i : ℕ) → Range 1 8 s → Range 1 10 k → i < 4 → n ≡ 48 * (s - 1) + 8 + 4 * (k - 1) + i
    → field_at n ≡ tab_field s k i
unfolding seat_field
in_tab n s k i r q h e =
    let lo = q.low in
    let hi = q.high in
    let j = 8 + 4 * (k - 1) + i in
    let a : 8 ≤ j = omega arith in
    let b : (j - 8) / 4 + 1 ≡ k = omega arith in
    let d : (j - 8) % 4 ≡ i = omega arith in
    in_seat n s j r (omega arith) (omega arith) ∙ rw (le-ltb j 8 a, b, d)

in_row : (n p i : ℕ) → Range 1 80 p → i < 72 → n ≡ 384 + 72 * (p - 1) + i → field_at n ≡ row_field p i
unfolding field_at
in_row n p i r h e =
    let lo = r.low in
    let hi = r.high in
    let a : 384 ≤ n = omega arith in
    let b : n < 6144 = omega arith in
    let d : (n - 384) / 72 + 1 ≡ p = omega arith in
    let g : (n - 384) % 72 ≡ i = omega arith in
    rw (le-ltb n 384 a, lt-ltb n 6144 b, d, g)

in_letter : (n p j : ℕ) → Range 1 80 p → Range 1 64 j → n ≡ 384 + 72 * (p - 1) + 8 + (j - 1) → field_at n ≡ letter p j
unfolding row_field
in_letter n p j r q e =
    let lo = q.low in
    let hi = q.high in
    let i = 8 + (j - 1) in
    let a : 8 ≤ i = omega arith in
    let b : i - 7 ≡ j = omega arith in
    in_row n p i r (omega arith) (omega arith) ∙ rw (le-ltb i 8 a, b)

in_head : (n s i : ℕ) → within 1 8 s ≡ true → i < 8 → n ≡ 48 * (s - 1) + i → field_at n ≡ head_field s i
unfolding seat_field
in_head n s i h m e = in_seat n s i (within_at 1 8 s h) (omega arith) e ∙ rw (lt-ltb i 8 m)

in_front : (n p i : ℕ) → within 1 80 p ≡ true → i < 72 → n ≡ 384 + 72 * (p - 1) + i → field_at n ≡ row_field p i
in_front n p i h m e = in_row n p i (within_at 1 80 p h) m e

in_trailer : (n i : ℕ) → n ≡ 6144 + i → field_at n ≡ trailer_field i
unfolding field_at
in_trailer n i e =
    let a : 384 ≤ n = omega arith in
    let b : 6144 ≤ n = omega arith in
    let d : n - 6144 ≡ i = omega arith in
    rw (le-ltb n 384 a, le-ltb n 6144 b, d)

tab_parts : (s k : ℕ) → within 1 8 s && within 1 10 k ≡ true → Range 1 8 s × Range 1 10 k
tab_parts s k h =
    (within_at 1 8 s (and_left (within 1 8 s) (within 1 10 k) h), within_at 1 10 k (and_right (within 1 8 s) (within 1 10 k) h))

in_slot : (n s k i : ℕ) → within 1 8 s && within 1 10 k ≡ true → i < 4 → n ≡ 48 * (s - 1) + 8 + 4 * (k - 1) + i
    → field_at n ≡ tab_field s k i
in_slot n s k i h m e = in_tab n s k i (tab_parts s k h).0 (tab_parts s k h).1 m e

owner_of_byte : (f : Field) → there f ≡ true → (i : ℕ) → i < form_width f → field_at (form_at f + i) ≡ f
unfolding there form_at form_width seat_at tab_at row_at head_field tab_field row_field trailer_field
owner_of_byte (tenant s) h = alone (λ i. field_at (48 * (s - 1) + i) ≡ tenant s) (in_head _ s 0 h (omega arith) (omega arith))
owner_of_byte (options s) h = alone (λ i. field_at (48 * (s - 1) + 1 + i) ≡ options s) (in_head _ s 1 h (omega arith) (omega arith))
owner_of_byte (selected s) h =
    alone (λ i. field_at (48 * (s - 1) + 2 + i) ≡ selected s) (in_head _ s 2 h (omega arith) (omega arith))
owner_of_byte (seat_zero s) h =
    alone (λ i. field_at (48 * (s - 1) + 3 + i) ≡ seat_zero s) (in_head _ s 3 h (omega arith) (omega arith))
owner_of_byte (opens s) h =
    pair (λ i. field_at (48 * (s - 1) + 4 + i) ≡ opens s)
    (in_head _ s 4 h (omega arith) (omega arith)) (in_head _ s 5 h (omega arith) (omega arith))
owner_of_byte (slots s) h =
    pair (λ i. field_at (48 * (s - 1) + 6 + i) ≡ slots s)
    (in_head _ s 6 h (omega arith) (omega arith)) (in_head _ s 7 h (omega arith) (omega arith))
owner_of_byte (serial s k) h =
    pair (λ i. field_at (48 * (s - 1) + 8 + 4 * (k - 1) + i) ≡ serial s k)
    (in_slot _ s k 0 h (omega arith) (omega arith)) (in_slot _ s k 1 h (omega arith) (omega arith))
owner_of_byte (row s k) h =
    alone (λ i. field_at (48 * (s - 1) + 8 + 4 * (k - 1) + 2 + i) ≡ row s k) (in_slot _ s k 2 h (omega arith) (omega arith))
owner_of_byte (waiting s k) h =
    alone (λ i. field_at (48 * (s - 1) + 8 + 4 * (k - 1) + 3 + i) ≡ waiting s k) (in_slot _ s k 3 h (omega arith) (omega arith))
owner_of_byte (number p) h =
    four (λ i. field_at (384 + 72 * (p - 1) + i) ≡ number p)
    (in_front _ p 0 h (omega arith) (omega arith)) (in_front _ p 1 h (omega arith) (omega arith))
    (in_front _ p 2 h (omega arith) (omega arith)) (in_front _ p 3 h (omega arith) (omega arith))
owner_of_byte (owner p) h =
    alone (λ i. field_at (384 + 72 * (p - 1) + 4 + i) ≡ owner p) (in_front _ p 4 h (omega arith) (omega arith))
owner_of_byte (tabs p) h = alone (λ i. field_at (384 + 72 * (p - 1) + 5 + i) ≡ tabs p) (in_front _ p 5 h (omega arith) (omega arith))
owner_of_byte (size p) h = alone (λ i. field_at (384 + 72 * (p - 1) + 6 + i) ≡ size p) (in_front _ p 6 h (omega arith) (omega arith))
owner_of_byte (row_zero p) h =
    alone (λ i. field_at (384 + 72 * (p - 1) + 7 + i) ≡ row_zero p) (in_front _ p 7 h (omega arith) (omega arith))
owner_of_byte (letter p j) h =
    alone (λ i. field_at (384 + 72 * (p - 1) + 8 + (j - 1) + i) ≡ letter p j)
    (in_letter _ p j (within_at 1 80 p (and_left (within 1 80 p) (within 1 64 j) h))
    (within_at 1 64 j (and_right (within 1 80 p) (within 1 64 j) h)) (omega arith))
owner_of_byte seats_at h = pair (λ i. field_at (6144 + i) ≡ seats_at) (in_trailer _ 0 refl) (in_trailer _ 1 refl)
owner_of_byte rows_at h = pair (λ i. field_at (6146 + i) ≡ rows_at) (in_trailer _ 2 refl) (in_trailer _ 3 refl)
owner_of_byte last h =
    four (λ i. field_at (6148 + i) ≡ last) (in_trailer _ 4 refl) (in_trailer _ 5 refl) (in_trailer _ 6 refl) (in_trailer _ 7 refl)

seat_inside : (s : ℕ) → within 1 8 s ≡ true → seat_at s + 8 ≤ 384
unfolding seat_at
seat_inside s h = let r = within_at 1 8 s h in let a = r.low in let b = r.high in omega arith

tab_inside : (s k : ℕ) → within 1 8 s && within 1 10 k ≡ true → tab_at s k + 4 ≤ 384
unfolding tab_at
tab_inside s k h =
    let r = (tab_parts s k h).0 in
    let q = (tab_parts s k h).1 in
    let a = r.low in let b = r.high in let d = q.low in let e = q.high in omega arith

row_inside : (p : ℕ) → within 1 80 p ≡ true → row_at p + 72 ≤ 6144
unfolding row_at
row_inside p h = let r = within_at 1 80 p h in let a = r.low in let b = r.high in omega arith

letter_inside : (p j : ℕ) → within 1 80 p && within 1 64 j ≡ true → row_at p + 8 + (j - 1) + 1 ≤ 6144
letter_inside p j h =
    let a = row_inside p (and_left (within 1 80 p) (within 1 64 j) h) in
    let r = within_at 1 64 j (and_right (within 1 80 p) (within 1 64 j) h) in
    let b = r.low in let d = r.high in omega arith

form_inside : (f : Field) → there f ≡ true → form_at f + form_width f ≤ 6152
unfolding there form_at form_width
form_inside (tenant s) h = let a = seat_inside s h in omega arith
form_inside (options s) h = let a = seat_inside s h in omega arith
form_inside (selected s) h = let a = seat_inside s h in omega arith
form_inside (seat_zero s) h = let a = seat_inside s h in omega arith
form_inside (opens s) h = let a = seat_inside s h in omega arith
form_inside (slots s) h = let a = seat_inside s h in omega arith
form_inside (serial s k) h = let a = tab_inside s k h in omega arith
form_inside (row s k) h = let a = tab_inside s k h in omega arith
form_inside (waiting s k) h = let a = tab_inside s k h in omega arith
form_inside (number p) h = let a = row_inside p h in omega arith
form_inside (owner p) h = let a = row_inside p h in omega arith
form_inside (tabs p) h = let a = row_inside p h in omega arith
form_inside (size p) h = let a = row_inside p h in omega arith
form_inside (row_zero p) h = let a = row_inside p h in omega arith
form_inside (letter p j) h = let a = letter_inside p j h in omega arith
form_inside seats_at h = omega arith
form_inside rows_at h = omega arith
form_inside last h = omega arith

pub form_fits : FieldsFit form
unfolding form
form_fits =
    record {
      inside = form_inside;
      owned = λ f g h k i j m n e. sym (owner_of_byte f h i m) ∙ ap field_at e ∙ owner_of_byte g k j n;
    }
