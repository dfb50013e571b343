-- The document's layout leaves no byte out: each of a table's 6,152 belongs to a field, so that two tables of bytes that show the
-- same are the same. Assumes nothing.
use Rattle.std.specs.Prelude.{◌≡◌, refl, true, List, ℕ, zero, suc, ◌+◌, ◌-◌, ◌*◌, ◌/◌, ◌%◌, ◌<◌, ltb, length, get_or}
use Rattle.std.proofs.Common.{ap, sym, ◌∙◌, subst, arith, ext_get_or, ltb-true, ltb-false}
use Rattle.terms.specs.Base.{Range, Bytes}
use Rattle.terms.specs.Names.{num}
use Rattle.terms.specs.Laws.Bools.{cases}
use Rattle.terms.specs.Laws.Num.{num_suc}
use Rattle.fields.specs.Rule.View.{View, Field, there, tenant, options, selected, seat_zero, opens, slots, serial, row}
use Rattle.fields.specs.Rule.View.{waiting, number, owner, tabs, size, row_zero, letter, seats_at, rows_at, last}
use Rattle.fields.specs.Rule.Layout.{form, form_at, form_width, seat_at, tab_at, row_at, table_bytes, view, view_by}
use Rattle.fields.specs.Laws.Each.{range, in_range, in_ranges}
use Rattle.fields.specs.Laws.Few.{four}
use Rattle.fields.specs.Rule.Layout.{Covered}

-- ---- the document's layout, four bytes at a time

abbrev In : ℕ → Type 0
In n = Covered form n

byte : (f : Field) (i n : ℕ) → there f ≡ true → i < form_width f → form_at f + i ≡ n → In n
unfolding form
byte f i n h m e = record { field = f; is = h; nth = i; inside = m; place = e }

quarter : (at i n : ℕ) → In (at + 0) → In (at + 1) → In (at + 2) → In (at + 3) → i < 4 → at + i ≡ n → In n
quarter at i n a b d e h q = subst In q (four (λ i. In (at + i)) a b d e i h)

module _ (n s i : ℕ) (seat : Range 1 8 s) where
  head_front : i < 4 → 48 * (s - 1) + i ≡ n → In n
  unfolding there form_at form_width seat_at
  head_front =
      let h = in_range seat in
      quarter (48 * (s - 1)) i n (byte (tenant s) 0 _ h (omega arith) refl) (byte (options s) 0 _ h (omega arith) (omega arith))
      (byte (selected s) 0 _ h (omega arith) (omega arith)) (byte (seat_zero s) 0 _ h (omega arith) (omega arith))

  head_back : i < 4 → 48 * (s - 1) + 4 + i ≡ n → In n
  unfolding there form_at form_width seat_at
  head_back =
      let h = in_range seat in
      quarter (48 * (s - 1) + 4) i n (byte (opens s) 0 _ h (omega arith) refl) (byte (opens s) 1 _ h (omega arith) refl)
      (byte (slots s) 0 _ h (omega arith) (omega arith)) (byte (slots s) 1 _ h (omega arith) (omega arith))

  in_tab : (k : ℕ) → Range 1 10 k → i < 4 → 48 * (s - 1) + 8 + 4 * (k - 1) + i ≡ n → In n
  unfolding there form_at form_width tab_at
  in_tab k slot =
      let h = in_ranges seat slot in
      quarter (48 * (s - 1) + 8 + 4 * (k - 1)) i n (byte (serial s k) 0 _ h (omega arith) refl)
      (byte (serial s k) 1 _ h (omega arith) refl) (byte (row s k) 0 _ h (omega arith) (omega arith))
      (byte (waiting s k) 0 _ h (omega arith) (omega arith))

module _ (n p i : ℕ) (row_in : Range 1 80 p) where
  row_front : i < 4 → 384 + 72 * (p - 1) + i ≡ n → In n
  unfolding there form_at form_width row_at
  row_front =
      let h = in_range row_in in
      quarter (384 + 72 * (p - 1)) i n (byte (number p) 0 _ h (omega arith) refl) (byte (number p) 1 _ h (omega arith) refl)
      (byte (number p) 2 _ h (omega arith) refl) (byte (number p) 3 _ h (omega arith) refl)

  row_back : i < 4 → 384 + 72 * (p - 1) + 4 + i ≡ n → In n
  unfolding there form_at form_width row_at
  row_back =
      let h = in_range row_in in
      quarter (384 + 72 * (p - 1) + 4) i n (byte (owner p) 0 _ h (omega arith) refl)
      (byte (tabs p) 0 _ h (omega arith) (omega arith))
      (byte (size p) 0 _ h (omega arith) (omega arith)) (byte (row_zero p) 0 _ h (omega arith) (omega arith))

  in_letter : (j : ℕ) → Range 1 64 j → 384 + 72 * (p - 1) + 8 + (j - 1) ≡ n → In n
  unfolding there form_at form_width row_at
  in_letter j place e = byte (letter p j) 0 n (in_ranges row_in place) (omega arith) (omega arith)

in_trailer : (n i : ℕ) → i < 8 → 6144 + i ≡ n → In n
unfolding there form_at form_width
in_trailer n i h e =
    cases (ltb i 4)
    (λ a.
    quarter 6144 i n (byte seats_at 0 _ refl (omega arith) refl) (byte seats_at 1 _ refl (omega arith) refl)
    (byte rows_at 0 _ refl (omega arith) refl) (byte rows_at 1 _ refl (omega arith) refl)
    (ltb-true i 4 a) e)
    (λ a.
    let b = ltb-false i 4 a in
    quarter 6148 (i - 4) n (byte last 0 _ refl (omega arith) refl) (byte last 1 _ refl (omega arith) refl)
    (byte last 2 _ refl (omega arith) refl) (byte last 3 _ refl (omega arith) refl)
    (omega arith) (omega arith))

-- ---- all of it

in_seat : (n s i : ℕ) → Range 1 8 s → i < 48 → 48 * (s - 1) + i ≡ n → In n
in_seat n s i r h e =
    cases (ltb i 4) (λ a. head_front n s i r (ltb-true i 4 a) e) (λ a.
    let b = ltb-false i 4 a in
    cases (ltb i 8) (λ d. let g = ltb-true i 8 d in head_back n s (i - 4) r (omega arith) (omega arith)) (λ d.
    let g = ltb-false i 8 d in
    in_tab n s ((i - 8) % 4) r ((i - 8) / 4 + 1) (range (omega arith) (omega arith)) (omega arith) (omega arith)))

in_row : (n p i : ℕ) → Range 1 80 p → i < 72 → 384 + 72 * (p - 1) + i ≡ n → In n
in_row n p i r h e =
    cases (ltb i 4) (λ a. row_front n p i r (ltb-true i 4 a) e) (λ a.
    let b = ltb-false i 4 a in
    cases (ltb i 8) (λ d. let g = ltb-true i 8 d in row_back n p (i - 4) r (omega arith) (omega arith)) (λ d.
    let g = ltb-false i 8 d in
    in_letter n p i r (i - 7) (range (omega arith) (omega arith)) (omega arith)))

pub form_covers : (n : ℕ) → n < table_bytes → Covered form n
unfolding table_bytes form
form_covers n h =
    cases (ltb n 384)
    (λ a.
    let b = ltb-true n 384 a in
    in_seat n (n / 48 + 1) (n % 48) (range (omega arith) (omega arith)) (omega arith) (omega arith))
    (λ a.
    let b = ltb-false n 384 a in
    cases (ltb n 6144)
    (λ d.
    let g = ltb-true n 6144 d in
    in_row n ((n - 384) / 72 + 1) ((n - 384) % 72) (range (omega arith) (omega arith)) (omega arith) (omega arith))
    (λ d. let g = ltb-false n 6144 d in in_trailer n (n - 6144) (omega arith) (omega arith)))

-- ---- and so what a table shows is all of it

-- the bytes of a number can be told from it
num_bytes : (t u : List ℕ) (at w : ℕ) → Bytes t → Bytes u → num t at w ≡ num u at w → (i : ℕ) → i < w
    → get_or t (at + i) 0 ≡ get_or u (at + i) 0
num_bytes t u at zero b c e i h = absurd (omega arith)
num_bytes t u at (suc w) b c e i h =
    let x = num t at w in
    let y = num u at w in
    let q : x * 256 + get_or t (at + w) 0 ≡ y * 256 + get_or u (at + w) 0 = sym (num_suc t at w) ∙ e ∙ num_suc u at w in
    let m = b (at + w) in
    let n = c (at + w) in
    cases (ltb i w)
    (λ a. num_bytes t u at w b c (omega arith) i (ltb-true i w a))
    (λ a. let d = ltb-false i w a in let k : i ≡ w = omega arith in rw k (omega arith))

seen : (t : List ℕ) (f : Field) → there f ≡ true → view t f ≡ num t (form_at f) (form_width f)
unfolding view view_by form
seen t f h = rw h

same_byte : (t u : List ℕ) → Bytes t → Bytes u → view t ≡ view u → (n : ℕ) → Covered form n → get_or t n 0 ≡ get_or u n 0
unfolding form
same_byte t u b c e n x =
    let f = x.field in
    let q = sym (seen t f x.is) ∙ ap (λ (v : View). v f) e ∙ seen u f x.is in
    subst (λ (m : ℕ). get_or t m 0 ≡ get_or u m 0) x.place (num_bytes t u (form_at f) (form_width f) b c q x.nth x.inside)

pub view_ext : (t u : List ℕ) → length t ≡ table_bytes → length u ≡ table_bytes → Bytes t → Bytes u → view t ≡ view u → t ≡ u
view_ext t u l m b c e =
    ext_get_or 0 t u (l ∙ sym m) (λ n h. same_byte t u b c e n (form_covers n (rw l at h)))
