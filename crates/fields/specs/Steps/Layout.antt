-- Equations that src/layout.rt goes by: where a field lies, what it shows there, what writing there leaves; and the table's
-- numbers. Assumes nothing.
use Rattle.std.specs.Prelude.{◌≡◌, true, ◌&&◌, List, ◌∷◌, ℕ, zero, suc, ◌+◌, ◌-◌, ◌*◌, ◌/◌, ◌%◌, ◌<◌, eqb, length, get_or, set, replicate}
use Rattle.std.proofs.Math.Path.{refl, sym}
use Rattle.std.proofs.Common.{ap, ◌∙◌}
use Rattle.terms.specs.Base.{Range}
use Rattle.fields.specs.Base.{series}
use Rattle.fields.specs.Rule.View.{View, Field, there, tenant, options, selected, seat_zero, opens, slots, serial, row}
use Rattle.fields.specs.Rule.View.{waiting, number, owner, tabs, size, row_zero, letter, seats_at, rows_at, last}
use Rattle.fields.specs.Rule.Layout.{view_by, write_by, offsets_given, seat_at, tab_at, row_at, form_at, form_width, form}
use Rattle.fields.specs.Rule.Layout.{table_bytes, most_opens, most_number, view, write, tab_id, seat_of_id, serial_of_id}
use Rattle.fields.specs.Rule.Fresh.{blank}
use Rattle.fields.specs.Held.{WroteField}
use Rattle.fields.specs.Laws.Each.{in_range, in_ranges}
use Rattle.terms.specs.Names.{num, put}
use Rattle.terms.specs.Laws.Num.{length_put, num1, put1}

-- ---- the table's numbers

pub table_bytes_lem : table_bytes ≡ 6152
unfolding table_bytes form
table_bytes_lem = refl

pub most_number_lem : most_number ≡ 4294967295
unfolding most_number
most_number_lem = refl

pub most_opens_lem : most_opens ≡ 65535
unfolding most_opens form
most_opens_lem = refl

pub offsets_is : (v : View) → offsets_given form v ≡ eqb (v seats_at) 0 && eqb (v rows_at) 384
unfolding offsets_given form
offsets_is v = refl

pub seat_at_is : (s : ℕ) → seat_at s ≡ 48 * (s - 1)
unfolding seat_at
seat_at_is s = refl

pub tab_at_is : (s k : ℕ) → tab_at s k ≡ seat_at s + 8 + 4 * (k - 1)
unfolding tab_at seat_at
tab_at_is s k = refl

pub row_at_is : (p : ℕ) → row_at p ≡ 384 + 72 * (p - 1)
unfolding row_at
row_at_is p = refl

pub tab_id_is : (s n : ℕ) → tab_id s n ≡ s * 65536 + n
unfolding tab_id
tab_id_is s n = refl

pub seat_of_id_is : (i : ℕ) → seat_of_id i ≡ i / 65536
unfolding seat_of_id
seat_of_id_is i = refl

pub serial_of_id_is : (i : ℕ) → serial_of_id i ≡ i % 65536
unfolding serial_of_id
serial_of_id_is i = refl

-- ---- a field that is there, where it begins, and how many bytes it has

pub record Lies (f : Field) (at w : ℕ) : Type 0 where
  pub is : there f ≡ true
  pub place : form_at f ≡ at
  pub wide : form_width f ≡ w

pub seen : {f : Field} {at w : ℕ} (t : List ℕ) → Lies f at w → view t f ≡ num t at w
unfolding view view_by form
seen t l = rw (l.is, l.place, l.wide)

write_is : {f : Field} {at w : ℕ} (t : List ℕ) (x : ℕ) → Lies f at w → write t f x ≡ put t at w x
unfolding write write_by form
write_is t x l = rw (l.place, l.wide)

pub wrote : {t u : List ℕ} {f : Field} {at w x : ℕ} → length t ≡ table_bytes → Lies f at w → u ≡ put t at w x → WroteField t u f x
wrote {t} {u} {f} {at} {w} {x} long l e =
    record { long = ap length e ∙ length_put t at w x ∙ long; is = e ∙ sym (write_is t x l) }

-- the same of a byte
pub seen_byte : {f : Field} {at : ℕ} (t : List ℕ) → Lies f at 1 → view t f ≡ get_or t at 0
seen_byte {f} {at} t l = seen t l ∙ num1 t at

pub wrote_byte : {t u : List ℕ} {f : Field} {at x : ℕ} → length t ≡ table_bytes → Lies f at 1 → x < 256 → u ≡ set t at x
    → WroteField t u f x
wrote_byte {t} {u} {f} {at} {x} long l h e = wrote long l (e ∙ sym (put1 t at x h))

-- ---- a seat's

module _ {s at : ℕ} (seat : Range 1 8 s) (e : at ≡ seat_at s) where
  pub tenant_lies : Lies (tenant s) at 1
  unfolding there form_at form_width
  tenant_lies = record { is = in_range seat; place = sym e; wide = refl }

  pub options_lies : Lies (options s) (at + 1) 1
  unfolding there form_at form_width
  options_lies = record { is = in_range seat; place = rw e; wide = refl }

  pub selected_lies : Lies (selected s) (at + 2) 1
  unfolding there form_at form_width
  selected_lies = record { is = in_range seat; place = rw e; wide = refl }

  pub seat_zero_lies : Lies (seat_zero s) (at + 3) 1
  unfolding there form_at form_width
  seat_zero_lies = record { is = in_range seat; place = rw e; wide = refl }

  pub opens_lies : Lies (opens s) (at + 4) 2
  unfolding there form_at form_width
  opens_lies = record { is = in_range seat; place = rw e; wide = refl }

  pub slots_lies : Lies (slots s) (at + 6) 2
  unfolding there form_at form_width
  slots_lies = record { is = in_range seat; place = rw e; wide = refl }

-- ---- a tab row's

module _ {s k at : ℕ} (seat : Range 1 8 s) (slot : Range 1 10 k) (e : at ≡ tab_at s k) where
  pub serial_lies : Lies (serial s k) at 2
  unfolding there form_at form_width
  serial_lies = record { is = in_ranges seat slot; place = sym e; wide = refl }

  pub row_lies : Lies (row s k) (at + 2) 1
  unfolding there form_at form_width
  row_lies = record { is = in_ranges seat slot; place = rw e; wide = refl }

  pub waiting_lies : Lies (waiting s k) (at + 3) 1
  unfolding there form_at form_width
  waiting_lies = record { is = in_ranges seat slot; place = rw e; wide = refl }

-- ---- a process row's

module _ {p at : ℕ} (in_row : Range 1 80 p) (e : at ≡ row_at p) where
  pub number_lies : Lies (number p) at 4
  unfolding there form_at form_width
  number_lies = record { is = in_range in_row; place = sym e; wide = refl }

  pub owner_lies : Lies (owner p) (at + 4) 1
  unfolding there form_at form_width
  owner_lies = record { is = in_range in_row; place = rw e; wide = refl }

  pub tabs_lies : Lies (tabs p) (at + 5) 1
  unfolding there form_at form_width
  tabs_lies = record { is = in_range in_row; place = rw e; wide = refl }

  pub size_lies : Lies (size p) (at + 6) 1
  unfolding there form_at form_width
  size_lies = record { is = in_range in_row; place = rw e; wide = refl }

  pub row_zero_lies : Lies (row_zero p) (at + 7) 1
  unfolding there form_at form_width
  row_zero_lies = record { is = in_range in_row; place = rw e; wide = refl }

  pub letter_lies : {j : ℕ} → Range 1 64 j → Lies (letter p j) (at + 8 + (j - 1)) 1
  unfolding there form_at form_width
  letter_lies {j} r =
      record { is = in_ranges in_row r; place = rw e; wide = refl }

-- ---- the trailer's

pub seats_at_lies : Lies seats_at 6144 2
unfolding there form_at form_width
seats_at_lies = record { is = refl; place = refl; wide = refl }

pub rows_at_lies : Lies rows_at 6146 2
unfolding there form_at form_width
rows_at_lies = record { is = refl; place = refl; wide = refl }

pub last_lies : Lies last 6148 4
unfolding there form_at form_width
last_lies = record { is = refl; place = refl; wide = refl }

-- ---- the table wiped, and then the offset of the process rows written

zeros : (n : ℕ) → replicate n 0 ≡ series n (λ j. 0)
unfolding series
zeros zero = refl
zeros (suc n) = ap (λ (l : List ℕ). 0 ∷ l) (zeros n)

pub blank_is : (t : List ℕ) {u w : List ℕ} → length t ≡ table_bytes → w ≡ replicate (length t) 0 → WroteField w u rows_at 384 → u ≡ blank
unfolding blank form
blank_is t {u} {w} long h o =
    let z : w ≡ series table_bytes (λ j. 0) = h ∙ ap (λ (n : ℕ). replicate n 0) long ∙ zeros table_bytes in
    o.is ∙ ap (λ (l : List ℕ). write l rows_at 384) z
