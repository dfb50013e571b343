-- What the updates write fits the bytes of its field. With Laws.Layout these are the laws that know how wide fields are.
-- Assumes nothing.
use Rattle.std.specs.Prelude.{◌≡◌, refl, true, List, [], ◌∷◌, ℕ, ◌+◌, ◌-◌, ◌*◌, ◌^◌, ◌≤◌, ◌<◌, length, get_or}
use Rattle.std.proofs.Common.{arith, pow_mono}
use Rattle.terms.specs.Base.{Range}
use Rattle.terms.specs.Names.{is_name, folded, is_separate}
use Rattle.terms.specs.Laws.Bools.{cases}
use Rattle.terms.specs.Laws.Order.{owner_separate, owner_shared}
use Rattle.terms.specs.Laws.Fold.{get_d_folded, lower_lt}
use Rattle.terms.specs.Laws.Bytes.{name_bytes}
use Rattle.fields.specs.Base.{bits}
use Rattle.fields.specs.Rule.View.{View, there, tenant, options, selected, opens, slots, serial, row, waiting, number}
use Rattle.fields.specs.Rule.View.{owner, tabs, size, last}
use Rattle.fields.specs.Rule.Layout.{form, form_width, most_opens, most_number}
use Rattle.fields.specs.Rule.Word.{live, owner_at}
use Rattle.fields.specs.Rule.Update.{◌≔◌, hanging, making, unhanging, clearing}
use Rattle.fields.specs.Laws.Each.{in_range, in_ranges}
use Rattle.fields.specs.Laws.Bits.{bits_lt}
use Rattle.fields.specs.Laws.Sound.{Sound}
use Rattle.fields.specs.Laws.Room.{last_next, tabs_le_80}
use Rattle.fields.specs.Laws.Write.{Can, done, field, name}

bit_le : (k : ℕ) → Range 1 10 k → 2 ^ (k - 1) ≤ 512
bit_le k q =
    let h = q.high in
    let l : k - 1 ≤ 9 = omega arith in
    let a : 2 ^ (k - 1) ≤ 2 ^ 9 = pow_mono l in
    a

pub map_lt : (v : View) (s : ℕ) → Sound most_opens v → Range 1 8 s → v (slots s) < 1024
map_lt v s w r =
    let a = w.map_agrees s r in
    let b : bits 10 (λ k. live v s k) < 2 ^ 10 = bits_lt 10 (λ k. live v s k) in
    omega arith

most_is : most_opens ≡ 65535
unfolding most_opens form
most_is = refl

-- the largest opens and the largest number are far below what the machine counts to
pub most_small : most_opens < 4294967296
most_small = omega (arith, most_is)

pub number_small : most_number < 4294967296
unfolding most_number
number_small = omega arith

-- there is a first serial
pub first_serial : 0 < most_opens
first_serial = omega (arith, most_is)

-- eight seats cannot open as many tabs as there are numbers
pub numbers_enough : 8 * most_opens < most_number
unfolding most_number
numbers_enough = omega (arith, most_is)

-- an owner fits a byte
pub owner_lt : (most : ℕ) (v : View) (s : ℕ) → Sound most v → Range 1 8 s → owner_at v s < 256
unfolding owner_at
owner_lt most v s w r =
    let a = w.tenants s r in
    let b = r.high in
    cases (is_separate (v (options s)))
    (λ e. let d = owner_separate s (v (tenant s)) (v (options s)) e in omega arith)
    (λ e. let d = owner_shared s (v (tenant s)) (v (options s)) e in omega arith)

module _ (v : View) (s k p : ℕ) (w : Sound most_opens v) (seat : Range 1 8 s) (slot : Range 1 10 k) (row_in : Range 1 80 p) where
  pub can_hang : (m : View) → m (opens s) < most_opens → m (slots s) < 1024 → m (tabs p) ≤ 80 → Can (hanging m s k p)
  unfolding hanging there form_width
  can_hang m h i j =
      let most = most_is in
      let hk = slot.high in
      let hp = row_in.high in
      let b = bit_le k slot in
      field (serial s k) (m (opens s) + 1) (in_ranges seat slot) (omega arith)
      (field (row s k) p (in_ranges seat slot) (omega arith)
      (field (waiting s k) 0 (in_ranges seat slot) (omega arith)
      (field (selected s) k (in_range seat) (omega arith)
      (field (opens s) (m (opens s) + 1) (in_range seat) (omega arith)
      (field (slots s) (m (slots s) + 2 ^ (k - 1)) (in_range seat) (omega arith)
      (field (tabs p) (m (tabs p) + 1) (in_range row_in) (omega arith) done))))))

  pub can_unhang : Can (unhanging v s k p)
  unfolding unhanging there form_width
  can_unhang =
      let i = map_lt v s w seat in
      let j = tabs_le_80 most_opens v p w row_in in
      field (serial s k) 0 (in_ranges seat slot) (omega arith)
      (field (row s k) 0 (in_ranges seat slot) (omega arith)
      (field (waiting s k) 0 (in_ranges seat slot) (omega arith)
      (field (selected s) 0 (in_range seat) (omega arith)
      (field (slots s) (v (slots s) - 2 ^ (k - 1)) (in_range seat) (omega arith)
      (field (tabs p) (v (tabs p) - 1) (in_range row_in) (omega arith) done)))))

name_fits : (suffix : List ℕ) → is_name suffix ≡ true → (i : ℕ) → get_or (folded suffix) i 0 < 256
name_fits suffix e i =
    let a = lower_lt (get_or suffix i 0) (name_bytes suffix e i) in
    let b = get_d_folded suffix i in
    omega arith

pub can_make : (v : View) (p o : ℕ) (suffix : List ℕ) → Sound most_opens v → Range 1 80 p → o < 256 → is_name suffix ≡ true
    → Range 3 64 (length suffix) → Can (making v p o suffix)
unfolding making there form_width
can_make v p o suffix w row_in small named long =
    let l = last_next most_opens v w in
    let m = most_is in
    let h = long.high in
    field (number p) (v last + 1) (in_range row_in) (omega arith)
    (field (owner p) o (in_range row_in) small
    (field (size p) (length suffix) (in_range row_in) (omega arith)
    (name row_in (name_fits suffix named)
    (field last (v last + 1) refl (omega arith) done))))

pub can_clear : (p : ℕ) → Range 1 80 p → Can (clearing p)
unfolding clearing there form_width
can_clear p row_in =
    field (number p) 0 (in_range row_in) (omega arith)
    (field (owner p) 0 (in_range row_in) (omega arith)
    (field (tabs p) 0 (in_range row_in) (omega arith)
    (field (size p) 0 (in_range row_in) (omega arith)
    (name {n = []} row_in (λ i. omega arith) done))))

pub can_pick : {s k : ℕ} → Range 1 8 s → k ≤ 10 → (there (selected s) ≡ true) × (k < 256 ^ form_width (selected s))
unfolding there form_width
can_pick r h = (in_range r, omega arith)

pub can_wait : {s k x : ℕ} → Range 1 8 s → Range 1 10 k → x ≤ 3
    → (there (waiting s k) ≡ true) × (x < 256 ^ form_width (waiting s k))
unfolding there form_width
can_wait r q h = (in_ranges r q, omega arith)

-- a letting: tenant and options are bytes
pub can_let : (s x y : ℕ) → Range 1 8 s → x ≤ 99 → y < 256 → Can (tenant s ≔ x ∷ options s ≔ y ∷ [])
unfolding there form_width
can_let s x y r h k = field (tenant s) x (in_range r) (omega arith) (field (options s) y (in_range r) k done)
