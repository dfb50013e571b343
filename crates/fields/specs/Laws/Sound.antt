-- Sound as a record of facts, one for each clause in the document's order, and the proof that the test and the facts agree.
-- Assumes nothing.
use Rattle.std.specs.Prelude.{◌≡◌, refl, Bool, true, false, not, ◌||◌, ◌≢◌, ℕ, ◌≤◌, ◌<◌, eqb}
use Rattle.std.proofs.Common.{sym, ap, ◌∙◌, eq-eqb, ne_eqb, eqb-true}
use Rattle.std.proofs.lemmas.Bool.{false≢true, not-false}
use Rattle.terms.specs.Names.{legal_options, owner_of}
use Rattle.terms.specs.Base.{Range}
use Rattle.fields.specs.Base.{sum, bits}
use Rattle.fields.specs.Rule.View.{View, tenant, options, selected, seat_zero, opens, slots, serial, row, waiting, number}
use Rattle.fields.specs.Rule.View.{owner, tabs, size, row_zero, letter, last}
use Rattle.fields.specs.Rule.Word.{live, used, owner_at, pointing}
use Rattle.fields.specs.Rule.Clause.{good_name, same_pair}

-- ---- tests taken apart

-- "if a, then b" as a test, and "a, or else b"
pub if_then : (a b : Bool) → not a || b ≡ true → a ≡ true → b ≡ true
if_then true b e h = e
if_then false b e h = absurd (false≢true h)

pub then_if : (a b : Bool) → (a ≡ true → b ≡ true) → not a || b ≡ true
then_if true b h = h refl
then_if false b h = refl

pub or_else : (a b : Bool) → a || b ≡ true → a ≡ false → b ≡ true
or_else true b e h = absurd (false≢true (sym h))
or_else false b e h = e

pub else_or : (a b : Bool) → (a ≡ false → b ≡ true) → a || b ≡ true
else_or true b h = refl
else_or false b h = h refl

-- ---- live and free

pub live_not : (v : View) (s k : ℕ) → live v s k ≡ true → v (serial s k) ≢ 0
unfolding live
live_not v s k e z = false≢true (sym (ap not (eq-eqb (v (serial s k)) 0 z)) ∙ e)

pub live_of : (v : View) (s k : ℕ) → v (serial s k) ≢ 0 → live v s k ≡ true
unfolding live
live_of v s k h = ap not (ne_eqb (v (serial s k)) 0 h)

pub zero_free : (v : View) (s k : ℕ) → v (serial s k) ≡ 0 → live v s k ≡ false
unfolding live
zero_free v s k e = ap not (eq-eqb (v (serial s k)) 0 e)

pub used_not : (v : View) (p : ℕ) → used v p ≡ true → v (number p) ≢ 0
unfolding used
used_not v p e z = false≢true (sym (ap not (eq-eqb (v (number p)) 0 z)) ∙ e)

pub used_of : (v : View) (p : ℕ) → v (number p) ≢ 0 → used v p ≡ true
unfolding used
used_of v p h = ap not (ne_eqb (v (number p)) 0 h)

pub unused_zero : (v : View) (p : ℕ) → used v p ≡ false → v (number p) ≡ 0
unfolding used
unused_zero v p e = eqb-true (v (number p)) 0 (not-false (eqb (v (number p)) 0) e)

pub zero_unused : (v : View) (p : ℕ) → v (number p) ≡ 0 → used v p ≡ false
unfolding used
zero_unused v p e = ap not (eq-eqb (v (number p)) 0 e)

-- ---- a seat's owner

pub owner_at_lem : (v : View) (s : ℕ) → owner_at v s ≡ owner_of s (v (tenant s)) (v (options s))
unfolding owner_at
owner_at_lem v s = refl

-- ---- the facts

pub record EmptyTab (v : View) (s k : ℕ) : Type 0 where
  pub serial0 : v (serial s k) ≡ 0
  pub row0 : v (row s k) ≡ 0
  pub waiting0 : v (waiting s k) ≡ 0

pub record EmptySeat (v : View) (s : ℕ) : Type 0 where
  pub options0 : v (options s) ≡ 0
  pub selected0 : v (selected s) ≡ 0
  pub opens0 : v (opens s) ≡ 0
  pub slots0 : v (slots s) ≡ 0
  pub tabs0 : (k : ℕ) → Range 1 10 k → EmptyTab v s k

pub record EmptyRow (v : View) (p : ℕ) : Type 0 where
  pub owner0 : v (owner p) ≡ 0
  pub size0 : v (size p) ≡ 0
  pub tabs0 : v (tabs p) ≡ 0

pub record TabHangs (v : View) (s k : ℕ) : Type 0 where
  pub live_row : used v (v (row s k)) ≡ true
  pub own : v (owner (v (row s k))) ≡ owner_at v s

pub record Sound (most : ℕ) (v : View) : Type 0 where
  pub tenants : (s : ℕ) → Range 1 8 s → v (tenant s) ≤ 99
  pub legal : (s : ℕ) → Range 1 8 s → legal_options (v (options s)) ≡ true
  pub selections : (s : ℕ) → Range 1 8 s → v (selected s) ≤ 10
  pub opens_fit : (s : ℕ) → Range 1 8 s → v (opens s) ≤ most
  pub waits : (s k : ℕ) → Range 1 8 s → Range 1 10 k → v (waiting s k) ≤ 3
  pub seats_spare : (s : ℕ) → Range 1 8 s → v (seat_zero s) ≡ 0
  pub rows_spare : (p : ℕ) → Range 1 80 p → v (row_zero p) ≡ 0
  pub not_let : (s : ℕ) → Range 1 8 s → v (tenant s) ≡ 0 → EmptySeat v s
  pub free_tabs : (s k : ℕ) → Range 1 8 s → Range 1 10 k → live v s k ≡ false → EmptyTab v s k
  pub free_rows : (p : ℕ) → Range 1 80 p → used v p ≡ false → EmptyRow v p
  pub fill : (p j : ℕ) → Range 1 80 p → Range 1 64 j → v (size p) < j → v (letter p j) ≡ 0
  pub map_agrees : (s : ℕ) → Range 1 8 s → v (slots s) ≡ bits 10 (λ k. live v s k)
  pub selected_live : (s : ℕ) → Range 1 8 s → v (selected s) ≢ 0 → live v s (v (selected s)) ≡ true
  pub serials_apart : (s i k : ℕ) → Range 1 8 s → 1 ≤ i → i < k → k ≤ 10 → live v s k ≡ true → v (serial s i) ≢ v (serial s k)
  pub serials_fit : (s k : ℕ) → Range 1 8 s → Range 1 10 k → v (serial s k) ≤ v (opens s)
  pub tabs_hang : (s k : ℕ) → Range 1 8 s → Range 1 10 k → live v s k ≡ true → TabHangs v s k
  pub counts : (p : ℕ) → Range 1 80 p → v (tabs p) ≡ pointing v p
  pub some_tab : (p : ℕ) → Range 1 80 p → used v p ≡ true → 1 ≤ v (tabs p)
  pub numbers_apart : (q p : ℕ) → 1 ≤ q → q < p → p ≤ 80 → used v p ≡ true → v (number q) ≢ v (number p)
  pub numbers_fit : (p : ℕ) → Range 1 80 p → v (number p) ≤ v last
  pub last_fits : v last ≤ sum 8 (λ s. v (opens s))
  pub names : (p : ℕ) → Range 1 80 p → used v p ≡ true → good_name v p ≡ true
  pub pairs_apart_lem : (q p : ℕ) → 1 ≤ q → q < p → p ≤ 80 → same_pair v q p ≡ false
