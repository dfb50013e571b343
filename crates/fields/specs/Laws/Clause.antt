-- Each clause of soundness as a test and as a fact. Assumes nothing.
use Rattle.std.specs.Prelude.{◌≡◌, true, false, ◌&&◌, ◌||◌, ◌≢◌, ℕ, ◌<◌, ◌≤◌}
use Rattle.std.proofs.Common.{sym, ◌∙◌}
use Rattle.std.proofs.Math.Bool.{false≢true}
use Rattle.std.proofs.Math.Dec.{leb, eqb}
use borrow.Author.Tests.{eq-eqb, ne_eqb, eqb-true, leb-false, lt-leb, leb-true}
use Rattle.terms.specs.Laws.Bools.{and_left, and_right, and_both, cases}
use Rattle.terms.specs.Base.{Range}
use Rattle.fields.specs.Base.{each, sum, bits}
use Rattle.fields.specs.Rule.View.{View, tenant, options, selected, seat_zero, opens, slots, serial, row, waiting, number}
use Rattle.fields.specs.Rule.View.{owner, tabs, size, row_zero, letter, last}
use Rattle.fields.specs.Rule.Clause.{empty_tab, empty_seat, empty_row, filled, same_serial, hangs, same_number, seat_in_range}
use Rattle.fields.specs.Rule.Clause.{seat_spare, row_spare, let_or_empty, live_or_empty, used_or_empty, map_agrees, selected_live}
use Rattle.fields.specs.Rule.Clause.{serial_fits, counted, has_tab, number_fits, last_fits, good_name, name_formed}
use Rattle.fields.specs.Rule.Word.{live, used, owner_at, pointing}
use Rattle.fields.specs.Laws.Each.{each_at, each_of}
use Rattle.fields.specs.Laws.Sound.{if_then, then_if, or_else, else_or, EmptyTab, EmptySeat, EmptyRow, TabHangs}
use Rattle.terms.specs.Names.{legal_options}

module _ (v : View) where
  pub empty_tab_lem : (s k : ℕ) → empty_tab v s k ≡ true → EmptyTab v s k
  unfolding empty_tab
  empty_tab_lem s k e =
      let a = eqb (v (serial s k)) 0 in
      let b = eqb (v (row s k)) 0 in
      let d = eqb (v (waiting s k)) 0 in
      record {
        serial0 = eqb-true (v (serial s k)) 0 (and_left a b (and_left (a && b) d e));
        row0 = eqb-true (v (row s k)) 0 (and_right a b (and_left (a && b) d e));
        waiting0 = eqb-true (v (waiting s k)) 0 (and_right (a && b) d e);
      }

  pub tab_empty : (s k : ℕ) → EmptyTab v s k → empty_tab v s k ≡ true
  unfolding empty_tab
  tab_empty s k w =
      rw (eq-eqb (v (serial s k)) 0 w.serial0, eq-eqb (v (row s k)) 0 w.row0, eq-eqb (v (waiting s k)) 0 w.waiting0)

  pub empty_seat_lem : (s : ℕ) → empty_seat v s ≡ true → EmptySeat v s
  unfolding empty_seat
  empty_seat_lem s e =
      let a = eqb (v (options s)) 0 in
      let b = eqb (v (selected s)) 0 in
      let d = eqb (v (opens s)) 0 in
      let f = eqb (v (slots s)) 0 in
      let g = each 10 (λ k. empty_tab v s k) in
      let e4 = and_left (a && b && d && f) g e in
      let e3 = and_left (a && b && d) f e4 in
      let e2 = and_left (a && b) d e3 in
      record {
        options0 = eqb-true (v (options s)) 0 (and_left a b e2);
        selected0 = eqb-true (v (selected s)) 0 (and_right a b e2);
        opens0 = eqb-true (v (opens s)) 0 (and_right (a && b) d e3);
        slots0 = eqb-true (v (slots s)) 0 (and_right (a && b && d) f e4);
        tabs0 = λ k r. empty_tab_lem s k (each_at 10 (λ k. empty_tab v s k) k (and_right (a && b && d && f) g e) r);
      }

  pub seat_empty : (s : ℕ) → EmptySeat v s → empty_seat v s ≡ true
  unfolding empty_seat
  seat_empty s w =
      rw (
        eq-eqb (v (options s)) 0 w.options0,
        eq-eqb (v (selected s)) 0 w.selected0,
        eq-eqb (v (opens s)) 0 w.opens0,
        eq-eqb (v (slots s)) 0 w.slots0,
      )
      (each_of 10 (λ k. empty_tab v s k) (λ k r. tab_empty s k (w.tabs0 k r)))

  pub empty_row_lem : (p : ℕ) → empty_row v p && eqb (v (tabs p)) 0 ≡ true → EmptyRow v p
  unfolding empty_row
  empty_row_lem p e =
      let a = eqb (v (owner p)) 0 in
      let b = eqb (v (size p)) 0 in
      let d = eqb (v (tabs p)) 0 in
      record {
        owner0 = eqb-true (v (owner p)) 0 (and_left a b (and_left (a && b) d e));
        size0 = eqb-true (v (size p)) 0 (and_right a b (and_left (a && b) d e));
        tabs0 = eqb-true (v (tabs p)) 0 (and_right (a && b) d e);
      }

  pub row_empty : (p : ℕ) → v (owner p) ≡ 0 → v (size p) ≡ 0 → empty_row v p ≡ true
  unfolding empty_row
  row_empty p a b = rw (eq-eqb (v (owner p)) 0 a, eq-eqb (v (size p)) 0 b)

  pub hangs_on : (s k : ℕ) → hangs v s k ≡ true → live v s k ≡ true → TabHangs v s k
  unfolding hangs
  hangs_on s k e h =
      let a = used v (v (row s k)) in
      let b = eqb (v (owner (v (row s k)))) (owner_at v s) in
      let f = if_then (live v s k) (a && b) e h in
      record { live_row = and_left a b f; own = eqb-true (v (owner (v (row s k)))) (owner_at v s) (and_right a b f) }

  pub on_hangs : (s k : ℕ) → (live v s k ≡ true → TabHangs v s k) → hangs v s k ≡ true
  unfolding hangs
  on_hangs s k h =
      let a = used v (v (row s k)) in
      let b = eqb (v (owner (v (row s k)))) (owner_at v s) in
      then_if (live v s k) (a && b)
      (λ e. and_both a b (h e).live_row (eq-eqb (v (owner (v (row s k)))) (owner_at v s) (h e).own))

  pub serial_apart : (s i k : ℕ) → same_serial v s i k ≡ false → live v s k ≡ true → v (serial s i) ≢ v (serial s k)
  unfolding same_serial
  serial_apart s i k e l z =
      let b = eqb (v (serial s i)) (v (serial s k)) in
      false≢true (sym e ∙ and_both (live v s k) b l (eq-eqb (v (serial s i)) (v (serial s k)) z))

  pub apart_serial : (s i k : ℕ) → (live v s k ≡ true → v (serial s i) ≢ v (serial s k)) → same_serial v s i k ≡ false
  unfolding same_serial
  apart_serial s i k h =
      cases (live v s k) (λ e. rw (e, ne_eqb (v (serial s i)) (v (serial s k)) (h e))) (λ e. rw e)

  pub number_apart : (q p : ℕ) → same_number v q p ≡ false → used v p ≡ true → v (number q) ≢ v (number p)
  unfolding same_number
  number_apart q p e l z =
      let b = eqb (v (number q)) (v (number p)) in
      false≢true (sym e ∙ and_both (used v p) b l (eq-eqb (v (number q)) (v (number p)) z))

  pub apart_number : (q p : ℕ) → (used v p ≡ true → v (number q) ≢ v (number p)) → same_number v q p ≡ false
  unfolding same_number
  apart_number q p h =
      cases (used v p) (λ e. rw (e, ne_eqb (v (number q)) (v (number p)) (h e))) (λ e. rw e)

  pub fill_at_lem : (p : ℕ) → filled v p ≡ true → (j : ℕ) → Range 1 64 j → v (size p) < j → v (letter p j) ≡ 0
  unfolding filled
  fill_at_lem p e j r l =
      eqb-true (v (letter p j)) 0
      (or_else (leb j (v (size p))) (eqb (v (letter p j)) 0)
      (each_at 64 (λ j. leb j (v (size p)) || eqb (v (letter p j)) 0) j e r)
      (lt-leb j (v (size p)) l))

  pub fill_of : (p : ℕ) → ((j : ℕ) → Range 1 64 j → v (size p) < j → v (letter p j) ≡ 0) → filled v p ≡ true
  unfolding filled
  fill_of p h =
      each_of 64 (λ j. leb j (v (size p)) || eqb (v (letter p j)) 0) (λ j r.
      else_or (leb j (v (size p))) (eqb (v (letter p j)) 0) (λ e. eq-eqb (v (letter p j)) 0 (h j r (leb-false j (v (size p)) e))))

  pub tenant_test : (s : ℕ) → seat_in_range v s ≡ true → leb (v (tenant s)) 99 ≡ true
  unfolding seat_in_range
  tenant_test s e =
      let a = leb (v (tenant s)) 99 in
      let b = legal_options (v (options s)) in
      and_left a b (and_left (a && b) (leb (v (selected s)) 10) e)

  pub legal_test : (s : ℕ) → seat_in_range v s ≡ true → legal_options (v (options s)) ≡ true
  unfolding seat_in_range
  legal_test s e =
      let a = leb (v (tenant s)) 99 in
      let b = legal_options (v (options s)) in
      and_right a b (and_left (a && b) (leb (v (selected s)) 10) e)

  pub selected_test : (s : ℕ) → seat_in_range v s ≡ true → leb (v (selected s)) 10 ≡ true
  unfolding seat_in_range
  selected_test s e = and_right (leb (v (tenant s)) 99 && legal_options (v (options s))) (leb (v (selected s)) 10) e

  pub seat_spare_lem : (s : ℕ) → seat_spare v s ≡ true → v (seat_zero s) ≡ 0
  unfolding seat_spare
  seat_spare_lem s e = eqb-true (v (seat_zero s)) 0 e

  pub row_spare_lem : (p : ℕ) → row_spare v p ≡ true → v (row_zero p) ≡ 0
  unfolding row_spare
  row_spare_lem p e = eqb-true (v (row_zero p)) 0 e

  pub not_let_at : (s : ℕ) → let_or_empty v s ≡ true → v (tenant s) ≡ 0 → EmptySeat v s
  unfolding let_or_empty
  not_let_at s e z = empty_seat_lem s (if_then (eqb (v (tenant s)) 0) (empty_seat v s) e (eq-eqb (v (tenant s)) 0 z))

  pub free_tab : (s k : ℕ) → live_or_empty v s k ≡ true → live v s k ≡ false → EmptyTab v s k
  unfolding live_or_empty
  free_tab s k e h = empty_tab_lem s k (or_else (live v s k) (empty_tab v s k) e h)

  pub free_row : (p : ℕ) → used_or_empty v p ≡ true → used v p ≡ false → EmptyRow v p
  unfolding used_or_empty
  free_row p e h = empty_row_lem p (or_else (used v p) (empty_row v p && eqb (v (tabs p)) 0) e h)

  pub map_at : (s : ℕ) → map_agrees v s ≡ true → v (slots s) ≡ bits 10 (λ k. live v s k)
  unfolding map_agrees
  map_at s e = eqb-true (v (slots s)) (bits 10 (λ k. live v s k)) e

  pub selected_at : (s : ℕ) → selected_live v s ≡ true → v (selected s) ≢ 0 → live v s (v (selected s)) ≡ true
  unfolding selected_live
  selected_at s e h = or_else (eqb (v (selected s)) 0) (live v s (v (selected s))) e (ne_eqb (v (selected s)) 0 h)

  pub serial_fits_lem : (s k : ℕ) → serial_fits v s k ≡ true → v (serial s k) ≤ v (opens s)
  unfolding serial_fits
  serial_fits_lem s k e = leb-true (v (serial s k)) (v (opens s)) e

  pub counted_at : (p : ℕ) → counted v p ≡ true → v (tabs p) ≡ pointing v p
  unfolding counted
  counted_at p e = eqb-true (v (tabs p)) (pointing v p) e

  pub has_tab_lem : (p : ℕ) → has_tab v p ≡ true → used v p ≡ true → 1 ≤ v (tabs p)
  unfolding has_tab
  has_tab_lem p e h = leb-true 1 (v (tabs p)) (if_then (used v p) (leb 1 (v (tabs p))) e h)

  pub number_fits_lem : (p : ℕ) → number_fits v p ≡ true → v (number p) ≤ v last
  unfolding number_fits
  number_fits_lem p e = leb-true (v (number p)) (v last) e

  pub last_fits_at : last_fits v ≡ true → v last ≤ sum 8 (λ s. v (opens s))
  unfolding last_fits
  last_fits_at e = leb-true (v last) (sum 8 (λ s. v (opens s))) e

  pub name_at_lem : (p : ℕ) → name_formed v p ≡ true → used v p ≡ true → good_name v p ≡ true
  unfolding name_formed
  name_at_lem p e h = if_then (used v p) (good_name v p) e h
