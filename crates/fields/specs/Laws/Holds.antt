-- A sound table passes each clause of the test, and so the test: the other half of Facts. Assumes nothing.
use Rattle.std.specs.Prelude.{◌≡◌, true, false, ◌&&◌, ℕ, ◌≤◌, ◌<◌, leb}
use Rattle.std.proofs.Math.Dec.{eqb}
use borrow.Author.Tests.{eq-eqb, eqb-true, le-leb, eqb-false}
use Rattle.terms.specs.Laws.Bools.{and_both}
use Rattle.terms.specs.Base.{Range}
use Rattle.fields.specs.Base.{no_two, sum, bits}
use Rattle.fields.specs.Rule.View.{View, tenant, selected, seat_zero, opens, slots, serial, waiting, number, tabs, row_zero}
use Rattle.fields.specs.Rule.View.{last}
use Rattle.fields.specs.Rule.Clause.{seat_in_range, opens_in_range, tab_in_range, seat_spare, row_spare, empty_tab, empty_seat}
use Rattle.fields.specs.Rule.Clause.{let_or_empty, live_or_empty, empty_row, used_or_empty, filled, map_agrees, selected_live}
use Rattle.fields.specs.Rule.Clause.{same_serial, serial_fits, hangs, counted, has_tab, same_number, number_fits, last_fits}
use Rattle.fields.specs.Rule.Clause.{good_name, name_formed, same_pair}
use Rattle.fields.specs.Rule.Word.{live, used, pointing}
use Rattle.fields.specs.Rule.Sound.{fields_in_range, spares_zero, maps_agree, serials_apart, tabs_hang, counts_true}
use Rattle.fields.specs.Rule.Sound.{numbers_apart, names_formed, pairs_apart, sound}
use Rattle.fields.specs.Laws.Each.{each_of, two_of}
use Rattle.fields.specs.Laws.Sound.{then_if, else_or, Sound}
use Rattle.fields.specs.Laws.Clause.{tab_empty, seat_empty, row_empty, on_hangs, apart_serial, apart_number, fill_of}
use Rattle.fields.specs.Laws.Facts.{grid_of}

module _ (most : ℕ) (v : View) (w : Sound most v) where
  pub seat_in_range_lem : (s : ℕ) → Range 1 8 s → seat_in_range v s ≡ true
  unfolding seat_in_range
  seat_in_range_lem s r =
      rw (le-leb (v (tenant s)) 99 (w.tenants s r), w.legal s r, le-leb (v (selected s)) 10 (w.selections s r))

  pub opens_in_range_lem : (s : ℕ) → Range 1 8 s → opens_in_range most v s ≡ true
  unfolding opens_in_range
  opens_in_range_lem s r = le-leb (v (opens s)) most (w.opens_fit s r)

  pub tab_in_range_lem : (s k : ℕ) → Range 1 8 s → Range 1 10 k → tab_in_range v s k ≡ true
  unfolding tab_in_range
  tab_in_range_lem s k r q = le-leb (v (waiting s k)) 3 (w.waits s k r q)

  pub seat_is_spare : (s : ℕ) → Range 1 8 s → seat_spare v s ≡ true
  unfolding seat_spare
  seat_is_spare s r = eq-eqb (v (seat_zero s)) 0 (w.seats_spare s r)

  pub row_is_spare : (p : ℕ) → Range 1 80 p → row_spare v p ≡ true
  unfolding row_spare
  row_is_spare p r = eq-eqb (v (row_zero p)) 0 (w.rows_spare p r)

  pub seat_let_or_empty : (s : ℕ) → Range 1 8 s → let_or_empty v s ≡ true
  unfolding let_or_empty
  seat_let_or_empty s r =
      then_if (eqb (v (tenant s)) 0) (empty_seat v s) (λ e. seat_empty v s (w.not_let s r (eqb-true (v (tenant s)) 0 e)))

  pub tab_live_or_empty : (s k : ℕ) → Range 1 8 s → Range 1 10 k → live_or_empty v s k ≡ true
  unfolding live_or_empty
  tab_live_or_empty s k r q = else_or (live v s k) (empty_tab v s k) (λ e. tab_empty v s k (w.free_tabs s k r q e))

  pub row_is_empty : (p : ℕ) → Range 1 80 p → used v p ≡ false → empty_row v p ≡ true
  row_is_empty p r e = row_empty v p (w.free_rows p r e).owner0 (w.free_rows p r e).size0

  pub row_used_or_empty : (p : ℕ) → Range 1 80 p → used_or_empty v p ≡ true
  unfolding used_or_empty
  row_used_or_empty p r =
      else_or (used v p) (empty_row v p && eqb (v (tabs p)) 0)
      (λ e. and_both (empty_row v p) (eqb (v (tabs p)) 0) (row_is_empty p r e) (eq-eqb (v (tabs p)) 0 (w.free_rows p r e).tabs0))

  pub row_is_filled : (p : ℕ) → Range 1 80 p → filled v p ≡ true
  row_is_filled p r = fill_of v p (λ j q l. w.fill p j r q l)

  pub map_is : (s : ℕ) → Range 1 8 s → map_agrees v s ≡ true
  unfolding map_agrees
  map_is s r = eq-eqb (v (slots s)) (bits 10 (λ k. live v s k)) (w.map_agrees s r)

  pub selected_is : (s : ℕ) → Range 1 8 s → selected_live v s ≡ true
  unfolding selected_live
  selected_is s r =
      else_or (eqb (v (selected s)) 0) (live v s (v (selected s))) (λ e. w.selected_live s r (eqb-false (v (selected s)) 0 e))

  pub serial_is_new : (s i k : ℕ) → Range 1 8 s → 1 ≤ i → i < k → k ≤ 10 → same_serial v s i k ≡ false
  serial_is_new s i k r a b d = apart_serial v s i k (w.serials_apart s i k r a b d)

  pub serial_is_fit : (s k : ℕ) → Range 1 8 s → Range 1 10 k → serial_fits v s k ≡ true
  unfolding serial_fits
  serial_is_fit s k r q = le-leb (v (serial s k)) (v (opens s)) (w.serials_fit s k r q)

  pub tab_hangs : (s k : ℕ) → Range 1 8 s → Range 1 10 k → hangs v s k ≡ true
  tab_hangs s k r q = on_hangs v s k (w.tabs_hang s k r q)

  pub count_is : (p : ℕ) → Range 1 80 p → counted v p ≡ true
  unfolding counted
  count_is p r = eq-eqb (v (tabs p)) (pointing v p) (w.counts p r)

  pub tab_is_there : (p : ℕ) → Range 1 80 p → has_tab v p ≡ true
  unfolding has_tab
  tab_is_there p r = then_if (used v p) (leb 1 (v (tabs p))) (λ e. le-leb 1 (v (tabs p)) (w.some_tab p r e))

  pub number_is_new : (q p : ℕ) → 1 ≤ q → q < p → p ≤ 80 → same_number v q p ≡ false
  number_is_new q p a b d = apart_number v q p (w.numbers_apart q p a b d)

  pub number_is_fit : (p : ℕ) → Range 1 80 p → number_fits v p ≡ true
  unfolding number_fits
  number_is_fit p r = le-leb (v (number p)) (v last) (w.numbers_fit p r)

  pub last_is_fit : last_fits v ≡ true
  unfolding last_fits
  last_is_fit = le-leb (v last) (sum 8 (λ s. v (opens s))) w.last_fits

  pub name_is_formed : (p : ℕ) → Range 1 80 p → name_formed v p ≡ true
  unfolding name_formed
  name_is_formed p r = then_if (used v p) (good_name v p) (λ e. w.names p r e)

  pub sound_of : sound most v ≡ true
  unfolding sound fields_in_range spares_zero maps_agree serials_apart tabs_hang counts_true numbers_apart names_formed pairs_apart
  sound_of =
      rw (
        each_of 8 (λ s. seat_in_range v s) seat_in_range_lem,
        each_of 8 (λ s. opens_in_range most v s) opens_in_range_lem,
        grid_of 8 10 (λ s k. tab_in_range v s k) tab_in_range_lem,
        each_of 8 (λ s. seat_spare v s) seat_is_spare,
        each_of 80 (λ p. row_spare v p) row_is_spare,
        each_of 8 (λ s. let_or_empty v s) seat_let_or_empty,
        grid_of 8 10 (λ s k. live_or_empty v s k) tab_live_or_empty,
        each_of 80 (λ p. used_or_empty v p) row_used_or_empty,
        each_of 80 (λ p. filled v p) row_is_filled,
        each_of 8 (λ s. map_agrees v s) map_is,
        each_of 8 (λ s. selected_live v s) selected_is,
        each_of 8 (λ s. no_two 10 (λ i k. same_serial v s i k))
            (λ s r. two_of 10 (λ i k. same_serial v s i k) (λ i k a b d. serial_is_new s i k r a b d)),
        grid_of 8 10 (λ s k. serial_fits v s k) serial_is_fit,
        grid_of 8 10 (λ s k. hangs v s k) tab_hangs,
        each_of 80 (λ p. counted v p) count_is,
        each_of 80 (λ p. has_tab v p) tab_is_there,
        two_of 80 (λ q p. same_number v q p) number_is_new,
        each_of 80 (λ p. number_fits v p) number_is_fit,
        last_is_fit,
        each_of 80 (λ p. name_formed v p) name_is_formed,
        two_of 80 (λ q p. same_pair v q p) w.pairs_apart_lem,
      )
