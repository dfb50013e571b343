-- The code's way through a table is the document's `sound`. Assumes nothing.
use Rattle.std.specs.Prelude.{◌≡◌, true, false, ◌&&◌, ℕ, ◌-◌, ◌≤◌, ◌<◌, leb}
use Rattle.std.proofs.Common.{sym, ◌∙◌, arith}
use Rattle.std.proofs.Math.Path.{ap}
use Rattle.std.proofs.Math.Bool.{not, false≢true}
use borrow.Author.Tests.{eq-eqb, ne_eqb, eqb-true, le-leb, leb-true, not-true}
use Rattle.terms.specs.Laws.Bools.{and_left, and_right, agree, cases}
use Rattle.terms.specs.Base.{Range}
use Rattle.fields.specs.Base.{each, count, one}
use Rattle.fields.specs.Rule.View.{View, tenant, selected, opens, row, tabs}
use Rattle.fields.specs.Rule.Clause.{opens_in_range, empty_row, same_serial, counted, same_number, last_fits, same_pair}
use Rattle.fields.specs.Rule.Clause.{tab_formed, row_formed}
use Rattle.fields.specs.Rule.Word.{live, used, points, pointing}
use Rattle.fields.specs.Rule.Sound.{sound}
use Rattle.fields.specs.Good.{tab_good, seat_good, tabs_true, clash, row_good, good}
use Rattle.fields.specs.Laws.Each.{range, each_at, each_of}
use Rattle.fields.specs.Laws.Sum.{sum_nil}
use Rattle.fields.specs.Laws.Sound.{or_else, else_or, EmptyRow, Sound}
use Rattle.fields.specs.Laws.Clause.{hangs_on, serial_apart, number_apart, fill_at_lem, tenant_test, legal_test}
use Rattle.fields.specs.Laws.Clause.{selected_test, seat_spare_lem, row_spare_lem, not_let_at, free_tab, map_at, selected_at}
use Rattle.fields.specs.Laws.Clause.{serial_fits_lem, counted_at, number_fits_lem, last_fits_at, name_at_lem}
use Rattle.fields.specs.Laws.Facts.{facts}
use Rattle.fields.specs.Laws.Holds.{seat_in_range_lem, opens_in_range_lem, tab_in_range_lem, seat_is_spare, row_is_spare}
use Rattle.fields.specs.Laws.Holds.{seat_let_or_empty, tab_live_or_empty, row_is_empty, row_is_filled, map_is}
use Rattle.fields.specs.Laws.Holds.{selected_is, serial_is_new, serial_is_fit, tab_hangs, count_is, number_is_new}
use Rattle.fields.specs.Laws.Holds.{number_is_fit, last_is_fit, name_is_formed, sound_of}
use Rattle.fields.specs.Laws.GoodParts.{GoodSeat, good_seat, GoodRow, good_row, used_true, unused_true, no_clash}
use Rattle.fields.specs.Laws.GoodParts.{empty_owner, empty_size}

module _ (most : ℕ) (v : View) where
  -- ---- a sound table is good

  module _ (w : Sound most v) where
    tab_good_lem : (s k : ℕ) → Range 1 8 s → Range 1 10 k → tab_good v s k ≡ true
    unfolding tab_good tab_formed
    tab_good_lem s k r q =
        let b = q.high in
        rw (
          tab_in_range_lem most v w s k r q,
          tab_live_or_empty most v w s k r q,
          serial_is_fit most v w s k r q,
          tab_hangs most v w s k r q,
        )
        (each_of (k - 1) (λ i. not (same_serial v s i k))
        (λ i m. let a = m.low in let d = m.high in ap not (serial_is_new most v w s i k r a (omega arith) b)))

    seat_good_lem : (s : ℕ) → Range 1 8 s → seat_good most v s ≡ true
    unfolding seat_good
    seat_good_lem s r =
        rw (
          seat_in_range_lem most v w s r,
          opens_in_range_lem most v w s r,
          seat_is_spare most v w s r,
          seat_let_or_empty most v w s r,
          map_is most v w s r,
          selected_is most v w s r,
        )
        (each_of 10 (λ k. tab_good v s k) (λ k q. tab_good_lem s k r q))

    tabs_true_lem : (p : ℕ) → Range 1 80 p → tabs_true v p ≡ true
    unfolding tabs_true
    tabs_true_lem p r =
        cases (used v p)
        (λ e. rw (e, le-leb 1 (v (tabs p)) (w.some_tab p r e), count_is most v w p r))
        (λ e. rw (e, eq-eqb (v (tabs p)) 0 (w.free_rows p r e).tabs0))

    row_new : (p : ℕ) → Range 1 80 p → each (p - 1) (λ q. not (clash v q p)) ≡ true
    unfolding clash
    row_new p r =
        let b = r.high in
        each_of (p - 1) (λ q. not (clash v q p))
        (λ q m. let a = m.low in let d = m.high in
        rw (number_is_new most v w q p a (omega arith) b, w.pairs_apart_lem q p a (omega arith) b))

    row_formed_lem : (p : ℕ) → Range 1 80 p → row_formed v p ≡ true
    unfolding row_formed
    row_formed_lem p r =
        rw (else_or (used v p) (empty_row v p) (row_is_empty most v w p r), number_is_fit most v w p r, name_is_formed most v w p r)

    row_good_lem : (p : ℕ) → Range 1 80 p → row_good v p ≡ true
    unfolding row_good
    row_good_lem p r = rw (row_is_spare most v w p r, row_formed_lem p r, row_is_filled most v w p r, tabs_true_lem p r) (row_new p r)

    good_of : good most v ≡ true
    unfolding good
    good_of = rw (each_of 8 (λ s. seat_good most v s) seat_good_lem, last_is_fit most v w) (each_of 80 (λ p. row_good v p) row_good_lem)

  -- ---- a good table is sound

  module _ (seat : (s : ℕ) → Range 1 8 s → GoodSeat most v s) (lasts : last_fits v ≡ true)
      (rows : (p : ℕ) → Range 1 80 p → GoodRow most v p) where
    -- where every live tab hangs on a live row, none points at a free one
    no_point : (p s k : ℕ) → Range 1 8 s → Range 1 10 k → used v p ≡ false → points v p s k ≡ false
    unfolding points
    no_point p s k r q u =
        cases (live v s k)
        (λ l. rw l
        (ne_eqb (v (row s k)) p
        (λ e. false≢true (sym u ∙ ap (used v) (sym e) ∙ (hangs_on v s k ((seat s r).slots k q).hang l).live_row))))
        (λ l. rw l)

    unpointed : (p : ℕ) → used v p ≡ false → pointing v p ≡ 0
    unfolding pointing count one
    unpointed p u =
        sum_nil 8 (λ s. count 10 (λ k. points v p s k))
        (λ s r. sum_nil 10 (λ k. one (points v p s k)) (λ k q. ap one (no_point p s k r q u)))

    good_empty : (p : ℕ) → Range 1 80 p → used v p ≡ false → EmptyRow v p
    good_empty p r u =
        let e = or_else (used v p) (empty_row v p) (rows p r).empty u in
        record {
          owner0 = empty_owner most v p e;
          size0 = empty_size most v p e;
          tabs0 = eqb-true (v (tabs p)) 0 (unused_true most v p u (rows p r).true_tabs);
        }

    good_count : (p : ℕ) → Range 1 80 p → v (tabs p) ≡ pointing v p
    good_count p r =
        cases (used v p)
        (λ u. counted_at v p (and_right (leb 1 (v (tabs p))) (counted v p) (used_true most v p u (rows p r).true_tabs)))
        (λ u. (good_empty p r u).tabs0 ∙ sym (unpointed p u))

    lower : (q p : ℕ) → 1 ≤ q → q < p → p ≤ 80 → (same_number v q p ≡ false) × (same_pair v q p ≡ false)
    lower q p a b d =
        no_clash most v q p
        (each_at (p - 1) (λ q. not (clash v q p)) q (rows p (range (omega arith) d)).new (range a (omega arith)))

    good_facts : Sound most v
    unfolding opens_in_range
    good_facts =
        record {
          tenants = λ s r. leb-true (v (tenant s)) 99 (tenant_test v s (seat s r).ranges);
          legal = λ s r. legal_test v s (seat s r).ranges;
          selections = λ s r. leb-true (v (selected s)) 10 (selected_test v s (seat s r).ranges);
          opens_fit = λ s r. leb-true (v (opens s)) most (seat s r).opened;
          waits = λ s k r q. ((seat s r).slots k q).waits;
          seats_spare = λ s r. seat_spare_lem v s (seat s r).spare;
          rows_spare = λ p r. row_spare_lem v p (rows p r).spare;
          not_let = λ s r h. not_let_at v s (seat s r).unlet h;
          free_tabs = λ s k r q h. free_tab v s k ((seat s r).slots k q).free h;
          free_rows = good_empty;
          fill = λ p j r q l. fill_at_lem v p (rows p r).fill j q l;
          map_agrees = λ s r. map_at v s (seat s r).map;
          selected_live = λ s r h. selected_at v s (seat s r).pick h;
          serials_apart = λ s i k r a b d h.
              serial_apart v s i k
              (not-true (same_serial v s i k)
              (each_at (k - 1) (λ i. not (same_serial v s i k)) i ((seat s r).slots k (range (omega arith) d)).new
              (range a (omega arith))))
              h;
          serials_fit = λ s k r q. serial_fits_lem v s k ((seat s r).slots k q).fits;
          tabs_hang = λ s k r q h. hangs_on v s k ((seat s r).slots k q).hang h;
          counts = good_count;
          some_tab = λ p r u.
              leb-true 1 (v (tabs p))
              (and_left (leb 1 (v (tabs p))) (counted v p) (used_true most v p u (rows p r).true_tabs));
          numbers_apart = λ q p a b d h. number_apart v q p (lower q p a b d).0 h;
          numbers_fit = λ p r. number_fits_lem v p (rows p r).fits;
          last_fits = last_fits_at v lasts;
          names = λ p r h. name_at_lem v p (rows p r).name h;
          pairs_apart_lem = λ q p a b d. (lower q p a b d).1;
        }

  good_sound : good most v ≡ true → Sound most v
  unfolding good
  good_sound e =
      let a = each 8 (λ s. seat_good most v s) in
      let b = last_fits v in
      let d = each 80 (λ p. row_good v p) in
      let e2 = and_left (a && b) d e in
      good_facts
      (λ s r. good_seat most v s (each_at 8 (λ s. seat_good most v s) s (and_left a b e2) r))
      (and_right a b e2)
      (λ p r. good_row most v p (each_at 80 (λ p. row_good v p) p (and_right (a && b) d e) r))

  pub sound_good : sound most v ≡ good most v
  sound_good = agree (sound most v) (good most v) (λ e. good_of (facts most v e)) (λ e. sound_of most v (good_sound e))
