-- The test of soundness and the record of facts agree. Assumes nothing.
use Rattle.std.specs.Prelude.{◌≡◌, Bool, true, ◌&&◌, ℕ}
use Rattle.std.proofs.Math.Dec.{leb}
use borrow.Author.Tests.{leb-true}
use Rattle.terms.specs.Laws.Bools.{and_left, and_right}
use Rattle.terms.specs.Base.{Range}
use Rattle.fields.specs.Base.{each, no_two}
use Rattle.fields.specs.Rule.View.{View, tenant, selected, opens, waiting}
use Rattle.fields.specs.Rule.Clause.{seat_in_range, opens_in_range, tab_in_range, seat_spare, row_spare, let_or_empty, live_or_empty}
use Rattle.fields.specs.Rule.Clause.{used_or_empty, filled, map_agrees, selected_live, same_serial, serial_fits, hangs, counted}
use Rattle.fields.specs.Rule.Clause.{has_tab, same_number, number_fits, last_fits, name_formed, same_pair}
use Rattle.fields.specs.Rule.Sound.{fields_in_range, spares_zero, maps_agree, serials_apart, tabs_hang, counts_true}
use Rattle.fields.specs.Rule.Sound.{numbers_apart, names_formed, pairs_apart, sound}
use Rattle.fields.specs.Laws.Each.{each_at, each_of, two_at}
use Rattle.fields.specs.Laws.Sound.{Sound}
use Rattle.fields.specs.Laws.Clause.{hangs_on, serial_apart, number_apart, fill_at_lem, seat_spare_lem, row_spare_lem, not_let_at}
use Rattle.fields.specs.Laws.Clause.{free_tab, free_row, map_at, selected_at, serial_fits_lem, counted_at, has_tab_lem}
use Rattle.fields.specs.Laws.Clause.{number_fits_lem, last_fits_at, name_at_lem, tenant_test, legal_test, selected_test}

-- of all seats and slots
pub grid_at : (m n : ℕ) (f : ℕ → ℕ → Bool) (s k : ℕ) → each m (λ s. each n (λ k. f s k)) ≡ true → Range 1 m s
    → Range 1 n k → f s k ≡ true
grid_at m n f s k e r q = each_at n (λ k. f s k) k (each_at m (λ s. each n (λ k. f s k)) s e r) q

pub grid_of : (m n : ℕ) (f : ℕ → ℕ → Bool) → ((s k : ℕ) → Range 1 m s → Range 1 n k → f s k ≡ true)
    → each m (λ s. each n (λ k. f s k)) ≡ true
grid_of m n f h = each_of m (λ s. each n (λ k. f s k)) (λ s r. each_of n (λ k. f s k) (λ k q. h s k r q))

-- the nine parts of the test
record Parts (most : ℕ) (v : View) : Type 0 where
  fields : fields_in_range most v ≡ true
  spares : spares_zero v ≡ true
  maps : maps_agree v ≡ true
  serials : serials_apart v ≡ true
  hang : tabs_hang v ≡ true
  counts : counts_true v ≡ true
  numbers : numbers_apart v ≡ true
  names : names_formed v ≡ true
  pairs : pairs_apart v ≡ true

module _ (most : ℕ) (v : View) where
  parts : sound most v ≡ true → Parts most v
  unfolding sound
  parts e9 =
      let a = fields_in_range most v in
      let b = spares_zero v in
      let c = maps_agree v in
      let d = serials_apart v in
      let f = tabs_hang v in
      let g = counts_true v in
      let h = numbers_apart v in
      let i = names_formed v in
      let j = pairs_apart v in
      let e8 = and_left (a && b && c && d && f && g && h && i) j e9 in
      let e7 = and_left (a && b && c && d && f && g && h) i e8 in
      let e6 = and_left (a && b && c && d && f && g) h e7 in
      let e5 = and_left (a && b && c && d && f) g e6 in
      let e4 = and_left (a && b && c && d) f e5 in
      let e3 = and_left (a && b && c) d e4 in
      let e2 = and_left (a && b) c e3 in
      record {
        fields = and_left a b e2;
        spares = and_right a b e2;
        maps = and_right (a && b) c e3;
        serials = and_right (a && b && c) d e4;
        hang = and_right (a && b && c && d) f e5;
        counts = and_right (a && b && c && d && f) g e6;
        numbers = and_right (a && b && c && d && f && g) h e7;
        names = and_right (a && b && c && d && f && g && h) i e8;
        pairs = and_right (a && b && c && d && f && g && h && i) j e9;
      }

  -- ---- from the test to the facts

  seat_tests : fields_in_range most v ≡ true → (s : ℕ) → Range 1 8 s → seat_in_range v s ≡ true
  unfolding fields_in_range
  seat_tests e =
      let a = each 8 (λ s. seat_in_range v s) in
      let b = each 8 (λ s. opens_in_range most v s) in
      let d = each 8 (λ s. each 10 (λ k. tab_in_range v s k)) in
      λ s r. each_at 8 (λ s. seat_in_range v s) s (and_left a b (and_left (a && b) d e)) r

  opens_test : fields_in_range most v ≡ true → (s : ℕ) → Range 1 8 s → leb (v (opens s)) most ≡ true
  unfolding fields_in_range opens_in_range
  opens_test e =
      let a = each 8 (λ s. seat_in_range v s) in
      let b = each 8 (λ s. leb (v (opens s)) most) in
      let d = each 8 (λ s. each 10 (λ k. tab_in_range v s k)) in
      λ s r. each_at 8 (λ s. leb (v (opens s)) most) s (and_right a b (and_left (a && b) d e)) r

  waiting_test : fields_in_range most v ≡ true → (s k : ℕ) → Range 1 8 s → Range 1 10 k → leb (v (waiting s k)) 3 ≡ true
  unfolding fields_in_range tab_in_range
  waiting_test e =
      let a = each 8 (λ s. seat_in_range v s) in
      let b = each 8 (λ s. opens_in_range most v s) in
      let d = each 8 (λ s. each 10 (λ k. leb (v (waiting s k)) 3)) in
      λ s k r q. grid_at 8 10 (λ s k. leb (v (waiting s k)) 3) s k (and_right (a && b) d e) r q

  record Spares : Type 0 where
    seats : each 8 (λ s. seat_spare v s) ≡ true
    rows : each 80 (λ p. row_spare v p) ≡ true
    unlet : each 8 (λ s. let_or_empty v s) ≡ true
    free_tabs : each 8 (λ s. each 10 (λ k. live_or_empty v s k)) ≡ true
    free_rows : each 80 (λ p. used_or_empty v p) ≡ true
    fills : each 80 (λ p. filled v p) ≡ true

  spare_parts : spares_zero v ≡ true → Spares
  unfolding spares_zero
  spare_parts e6 =
      let a = each 8 (λ s. seat_spare v s) in
      let b = each 80 (λ p. row_spare v p) in
      let c = each 8 (λ s. let_or_empty v s) in
      let d = each 8 (λ s. each 10 (λ k. live_or_empty v s k)) in
      let f = each 80 (λ p. used_or_empty v p) in
      let g = each 80 (λ p. filled v p) in
      let e5 = and_left (a && b && c && d && f) g e6 in
      let e4 = and_left (a && b && c && d) f e5 in
      let e3 = and_left (a && b && c) d e4 in
      let e2 = and_left (a && b) c e3 in
      record {
        seats = and_left a b e2;
        rows = and_right a b e2;
        unlet = and_right (a && b) c e3;
        free_tabs = and_right (a && b && c) d e4;
        free_rows = and_right (a && b && c && d) f e5;
        fills = and_right (a && b && c && d && f) g e6;
      }

  pub facts : sound most v ≡ true → Sound most v
  unfolding maps_agree serials_apart tabs_hang counts_true numbers_apart names_formed pairs_apart
  facts e =
      let p = parts e in
      let z = spare_parts p.spares in
      let maps = each 8 (λ s. map_agrees v s) in
      let picks = each 8 (λ s. selected_live v s) in
      let aparts = each 8 (λ s. no_two 10 (λ i k. same_serial v s i k)) in
      let fits = each 8 (λ s. each 10 (λ k. serial_fits v s k)) in
      let trues = each 80 (λ p. counted v p) in
      let somes = each 80 (λ p. has_tab v p) in
      let nums = no_two 80 (λ q p. same_number v q p) in
      let below = each 80 (λ p. number_fits v p) in
      record {
        tenants = λ s r. leb-true (v (tenant s)) 99 (tenant_test v s (seat_tests p.fields s r));
        legal = λ s r. legal_test v s (seat_tests p.fields s r);
        selections = λ s r. leb-true (v (selected s)) 10 (selected_test v s (seat_tests p.fields s r));
        opens_fit = λ s r. leb-true (v (opens s)) most (opens_test p.fields s r);
        waits = λ s k r q. leb-true (v (waiting s k)) 3 (waiting_test p.fields s k r q);
        seats_spare = λ s r. seat_spare_lem v s (each_at 8 (λ s. seat_spare v s) s z.seats r);
        rows_spare = λ q r. row_spare_lem v q (each_at 80 (λ p. row_spare v p) q z.rows r);
        not_let = λ s r h. not_let_at v s (each_at 8 (λ s. let_or_empty v s) s z.unlet r) h;
        free_tabs = λ s k r q h. free_tab v s k (grid_at 8 10 (λ s k. live_or_empty v s k) s k z.free_tabs r q) h;
        free_rows = λ q r h. free_row v q (each_at 80 (λ p. used_or_empty v p) q z.free_rows r) h;
        fill = λ q j r i l. fill_at_lem v q (each_at 80 (λ p. filled v p) q z.fills r) j i l;
        map_agrees = λ s r. map_at v s (each_at 8 (λ s. map_agrees v s) s (and_left maps picks p.maps) r);
        selected_live = λ s r h. selected_at v s (each_at 8 (λ s. selected_live v s) s (and_right maps picks p.maps) r) h;
        serials_apart = λ s i k r a b d h.
            serial_apart v s i k
            (two_at 10 (λ i k. same_serial v s i k) i k
            (each_at 8 (λ s. no_two 10 (λ i k. same_serial v s i k)) s (and_left aparts fits p.serials) r) a b d)
            h;
        serials_fit = λ s k r q.
            serial_fits_lem v s k (grid_at 8 10 (λ s k. serial_fits v s k) s k (and_right aparts fits p.serials) r q);
        tabs_hang = λ s k r q h. hangs_on v s k (grid_at 8 10 (λ s k. hangs v s k) s k p.hang r q) h;
        counts = λ q r. counted_at v q (each_at 80 (λ p. counted v p) q (and_left trues somes p.counts) r);
        some_tab = λ q r h. has_tab_lem v q (each_at 80 (λ p. has_tab v p) q (and_right trues somes p.counts) r) h;
        numbers_apart = λ q i a b d h.
            number_apart v q i
            (two_at 80 (λ q p. same_number v q p) q i (and_left nums below (and_left (nums && below) (last_fits v) p.numbers))
            a b d) h;
        numbers_fit = λ q r.
            number_fits_lem v q
            (each_at 80 (λ p. number_fits v p) q (and_right nums below (and_left (nums && below) (last_fits v) p.numbers)) r);
        last_fits = last_fits_at v (and_right (nums && below) (last_fits v) p.numbers);
        names = λ q r h. name_at_lem v q (each_at 80 (λ p. name_formed v p) q p.names r) h;
        pairs_apart_lem = λ q i a b d. two_at 80 (λ q p. same_pair v q p) q i p.pairs a b d;
      }
