-- What the code has seen of a seat, a tab row and a process row that passed, taken apart. Assumes nothing.
use Rattle.std.specs.Prelude.{◌≡◌, true, false, ◌&&◌, ◌||◌, ℕ, ◌-◌, ◌≤◌, eqb}
use Rattle.std.proofs.Math.Path.{sym}
use Rattle.std.proofs.Common.{◌∙◌}
use Rattle.std.proofs.Math.Bool.{not}
use Rattle.std.proofs.Math.Dec.{leb}
use borrow.Author.Tests.{eqb-true, leb-true, not-true}
use Rattle.terms.specs.Laws.Bools.{and_left, and_right, or_fails}
use Rattle.terms.specs.Base.{Range}
use Rattle.fields.specs.Base.{each}
use Rattle.fields.specs.Rule.View.{View, waiting, owner, tabs, size}
use Rattle.fields.specs.Rule.Clause.{seat_in_range, opens_in_range, tab_in_range, seat_spare, row_spare, empty_row, let_or_empty}
use Rattle.fields.specs.Rule.Clause.{live_or_empty, filled, map_agrees, selected_live, same_serial, serial_fits, hangs, counted}
use Rattle.fields.specs.Rule.Clause.{same_number, number_fits, name_formed, same_pair, tab_formed, row_formed}
use Rattle.fields.specs.Rule.Word.{used}
use Rattle.fields.specs.Good.{tab_good, seat_good, tabs_true, clash, row_good}
use Rattle.fields.specs.Laws.Each.{each_at}

module _ (most : ℕ) (v : View) where
  pub record GoodTab (s k : ℕ) : Type 0 where
    pub waits : v (waiting s k) ≤ 3
    pub free : live_or_empty v s k ≡ true
    pub fits : serial_fits v s k ≡ true
    pub hang : hangs v s k ≡ true
    pub new : each (k - 1) (λ i. not (same_serial v s i k)) ≡ true

  pub good_tab : (s k : ℕ) → tab_good v s k ≡ true → GoodTab s k
  unfolding tab_good tab_formed tab_in_range
  good_tab s k e =
      let a = leb (v (waiting s k)) 3 in
      let b = live_or_empty v s k in
      let c = serial_fits v s k in
      let d = hangs v s k in
      let f = each (k - 1) (λ i. not (same_serial v s i k)) in
      let e2 = and_left (a && b && c && d) f e in
      let e3 = and_left (a && b && c) d e2 in
      let e4 = and_left (a && b) c e3 in
      record {
        waits = leb-true (v (waiting s k)) 3 (and_left a b e4);
        free = and_right a b e4;
        fits = and_right (a && b) c e3;
        hang = and_right (a && b && c) d e2;
        new = and_right (a && b && c && d) f e;
      }

  pub record GoodSeat (s : ℕ) : Type 0 where
    pub ranges : seat_in_range v s ≡ true
    pub opened : opens_in_range most v s ≡ true
    pub spare : seat_spare v s ≡ true
    pub unlet : let_or_empty v s ≡ true
    pub map : map_agrees v s ≡ true
    pub pick : selected_live v s ≡ true
    pub slots : (k : ℕ) → Range 1 10 k → GoodTab s k

  pub good_seat : (s : ℕ) → seat_good most v s ≡ true → GoodSeat s
  unfolding seat_good
  good_seat s e =
      let a = seat_in_range v s in
      let b = opens_in_range most v s in
      let c = seat_spare v s in
      let d = let_or_empty v s in
      let f = map_agrees v s in
      let g = selected_live v s in
      let h = each 10 (λ k. tab_good v s k) in
      let e6 = and_left (a && b && c && d && f && g) h e in
      let e5 = and_left (a && b && c && d && f) g e6 in
      let e4 = and_left (a && b && c && d) f e5 in
      let e3 = and_left (a && b && c) d e4 in
      let e2 = and_left (a && b) c e3 in
      record {
        ranges = and_left a b e2;
        opened = and_right a b e2;
        spare = and_right (a && b) c e3;
        unlet = and_right (a && b && c) d e4;
        map = and_right (a && b && c && d) f e5;
        pick = and_right (a && b && c && d && f) g e6;
        slots = λ k q. good_tab s k (each_at 10 (λ k. tab_good v s k) k (and_right (a && b && c && d && f && g) h e) q);
      }

  pub record GoodRow (p : ℕ) : Type 0 where
    pub spare : row_spare v p ≡ true
    pub empty : used v p || empty_row v p ≡ true
    pub fits : number_fits v p ≡ true
    pub name : name_formed v p ≡ true
    pub fill : filled v p ≡ true
    pub true_tabs : tabs_true v p ≡ true
    pub new : each (p - 1) (λ q. not (clash v q p)) ≡ true

  pub good_row : (p : ℕ) → row_good v p ≡ true → GoodRow p
  unfolding row_good row_formed
  good_row p e =
      let a = row_spare v p in
      let x = used v p || empty_row v p in
      let y = number_fits v p in
      let z = name_formed v p in
      let b = x && y && z in
      let c = filled v p in
      let d = tabs_true v p in
      let f = each (p - 1) (λ q. not (clash v q p)) in
      let e4 = and_left (a && b && c && d) f e in
      let e3 = and_left (a && b && c) d e4 in
      let e2 = and_left (a && b) c e3 in
      let formed = and_right a b e2 in
      record {
        spare = and_left a b e2;
        empty = and_left x y (and_left (x && y) z formed);
        fits = and_right x y (and_left (x && y) z formed);
        name = and_right (x && y) z formed;
        fill = and_right (a && b) c e3;
        true_tabs = and_right (a && b && c) d e4;
        new = and_right (a && b && c && d) f e;
      }

  pub used_true : (p : ℕ) → used v p ≡ true → tabs_true v p ≡ true → leb 1 (v (tabs p)) && counted v p ≡ true
  unfolding tabs_true
  used_true p u e = sym (rw u) ∙ e

  pub unused_true : (p : ℕ) → used v p ≡ false → tabs_true v p ≡ true → eqb (v (tabs p)) 0 ≡ true
  unfolding tabs_true
  unused_true p u e = sym (rw u) ∙ e

  pub no_clash : (q p : ℕ) → not (clash v q p) ≡ true → (same_number v q p ≡ false) × (same_pair v q p ≡ false)
  unfolding clash
  no_clash q p e = or_fails (same_number v q p) (same_pair v q p) (not-true (same_number v q p || same_pair v q p) e)

  pub empty_owner : (p : ℕ) → empty_row v p ≡ true → v (owner p) ≡ 0
  unfolding empty_row
  empty_owner p e = eqb-true (v (owner p)) 0 (and_left (eqb (v (owner p)) 0) (eqb (v (size p)) 0) e)

  pub empty_size : (p : ℕ) → empty_row v p ≡ true → v (size p) ≡ 0
  unfolding empty_row
  empty_size p e = eqb-true (v (size p)) 0 (and_right (eqb (v (owner p)) 0) (eqb (v (size p)) 0) e)
