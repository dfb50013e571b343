-- A close keeps a table sound, whether the process keeps other tabs or ends with this one. Assumes nothing.
use Rattle.std.specs.Prelude.{◌≡◌, true, false, ◌≢◌, ℕ, ◌-◌, ◌≤◌}
use Rattle.std.proofs.Common.{sym, ◌∙◌}
use Rattle.std.proofs.Math.Path.{ap}
use Rattle.std.proofs.lemmas.Bool.{false≢true}
use native.Mathlib.Omega.{arith}
use Rattle.terms.specs.Base.{Range}
use Rattle.fields.specs.Base.{one}
use Rattle.fields.specs.Rule.View.{View, row, tabs}
use Rattle.fields.specs.Rule.Word.{live, used, points, pointing}
use Rattle.fields.specs.Rule.Update.{unhanging, clearing}
use Rattle.fields.specs.Change.{changes}
use Rattle.fields.specs.Laws.Sound.{Sound, zero_unused}
use Rattle.fields.specs.Laws.Seats.{Elsewhere, live=}
use Rattle.fields.specs.Laws.Rows.{KeptRow, RowChanged, RowNow, used=, same_now}
use Rattle.fields.specs.Laws.Points.{points_is, points_free, pointing_part}
use Rattle.fields.specs.Laws.Links.{Linked, pointing_moved, rows_of, kept}
use Rattle.fields.specs.Laws.Still.{still_refl}
use Rattle.fields.specs.Laws.Close.{Unhung, unhung_fields, Cleared, cleared_fields}
use Rattle.fields.specs.Laws.Leave.{close_changed, close_free, close_formed, opens_sum_same}

-- ---- the row keeps other tabs

module _ (most : ℕ) (v : View) (s k p : ℕ) (w : Sound most v) (seat : Range 1 8 s) (slot : Range 1 10 k) (there : live v s k ≡ true)
    (on : v (row s k) ≡ p) (row_in : Range 1 80 p) where
  abbrev left : View
  left = changes v (unhanging v s k p)

  off : Unhung v left s k p
  off = unhung_fields v s k p

  used_was : used v p ≡ true
  used_was = ap (used v) (sym on) ∙ (w.tabs_hang s k seat slot there).live_row

  point_was : points v p s k ≡ true
  point_was = points_is v p s k there on

  left_row : RowChanged v left p
  left_row =
      record { row_zero= = off.rows.row_zero=; others = λ q h. off.rows.same q; grown = let a = off.rows.last= in omega arith }

  module _ (more : v (tabs p) ≢ 1) where
    left_linked : Linked v left s k p
    unfolding one
    left_linked =
        let x = off.rows.same p in
        let some = w.some_tab p row_in used_was in
        let d = off.tabs! in
        let f = close_free most v left s k p w seat slot there (still_refl left) in
        record {
          row_in = row_in;
          tabs= = off.tabs=;
          was = λ e. on;
          now = λ e. absurd (false≢true (sym f ∙ e));
          now_used = λ e. absurd (false≢true (sym f ∙ e));
          now_own = λ e. absurd (false≢true (sym f ∙ e));
          others_hold = λ r j a b e g z. record { row_used = used= v left p x ∙ used_was; row_own = x.owner= };
          moved =
              let a : one (points v p s k) ≡ 1 = ap one point_was in
              let b : one (points left p s k) ≡ 0 = ap one (points_free left p s k f) in
              omega arith;
          some = λ e. at_least_two (v (tabs p)) (left (tabs p)) more some d;
          none = λ e. absurd (false≢true (sym e ∙ used= v left p x ∙ used_was));
          lasts =
              let a = off.rows.last= in
              let b = w.last_fits in
              let e = opens_sum_same most v left s k p w seat slot there (still_refl left) in
              omega arith;
        }
      where
        at_least_two : (a b : ℕ) → a ≢ 1 → 1 ≤ a → b ≡ a - 1 → 1 ≤ b
        at_least_two a b h l e = omega arith

    pub left_sound : Sound most left
    left_sound =
        kept v left s k (close_changed most v left s k p w seat slot there (still_refl left)) most p w
        (close_formed most v left s k p w seat slot there (still_refl left))
        left_row
        (same_now v left p row_in (rows_of most v w) left_row (off.rows.same p))
        left_linked

  -- ---- the row had this tab alone

  module _ (only : v (tabs p) ≡ 1) where
    abbrev ended : View
    ended = changes left (clearing p)

    wiped : Cleared left ended p
    wiped = cleared_fields left p

    unused_now : used ended p ≡ false
    unused_now = zero_unused ended p wiped.gone_row.number0

    ended_others : (q : ℕ) → q ≢ p → KeptRow v ended q
    ended_others q h =
        let a = off.rows.same q in
        let b = wiped.others q h in
        record {
          number= = b.number= ∙ a.number=;
          owner= = b.owner= ∙ a.owner=;
          size= = b.size= ∙ a.size=;
          letter= = λ j. b.letter= j ∙ a.letter= j;
        }

    ended_row : RowChanged v ended p
    ended_row =
        record {
          row_zero= = λ q. wiped.row_zero= q ∙ off.rows.row_zero= q;
          others = ended_others;
          grown = let a = off.rows.last= in let b = wiped.last= in omega arith;
        }

    ended_now : RowNow ended p
    ended_now =
        record {
          bare = λ e. record { owner0 = wiped.gone_row.owner0; size0 = wiped.gone_row.size0 };
          fill = λ j r l. wiped.gone_row.letter0 j r;
          fits = let a = wiped.gone_row.number0 in omega arith;
          number_new = λ e. absurd (false≢true (sym unused_now ∙ e));
          name = λ e. absurd (false≢true (sym unused_now ∙ e));
          pair_new = λ e. absurd (false≢true (sym unused_now ∙ e));
        }

    -- no other tab points at the row: with this one taken off, none is left
    none_left : pointing left p ≡ 0
    unfolding one
    none_left =
        let f = close_free most v left s k p w seat slot there (still_refl left) in
        let m = pointing_moved v left s k off.rest p seat slot in
        let a : one (points v p s k) ≡ 1 = ap one point_was in
        let b : one (points left p s k) ≡ 0 = ap one (points_free left p s k f) in
        let d = w.counts p row_in in
        omega arith

    no_other : (r j : ℕ) → Range 1 8 r → Range 1 10 j → Elsewhere s k r j → live v r j ≡ true → v (row r j) ≡ p → ⊥
    no_other r j a b e g z =
        let l : live left r j ≡ true = live= v left s k off.rest r j e ∙ g in
        let x = pointing_part left p r j a b (points_is left p r j l (off.rest.row= r j e ∙ z)) in
        let y = none_left in
        bad x y
      where
        bad : 1 ≤ pointing left p → pointing left p ≡ 0 → ⊥
        bad x y = omega arith

    ended_linked : Linked v ended s k p
    unfolding one
    ended_linked =
        let f = close_free most v ended s k p w seat slot there wiped.seats in
        let d = wiped.gone_row.tabs0 in
        record {
          row_in = row_in;
          tabs= = λ q h. wiped.tabs= q h ∙ off.tabs= q h;
          was = λ e. on;
          now = λ e. absurd (false≢true (sym f ∙ e));
          now_used = λ e. absurd (false≢true (sym f ∙ e));
          now_own = λ e. absurd (false≢true (sym f ∙ e));
          others_hold = λ r j a b e g z. absurd (no_other r j a b e g z);
          moved =
              let a : one (points v p s k) ≡ 1 = ap one point_was in
              let b : one (points ended p s k) ≡ 0 = ap one (points_free ended p s k f) in
              omega arith;
          some = λ e. absurd (false≢true (sym unused_now ∙ e));
          none = λ e. d;
          lasts =
              let a = off.rows.last= in
              let b = w.last_fits in
              let g = wiped.last= in
              let e = opens_sum_same most v ended s k p w seat slot there wiped.seats in
              omega arith;
        }

    pub ended_sound : Sound most ended
    ended_sound =
        kept v ended s k (close_changed most v ended s k p w seat slot there wiped.seats) most p w
        (close_formed most v ended s k p w seat slot there wiped.seats)
        ended_row ended_now ended_linked
