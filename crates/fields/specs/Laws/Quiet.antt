-- A change that opens and closes nothing: a live tab is selected, or its waiting mark is set or cleared. It keeps a table sound.
-- Assumes nothing.
use Rattle.std.specs.Prelude.{◌≡◌, Bool, true, ◌&&◌, ◌≢◌, [], ◌∷◌, ℕ, ◌+◌, ◌≤◌, ◌<◌}
use Rattle.std.proofs.Math.Path.{refl, sym, ap, ap₂}
use Rattle.std.proofs.Common.{◌∙◌, inr, arith}
use Rattle.std.proofs.Math.Bool.{not}
use Rattle.std.proofs.lemmas.Bool.{false≢true}
use Rattle.std.proofs.Math.Logic.{⊎_elim}
use Rattle.std.proofs.Math.Dec.{eqb}
use Rattle.terms.specs.Base.{Range}
use Rattle.fields.specs.Base.{sum, one}
use Rattle.fields.specs.Rule.View.{View, selected, opens, slots, serial, row, waiting, owner, tabs}
use Rattle.fields.specs.Rule.Update.{◌≔◌}
use Rattle.fields.specs.Rule.Word.{live, used, points}
use Rattle.fields.specs.Change.{kind, major, minor, same_field, change, changes}
use Rattle.fields.specs.Laws.Each.{less, same_or}
use Rattle.fields.specs.Laws.Sum.{sum_ext}
use Rattle.fields.specs.Laws.Bits.{bits_ext}
use Rattle.fields.specs.Laws.Sound.{Sound, live_not, live_of}
use Rattle.fields.specs.Laws.Seats.{Changed, Formed, live=}
use Rattle.fields.specs.Laws.Rows.{RowChanged, used=, same_now}
use Rattle.fields.specs.Laws.Links.{Linked, rows_of, kept}
use Rattle.fields.specs.Laws.Still.{RowsStill, skip, take!, skip_tab, take_tab, only, rows_left}
use Rattle.fields.specs.Laws.Leave.{let_of}

-- every field but the seat's selection and the tab's mark is as it was
pub record Quiet (v u : View) (s k : ℕ) : Type 0 where
  pub rest : Changed v u s k
  pub rows : RowsStill v u
  pub tabs= : (q : ℕ) → u (tabs q) ≡ v (tabs q)
  pub serial= : u (serial s k) ≡ v (serial s k)
  pub row= : u (row s k) ≡ v (row s k)
  pub opens= : u (opens s) ≡ v (opens s)
  pub slots= : u (slots s) ≡ v (slots s)

-- ---- the two changes

module _ (v : View) (s k x : ℕ) where
  pub picked_fields : Quiet v (change v (selected s) x) s k
  unfolding only changes change same_field kind major minor
  picked_fields =
      record {
        rest =
            record {
              tenant= = λ r. refl;
              options= = λ r. refl;
              seat_zero= = λ r. refl;
              selected= = λ r h. skip s r x (v (selected r)) h;
              opens= = λ r h. refl;
              slots= = λ r h. refl;
              serial= = λ r j e. refl;
              row= = λ r j e. refl;
              waiting= = λ r j e. refl;
            };
        rows = rows_left v (selected s ≔ x ∷ []) refl;
        tabs= = λ q. refl;
        serial= = refl;
        row= = refl;
        opens= = refl;
        slots= = refl;
      }

  pub picked_selected : change v (selected s) x (selected s) ≡ x
  unfolding change same_field kind major minor
  picked_selected = take! s x (v (selected s))

  pub picked_waiting : change v (selected s) x (waiting s k) ≡ v (waiting s k)
  unfolding change same_field kind major minor
  picked_waiting = refl

  pub waiting_fields : Quiet v (change v (waiting s k) x) s k
  unfolding only changes change same_field kind major minor
  waiting_fields =
      record {
        rest =
            record {
              tenant= = λ r. refl;
              options= = λ r. refl;
              seat_zero= = λ r. refl;
              selected= = λ r h. refl;
              opens= = λ r h. refl;
              slots= = λ r h. refl;
              serial= = λ r j e. refl;
              row= = λ r j e. refl;
              waiting= = λ r j e. skip_tab s k r j x (v (waiting r j)) e;
            };
        rows = rows_left v (waiting s k ≔ x ∷ []) refl;
        tabs= = λ q. refl;
        serial= = refl;
        row= = refl;
        opens= = refl;
        slots= = refl;
      }

  pub waiting_selected : (r : ℕ) → change v (waiting s k) x (selected r) ≡ v (selected r)
  unfolding change same_field kind major minor
  waiting_selected r = refl

  pub waiting_waiting : change v (waiting s k) x (waiting s k) ≡ x
  unfolding change same_field kind major minor
  waiting_waiting = take_tab s k x (v (waiting s k))

-- ---- both keep a table sound

module _ (most : ℕ) (v u : View) (s k p : ℕ) (w : Sound most v) (q : Quiet v u s k) (seat : Range 1 8 s) (slot : Range 1 10 k)
    (there : live v s k ≡ true) (row_in : Range 1 80 p) (on : v (row s k) ≡ p)
    (picked : u (selected s) ≤ 10) (picked_live : u (selected s) ≢ 0 → live v s (u (selected s)) ≡ true)
    (wait : u (waiting s k) ≤ 3) where
  live_same : (j : ℕ) → live u s j ≡ live v s j
  unfolding live
  live_same j =
      ⊎_elim
      (λ (e : j ≡ k).
      ap (λ (x : ℕ). not (eqb (u (serial s x)) 0)) e
      ∙ ap (λ (x : ℕ). not (eqb x 0)) q.serial=
      ∙ sym (ap (λ (x : ℕ). not (eqb (v (serial s x)) 0)) e))
      (λ (n : j ≢ k). live= v u s k q.rest s j (inr n))
      (same_or j k)

  apart : (j : ℕ) → Range 1 10 j → j ≢ k → v (serial s j) ≢ v (serial s k)
  apart j r h z =
      ⊎_elim
      (λ (l : j < k). w.serials_apart s j k seat r.low l slot.high there z)
      (λ (l : k < j).
      w.serials_apart s k j seat slot.low l r.high (live_of v s j (λ x. live_not v s k there (sym z ∙ x))) (sym z))
      (less j k h)

  quiet_formed : Formed most v u s k
  quiet_formed =
      record {
        seat = seat;
        slot = slot;
        is_let = let_of most v s k w seat slot there;
        grows = let a = q.opens= in omega arith;
        at_most = let a = q.opens= in let b = w.opens_fit s seat in omega arith;
        picked = picked;
        picked_live = λ h. live_same (u (selected s)) ∙ picked_live h;
        map_is = q.slots= ∙ w.map_agrees s seat ∙ bits_ext 10 (λ j. live v s j) (λ j. live u s j) (λ j r. sym (live_same j));
        wait = wait;
        empty = λ e. absurd (false≢true (sym e ∙ live_same k ∙ there));
        fits = let a = q.serial= in let b = q.opens= in let d = w.serials_fit s k seat slot in omega arith;
        new = λ e j r h z. apart j r h (sym (q.rest.serial= s j (inr h)) ∙ z ∙ q.serial=);
      }

  quiet_row : RowChanged v u p
  quiet_row =
      record { row_zero= = q.rows.row_zero=; others = λ i h. q.rows.same i; grown = let a = q.rows.last= in omega arith }

  used_here : used v p ≡ true
  used_here = ap (used v) (sym on) ∙ (w.tabs_hang s k seat slot there).live_row

  points_same : points u p s k ≡ points v p s k
  unfolding points
  points_same = ap₂ (λ (a : Bool) (x : ℕ). a && eqb x p) (live_same k) q.row=

  quiet_linked : Linked v u s k p
  quiet_linked =
      let x = q.rows.same p in
      let h = w.tabs_hang s k seat slot there in
      record {
        row_in = row_in;
        tabs= = λ i n. q.tabs= i;
        was = λ e. on;
        now = λ e. q.row= ∙ on;
        now_used = λ e. used= v u p x ∙ used_here;
        now_own = λ e. x.owner= ∙ ap (λ (y : ℕ). v (owner y)) (sym on) ∙ h.own;
        others_hold = λ r j a b e g z. record { row_used = used= v u p x ∙ used_here; row_own = x.owner= };
        moved = ap₂ (λ (a b : ℕ). a + b) (q.tabs= p) (ap one (sym points_same));
        some = λ e. let a = q.tabs= p in let b = w.some_tab p row_in used_here in omega arith;
        none = λ e. absurd (false≢true (sym e ∙ used= v u p x ∙ used_here));
        lasts =
            let a = q.rows.last= in
            let b = w.last_fits in
            let e : sum 8 (λ r. u (opens r)) ≡ sum 8 (λ r. v (opens r))
            = sum_ext 8 (λ r. u (opens r)) (λ r. v (opens r)) (λ r i. opens_same r) in
            omega arith;
      }
    where
      opens_same : (r : ℕ) → u (opens r) ≡ v (opens r)
      opens_same r =
          ⊎_elim
          (λ (e : r ≡ s). ap (λ (y : ℕ). u (opens y)) e ∙ q.opens= ∙ sym (ap (λ (y : ℕ). v (opens y)) e))
          (λ (n : r ≢ s). q.rest.opens= r n)
          (same_or r s)

  pub quiet_sound : Sound most u
  quiet_sound =
      kept v u s k q.rest most p w quiet_formed quiet_row
      (same_now v u p row_in (rows_of most v w) quiet_row (q.rows.same p))
      quiet_linked
