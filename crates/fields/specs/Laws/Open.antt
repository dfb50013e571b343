-- An open, document 01, "Open": a tab is hung on a process row that is there, or on one made for it. Every field after it, and
-- that it keeps a table sound. Assumes nothing.
use Rattle.std.specs.Prelude.{◌≡◌, refl, true, false, ◌≢◌, ℕ, ◌+◌, ◌-◌, ◌^◌, ◌<◌}
use Rattle.std.proofs.Common.{sym, ◌∙◌, inr, arith}
use Rattle.std.proofs.Math.Path.{ap}
use Rattle.std.proofs.lemmas.Bool.{false≢true}
use Rattle.terms.specs.Base.{Range}
use Rattle.fields.specs.Base.{sum, one, bits}
use Rattle.fields.specs.Rule.View.{View, tenant, selected, opens, slots, serial, row, waiting, owner, tabs}
use Rattle.fields.specs.Rule.Word.{live, used, owner_at, points}
use Rattle.fields.specs.Rule.Update.{hanging}
use Rattle.fields.specs.Change.{kind, major, minor, same_field, change, changes}
use Rattle.fields.specs.Laws.Sum.{sum_at}
use Rattle.fields.specs.Laws.Bits.{bits_more}
use Rattle.fields.specs.Laws.Sound.{Sound, live_of}
use Rattle.fields.specs.Laws.Seats.{Changed, Formed, live=}
use Rattle.fields.specs.Laws.Rows.{RowChanged, used=, same_now}
use Rattle.fields.specs.Laws.Points.{points_is, points_free}
use Rattle.fields.specs.Laws.Links.{Linked, rows_of, kept}
use Rattle.fields.specs.Laws.Still.{SeatsStill, RowsStill, skip, take!, skip_tab, take_tab, still_refl, changed_after, only}
use Rattle.fields.specs.Laws.Still.{rows_left}

-- ---- every field after a tab is hung

pub record Hung (v u : View) (s k p : ℕ) : Type 0 where
  pub rest : Changed v u s k
  pub rows : RowsStill v u
  pub tabs= : (q : ℕ) → q ≢ p → u (tabs q) ≡ v (tabs q)
  pub serial! : u (serial s k) ≡ v (opens s) + 1
  pub row! : u (row s k) ≡ p
  pub waiting! : u (waiting s k) ≡ 0
  pub selected! : u (selected s) ≡ k
  pub opens! : u (opens s) ≡ v (opens s) + 1
  pub slots! : u (slots s) ≡ v (slots s) + 2 ^ (k - 1)
  pub tabs! : u (tabs p) ≡ v (tabs p) + 1

module _ (v : View) (s k p : ℕ) where
  abbrev hung_view : View
  hung_view = changes v (hanging v s k p)

  hung_rest : Changed v hung_view s k
  unfolding changes hanging change same_field kind major minor
  hung_rest =
      record {
        tenant= = λ r. refl;
        options= = λ r. refl;
        seat_zero= = λ r. refl;
        selected= = λ r h. skip s r k (v (selected r)) h;
        opens= = λ r h. skip s r (v (opens s) + 1) (v (opens r)) h;
        slots= = λ r h. skip s r (v (slots s) + 2 ^ (k - 1)) (v (slots r)) h;
        serial= = λ r j e. skip_tab s k r j (v (opens s) + 1) (v (serial r j)) e;
        row= = λ r j e. skip_tab s k r j p (v (row r j)) e;
        waiting= = λ r j e. skip_tab s k r j 0 (v (waiting r j)) e;
      }

  pub hung_fields : Hung v hung_view s k p
  unfolding only changes hanging change same_field kind major minor
  hung_fields =
      record {
        rest = hung_rest;
        rows = rows_left v (hanging v s k p) refl;
        tabs= = λ q h. skip p q (v (tabs p) + 1) (v (tabs q)) h;
        serial! = take_tab s k (v (opens s) + 1) (v (serial s k));
        row! = take_tab s k p (v (row s k));
        waiting! = take_tab s k 0 (v (waiting s k));
        selected! = take! s k (v (selected s));
        opens! = take! s (v (opens s) + 1) (v (opens s));
        slots! = take! s (v (slots s) + 2 ^ (k - 1)) (v (slots s));
        tabs! = take! p (v (tabs p) + 1) (v (tabs p));
      }

-- ---- the seat and its tab row are in form: m is the table in which the tab is hung, with seats as in v

module _ (most : ℕ) (v m : View) (st : SeatsStill v m) (s k p : ℕ) (w : Sound most v) (seat : Range 1 8 s) (slot : Range 1 10 k)
    (is_let : v (tenant s) ≢ 0) (free : live v s k ≡ false) (room : v (opens s) < most) where
  abbrev after : View
  after = changes m (hanging m s k p)

  now : Hung m after s k p
  now = hung_fields m s k p

  pub open_changed : Changed v after s k
  open_changed = changed_after v m after s k st now.rest

  serial_now : after (serial s k) ≡ v (opens s) + 1
  serial_now = now.serial! ∙ ap (λ (x : ℕ). x + 1) (st.opens= s)

  opens_now : after (opens s) ≡ v (opens s) + 1
  opens_now = now.opens! ∙ ap (λ (x : ℕ). x + 1) (st.opens= s)

  pub live_now : live after s k ≡ true
  live_now = live_of after s k (λ z. let a = serial_now in bad a z)
    where
      bad : after (serial s k) ≡ v (opens s) + 1 → after (serial s k) ≡ 0 → ⊥
      bad a z = omega arith

  map_now : after (slots s) ≡ bits 10 (λ j. live after s j)
  map_now =
      let a = bits_more 10 (λ j. live v s j) (λ j. live after s j) k slot free live_now
      (λ j r h. sym (live= v after s k open_changed s j (inr h))) in
      let b = w.map_agrees s seat in
      let d = st.slots= s in
      let e = now.slots! in
      omega arith

  serial_new : (j : ℕ) → Range 1 10 j → j ≢ k → after (serial s j) ≢ after (serial s k)
  serial_new j r h z =
      let a = open_changed.serial= s j (inr h) in
      let b = w.serials_fit s j seat r in
      let d = serial_now in
      omega arith

  pub open_formed : Formed most v after s k
  open_formed =
      record {
        seat = seat;
        slot = slot;
        is_let = is_let;
        grows = let a = opens_now in omega arith;
        at_most = let a = opens_now in omega arith;
        picked = let a = now.selected! in let b = slot.high in omega arith;
        picked_live = λ h. ap (live after s) now.selected! ∙ live_now;
        map_is = map_now;
        wait = let a = now.waiting! in omega arith;
        empty = λ e. absurd (false≢true (sym e ∙ live_now));
        fits = let a = serial_now in let b = opens_now in omega arith;
        new = λ e. serial_new;
      }

  -- opens grow, and with them their sum, by one
  pub opens_sum : sum 8 (λ r. after (opens r)) ≡ sum 8 (λ r. v (opens r)) + 1
  opens_sum =
      let a = sum_at 8 (λ r. after (opens r)) (λ r. v (opens r)) s seat (λ r q h. open_changed.opens= r h) in
      let b = opens_now in
      omega arith

-- ---- on a row that is there

module _ (most : ℕ) (v : View) (s k p : ℕ) (w : Sound most v) (seat : Range 1 8 s) (slot : Range 1 10 k)
    (is_let : v (tenant s) ≢ 0) (free : live v s k ≡ false) (room : v (opens s) < most)
    (row_in : Range 1 80 p) (there : used v p ≡ true) (own : v (owner p) ≡ owner_at v s) where
  abbrev joined : View
  joined = changes v (hanging v s k p)

  join_row : RowChanged v joined p
  join_row =
      let r = (hung_fields v s k p).rows in
      record { row_zero= = r.row_zero=; others = λ q h. r.same q; grown = let a = r.last= in omega arith }

  join_linked : Linked v joined s k p
  unfolding one
  join_linked =
      let h = hung_fields v s k p in
      let x = h.rows.same p in
      let l = live_now most v v (still_refl v) s k p w seat slot is_let free room in
      record {
        row_in = row_in;
        tabs= = h.tabs=;
        was = λ e. absurd (false≢true (sym free ∙ e));
        now = λ e. h.row!;
        now_used = λ e. used= v joined p x ∙ there;
        now_own = λ e. x.owner= ∙ own;
        others_hold = λ r j a b d e z. record { row_used = used= v joined p x ∙ there; row_own = x.owner= };
        moved =
            let a : one (points v p s k) ≡ 0 = ap one (points_free v p s k free) in
            let b : one (points joined p s k) ≡ 1 = ap one (points_is joined p s k l h.row!) in
            let d = h.tabs! in
            omega arith;
        some = λ e. let d = h.tabs! in omega arith;
        none = λ e. absurd (false≢true (sym e ∙ used= v joined p x ∙ there));
        lasts =
            let a = h.rows.last= in
            let b = w.last_fits in
            let d = opens_sum most v v (still_refl v) s k p w seat slot is_let free room in
            omega arith;
      }

  pub join_sound : Sound most joined
  join_sound =
      kept v joined s k (open_changed most v v (still_refl v) s k p w seat slot is_let free room) most p w
      (open_formed most v v (still_refl v) s k p w seat slot is_let free room)
      join_row
      (same_now v joined p row_in (rows_of most v w) join_row ((hung_fields v s k p).rows.same p))
      join_linked
