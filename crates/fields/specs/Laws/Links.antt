-- The clauses of soundness that speak of tabs and the process rows they hang on, kept by a change of one tab row and one process
-- row; and soundness as seats, rows and links. Assumes nothing.
use Rattle.std.specs.Prelude.{◌≡◌, Bool, true, false, ◌&&◌, ◌≢◌, ℕ, ◌+◌, ◌≤◌}
use Rattle.std.proofs.Common.{sym, ◌∙◌, subst, inl, inr, ⊎_elim}
use Rattle.std.proofs.Math.Path.{ap, ap₂}
use native.Mathlib.Omega.{arith}
use Rattle.std.proofs.Math.Dec.{eqb}
use Rattle.terms.specs.Names.{owner_of}
use Rattle.terms.specs.Base.{Range}
use Rattle.fields.specs.Base.{sum, count, one}
use Rattle.fields.specs.Rule.View.{View, opens, row, owner, tabs, last}
use Rattle.fields.specs.Rule.Word.{live, used, owner_at, points, pointing}
use Rattle.fields.specs.Laws.Each.{at_or, same_or}
use Rattle.fields.specs.Laws.Sum.{sum_at, count_ext}
use Rattle.fields.specs.Laws.Sound.{TabHangs, Sound}
use Rattle.fields.specs.Laws.Seats.{Seats, Elsewhere, Changed, Formed, live=, where_is, seats_kept}
use Rattle.fields.specs.Laws.Points.{points_not}
use Rattle.fields.specs.Laws.Rows.{Rows, RowChanged, RowNow, used=, rows_kept}

pub record Links (v : View) : Type 0 where
  pub tabs_hang : (s k : ℕ) → Range 1 8 s → Range 1 10 k → live v s k ≡ true → TabHangs v s k
  pub counts : (p : ℕ) → Range 1 80 p → v (tabs p) ≡ pointing v p
  pub some_tab : (p : ℕ) → Range 1 80 p → used v p ≡ true → 1 ≤ v (tabs p)
  pub no_tab : (p : ℕ) → Range 1 80 p → used v p ≡ false → v (tabs p) ≡ 0
  pub last_fits : v last ≤ sum 8 (λ s. v (opens s))

-- ---- soundness is the three together

pub seats_of : (most : ℕ) (v : View) → Sound most v → Seats most v
seats_of most v w =
    record {
      tenants = w.tenants;
      legal = w.legal;
      selections = w.selections;
      opens_fit = w.opens_fit;
      waits = w.waits;
      seats_spare = w.seats_spare;
      not_let = w.not_let;
      free_tabs = w.free_tabs;
      map_agrees = w.map_agrees;
      selected_live = w.selected_live;
      serials_apart = w.serials_apart;
      serials_fit = w.serials_fit;
    }

pub rows_of : (most : ℕ) (v : View) → Sound most v → Rows v
rows_of most v w =
    record {
      rows_spare = w.rows_spare;
      bare = λ p r e. record { owner0 = (w.free_rows p r e).owner0; size0 = (w.free_rows p r e).size0 };
      fill = w.fill;
      numbers_apart = w.numbers_apart;
      numbers_fit = w.numbers_fit;
      names = w.names;
      pairs_apart_lem = w.pairs_apart_lem;
    }

pub sound_from : (most : ℕ) (v : View) → Seats most v → Rows v → Links v → Sound most v
sound_from most v a b d =
    record {
      tenants = a.tenants;
      legal = a.legal;
      selections = a.selections;
      opens_fit = a.opens_fit;
      waits = a.waits;
      seats_spare = a.seats_spare;
      rows_spare = b.rows_spare;
      not_let = a.not_let;
      free_tabs = a.free_tabs;
      free_rows = λ p r e. record { owner0 = (b.bare p r e).owner0; size0 = (b.bare p r e).size0; tabs0 = d.no_tab p r e };
      fill = b.fill;
      map_agrees = a.map_agrees;
      selected_live = a.selected_live;
      serials_apart = a.serials_apart;
      serials_fit = a.serials_fit;
      tabs_hang = d.tabs_hang;
      counts = d.counts;
      some_tab = d.some_tab;
      numbers_apart = b.numbers_apart;
      numbers_fit = b.numbers_fit;
      last_fits = d.last_fits;
      names = b.names;
      pairs_apart_lem = b.pairs_apart_lem;
    }

-- ---- slot k of seat s hung on row p, hangs on it now, or neither

pub record Hold (v u : View) (p : ℕ) : Type 0 where
  pub row_used : used u p ≡ true
  pub row_own : u (owner p) ≡ v (owner p)

pub record Linked (v u : View) (s k p : ℕ) : Type 0 where
  pub row_in : Range 1 80 p
  pub tabs= : (q : ℕ) → q ≢ p → u (tabs q) ≡ v (tabs q)
  pub was : live v s k ≡ true → v (row s k) ≡ p
  pub now : live u s k ≡ true → u (row s k) ≡ p
  pub now_used : live u s k ≡ true → used u p ≡ true
  pub now_own : live u s k ≡ true → u (owner p) ≡ owner_at v s
  pub others_hold : (r j : ℕ) → Range 1 8 r → Range 1 10 j → Elsewhere s k r j → live v r j ≡ true → v (row r j) ≡ p
      → Hold v u p
  pub moved : u (tabs p) + one (points v p s k) ≡ v (tabs p) + one (points u p s k)
  pub some : used u p ≡ true → 1 ≤ u (tabs p)
  pub none : used u p ≡ false → u (tabs p) ≡ 0
  pub lasts : u last ≤ sum 8 (λ r. u (opens r))

-- ---- what a change keeps

module _ (v u : View) (s k : ℕ) (c : Changed v u s k) where
  points= : (q r j : ℕ) → Elsewhere s k r j → points u q r j ≡ points v q r j
  unfolding points
  points= q r j e = ap₂ (λ (a : Bool) (x : ℕ). a && eqb x q) (live= v u s k c r j e) (c.row= r j e)

  pub pointing_moved : (q : ℕ) → Range 1 8 s → Range 1 10 k
      → pointing u q + one (points v q s k) ≡ pointing v q + one (points u q s k)
  unfolding pointing count
  pointing_moved q r i =
      let inner : sum 10 (λ j. one (points u q s j)) + one (points v q s k)
      ≡ sum 10 (λ j. one (points v q s j)) + one (points u q s k)
      = sum_at 10 (λ j. one (points u q s j)) (λ j. one (points v q s j)) k i (λ j m n. ap one (points= q s j (inr n))) in
      let outer : sum 8 (λ r. sum 10 (λ j. one (points u q r j))) + sum 10 (λ j. one (points v q s j))
      ≡ sum 8 (λ r. sum 10 (λ j. one (points v q r j))) + sum 10 (λ j. one (points u q s j))
      = sum_at 8 (λ r. sum 10 (λ j. one (points u q r j))) (λ r. sum 10 (λ j. one (points v q r j))) s r
      (λ x m n. count_ext 10 (λ j. points u q x j) (λ j. points v q x j) (λ j y. points= q x j (inl n))) in
      omega arith

  module _ (most p : ℕ) (w : Sound most v) (f : Formed most v u s k) (rc : RowChanged v u p) (n : RowNow u p)
      (l : Linked v u s k p) where
    owner_at= : (r : ℕ) → owner_at u r ≡ owner_at v r
    unfolding owner_at
    owner_at= r = ap₂ (λ (a b : ℕ). owner_of r a b) (c.tenant= r) (c.options= r)

    hang_here : live u s k ≡ true → TabHangs u s k
    hang_here e =
        let a = l.now e in
        record {
          live_row = ap (used u) a ∙ l.now_used e;
          own = ap (λ (x : ℕ). u (owner x)) a ∙ l.now_own e ∙ sym (owner_at= s);
        }

    hang_there : (r j : ℕ) → Range 1 8 r → Range 1 10 j → Elsewhere s k r j → live u r j ≡ true → TabHangs u r j
    hang_there r j q i e h =
        let g : live v r j ≡ true = sym (live= v u s k c r j e) ∙ h in
        let x = w.tabs_hang r j q i g in
        let a = c.row= r j e in
        ⊎_elim
        (λ (z : v (row r j) ≡ p).
        let o = l.others_hold r j q i e g z in
        record {
          live_row = ap (used u) (a ∙ z) ∙ o.row_used;
          own = ap (λ (y : ℕ). u (owner y)) (a ∙ z) ∙ o.row_own ∙ sym (ap (λ (y : ℕ). v (owner y)) z) ∙ x.own ∙ sym (owner_at= r);
        })
        (λ (m : v (row r j) ≢ p).
        let o = rc.others (v (row r j)) m in
        record {
          live_row = ap (used u) a ∙ used= v u (v (row r j)) o ∙ x.live_row;
          own = ap (λ (y : ℕ). u (owner y)) a ∙ o.owner= ∙ x.own ∙ sym (owner_at= r);
        })
        (same_or (v (row r j)) p)

    kept_hang : (r j : ℕ) → Range 1 8 r → Range 1 10 j → live u r j ≡ true → TabHangs u r j
    kept_hang r j q i =
        where_is v u s k c r j
        (λ a b.
        subst (λ (x : ℕ). live u x j ≡ true → TabHangs u x j) (sym a)
        (subst (λ (y : ℕ). live u s y ≡ true → TabHangs u s y) (sym b) hang_here))
        (hang_there r j q i)

    kept_count : (q : ℕ) → Range 1 80 q → u (tabs q) ≡ pointing u q
    kept_count q r =
        let m = pointing_moved q f.seat f.slot in
        let d = w.counts q r in
        ⊎_elim
        (λ (e : q ≡ p).
        subst (λ (x : ℕ). u (tabs x) ≡ pointing u x) (sym e)
        (let y = pointing_moved p f.seat f.slot in let z = w.counts p l.row_in in let g = l.moved in omega arith))
        (λ (h : q ≢ p).
        let a : one (points v q s k) ≡ one false = ap one (points_not v q s k (λ x z. h (sym (sym (l.was x) ∙ z)))) in
        let b : one (points u q s k) ≡ one false = ap one (points_not u q s k (λ x z. h (sym (sym (l.now x) ∙ z)))) in
        let e = l.tabs= q h in
        omega arith)
        (same_or q p)

    kept_some : (q : ℕ) → Range 1 80 q → used u q ≡ true → 1 ≤ u (tabs q)
    kept_some q r =
        at_or (λ q. used u q ≡ true → 1 ≤ u (tabs q)) q p l.some
        (λ h e. let a = l.tabs= q h in let b = w.some_tab q r (sym (used= v u q (rc.others q h)) ∙ e) in omega arith)

    kept_none : (q : ℕ) → Range 1 80 q → used u q ≡ false → u (tabs q) ≡ 0
    kept_none q r =
        at_or (λ q. used u q ≡ false → u (tabs q) ≡ 0) q p l.none
        (λ h e. l.tabs= q h ∙ (w.free_rows q r (sym (used= v u q (rc.others q h)) ∙ e)).tabs0)

    links_kept : Links u
    links_kept =
        record { tabs_hang = kept_hang; counts = kept_count; some_tab = kept_some; no_tab = kept_none; last_fits = l.lasts }

    -- a change of one tab row and one process row, each in form after it, keeps a table sound
    pub kept : Sound most u
    kept =
        sound_from most u (seats_kept v u s k c most (seats_of most v w) f) (rows_kept v u p (rows_of most v w) rc n) links_kept
