-- The clauses of soundness that speak of seats and their tab rows, kept by a change of one tab row and its seat. Assumes nothing.
use Rattle.std.specs.Prelude.{◌≡◌, true, false, ◌≢◌, ◌⊎◌, ℕ, ◌≤◌, ◌<◌, eqb}
use Rattle.std.proofs.Common.{sym, ◌∙◌, subst, inl, inr, ⊎_elim, arith}
use Rattle.std.proofs.Math.Path.{ap}
use Rattle.std.proofs.Math.Bool.{not}
use Rattle.terms.specs.Names.{legal_options}
use Rattle.terms.specs.Base.{Range}
use Rattle.fields.specs.Base.{bits}
use Rattle.fields.specs.Rule.View.{View, tenant, options, selected, seat_zero, opens, slots, serial, row, waiting}
use Rattle.fields.specs.Rule.Word.{live}
use Rattle.fields.specs.Laws.Each.{at_or, range, same_or}
use Rattle.fields.specs.Laws.Bits.{bits_ext}
use Rattle.fields.specs.Laws.Sound.{EmptyTab, EmptySeat, live_not, live_of}

pub record Seats (most : ℕ) (v : View) : Type 0 where
  pub tenants : (s : ℕ) → Range 1 8 s → v (tenant s) ≤ 99
  pub legal : (s : ℕ) → Range 1 8 s → legal_options (v (options s)) ≡ true
  pub selections : (s : ℕ) → Range 1 8 s → v (selected s) ≤ 10
  pub opens_fit : (s : ℕ) → Range 1 8 s → v (opens s) ≤ most
  pub waits : (s k : ℕ) → Range 1 8 s → Range 1 10 k → v (waiting s k) ≤ 3
  pub seats_spare : (s : ℕ) → Range 1 8 s → v (seat_zero s) ≡ 0
  pub not_let : (s : ℕ) → Range 1 8 s → v (tenant s) ≡ 0 → EmptySeat v s
  pub free_tabs : (s k : ℕ) → Range 1 8 s → Range 1 10 k → live v s k ≡ false → EmptyTab v s k
  pub map_agrees : (s : ℕ) → Range 1 8 s → v (slots s) ≡ bits 10 (λ k. live v s k)
  pub selected_live : (s : ℕ) → Range 1 8 s → v (selected s) ≢ 0 → live v s (v (selected s)) ≡ true
  pub serials_apart : (s i k : ℕ) → Range 1 8 s → 1 ≤ i → i < k → k ≤ 10 → live v s k ≡ true → v (serial s i) ≢ v (serial s k)
  pub serials_fit : (s k : ℕ) → Range 1 8 s → Range 1 10 k → v (serial s k) ≤ v (opens s)

-- another tab row than slot k of seat s
abbrev pub Elsewhere : ℕ → ℕ → ℕ → ℕ → Type 0
Elsewhere s k r j = (r ≢ s) ⊎ (j ≢ k)

-- u is v but for slot k of seat s, and for the seat's selection, opens and map
pub record Changed (v u : View) (s k : ℕ) : Type 0 where
  pub tenant= : (r : ℕ) → u (tenant r) ≡ v (tenant r)
  pub options= : (r : ℕ) → u (options r) ≡ v (options r)
  pub seat_zero= : (r : ℕ) → u (seat_zero r) ≡ v (seat_zero r)
  pub selected= : (r : ℕ) → r ≢ s → u (selected r) ≡ v (selected r)
  pub opens= : (r : ℕ) → r ≢ s → u (opens r) ≡ v (opens r)
  pub slots= : (r : ℕ) → r ≢ s → u (slots r) ≡ v (slots r)
  pub serial= : (r j : ℕ) → Elsewhere s k r j → u (serial r j) ≡ v (serial r j)
  pub row= : (r j : ℕ) → Elsewhere s k r j → u (row r j) ≡ v (row r j)
  pub waiting= : (r j : ℕ) → Elsewhere s k r j → u (waiting r j) ≡ v (waiting r j)

-- what is there now is in form, in a seat that is let
pub record Formed (most : ℕ) (v u : View) (s k : ℕ) : Type 0 where
  pub seat : Range 1 8 s
  pub slot : Range 1 10 k
  pub is_let : v (tenant s) ≢ 0
  pub grows : v (opens s) ≤ u (opens s)
  pub at_most : u (opens s) ≤ most
  pub picked : u (selected s) ≤ 10
  pub picked_live : u (selected s) ≢ 0 → live u s (u (selected s)) ≡ true
  pub map_is : u (slots s) ≡ bits 10 (λ j. live u s j)
  pub wait : u (waiting s k) ≤ 3
  pub empty : live u s k ≡ false → EmptyTab u s k
  pub fits : u (serial s k) ≤ u (opens s)
  pub new : live u s k ≡ true → (j : ℕ) → Range 1 10 j → j ≢ k → u (serial s j) ≢ u (serial s k)

module _ (v u : View) (s k : ℕ) (c : Changed v u s k) where
  pub live= : (r j : ℕ) → Elsewhere s k r j → live u r j ≡ live v r j
  unfolding live
  live= r j e = ap (λ (x : ℕ). not (eqb x 0)) (c.serial= r j e)

  -- here or elsewhere
  pub where_is : {P : Type 0} (r j : ℕ) → (r ≡ s → j ≡ k → P) → (Elsewhere s k r j → P) → P
  where_is r j here there =
      ⊎_elim (λ (e : r ≡ s). ⊎_elim (λ (f : j ≡ k). here e f) (λ (n : j ≢ k). there (inr n)) (same_or j k))
      (λ (n : r ≢ s). there (inl n)) (same_or r s)

  module _ (most : ℕ) (w : Seats most v) (f : Formed most v u s k) where
    tab_of_lem : (P : ℕ → ℕ → Type 0) (r j : ℕ) → P s k → (Elsewhere s k r j → P r j) → P r j
    tab_of_lem P r j here there = where_is r j (λ e g. subst (λ (x : ℕ). P x j) (sym e) (subst (λ (x : ℕ). P s x) (sym g) here)) there

    empty_tab= : (r j : ℕ) → Elsewhere s k r j → EmptyTab v r j → EmptyTab u r j
    empty_tab= r j e t =
        record {
          serial0 = c.serial= r j e ∙ t.serial0;
          row0 = c.row= r j e ∙ t.row0;
          waiting0 = c.waiting= r j e ∙ t.waiting0;
        }

    kept_not_let : (r : ℕ) → Range 1 8 r → u (tenant r) ≡ 0 → EmptySeat u r
    kept_not_let r q e =
        let z = sym (c.tenant= r) ∙ e in
        let n : r ≢ s = λ x. f.is_let (sym (ap (λ (y : ℕ). v (tenant y)) x) ∙ z) in
        let t = w.not_let r q z in
        record {
          options0 = c.options= r ∙ t.options0;
          selected0 = c.selected= r n ∙ t.selected0;
          opens0 = c.opens= r n ∙ t.opens0;
          slots0 = c.slots= r n ∙ t.slots0;
          tabs0 = λ j p. empty_tab= r j (inl n) (t.tabs0 j p);
        }

    kept_map : (r : ℕ) → Range 1 8 r → u (slots r) ≡ bits 10 (λ j. live u r j)
    kept_map r q =
        at_or (λ r. u (slots r) ≡ bits 10 (λ j. live u r j)) r s f.map_is
        (λ n. c.slots= r n ∙ w.map_agrees r q ∙ bits_ext 10 (λ j. live v r j) (λ j. live u r j) (λ j p. sym (live= r j (inl n))))

    kept_selected : (r : ℕ) → Range 1 8 r → u (selected r) ≢ 0 → live u r (u (selected r)) ≡ true
    kept_selected r q =
        at_or (λ r. u (selected r) ≢ 0 → live u r (u (selected r)) ≡ true) r s f.picked_live
        (λ n h.
        let e = c.selected= r n in
        ap (live u r) e ∙ live= r (v (selected r)) (inl n) ∙ w.selected_live r q (λ z. h (e ∙ z)))

    kept_fits : (r j : ℕ) → Range 1 8 r → Range 1 10 j → u (serial r j) ≤ u (opens r)
    kept_fits r j q p =
        tab_of_lem (λ r j. u (serial r j) ≤ u (opens r)) r j f.fits
        (λ e.
        let a = c.serial= r j e in
        let b = w.serials_fit r j q p in
        let d : v (opens r) ≤ u (opens r)
        = at_or (λ r. v (opens r) ≤ u (opens r)) r s f.grows (λ n. let x = c.opens= r n in omega arith) in
        omega arith)

    apart_here : (i j : ℕ) → 1 ≤ i → i < j → j ≤ 10 → Range 1 8 s → live u s j ≡ true → u (serial s i) ≢ u (serial s j)
    apart_here i j a b d q l =
        ⊎_elim
        (λ (e : j ≡ k).
        let m : live u s k ≡ true = ap (live u s) (sym e) ∙ l in
        λ z. f.new m i (range a (omega arith)) (λ x. omega arith) (z ∙ ap (λ (y : ℕ). u (serial s y)) e))
        (λ (n : j ≢ k).
        ⊎_elim
        (λ (e : i ≡ k) (z : u (serial s i) ≡ u (serial s j)).
        let y : u (serial s k) ≡ u (serial s j) = ap (λ (y : ℕ). u (serial s y)) (sym e) ∙ z in
        f.new (live_of u s k (λ x. live_not u s j l (sym y ∙ x))) j (range (omega arith) d) n (sym y))
        (λ (m : i ≢ k) (z : u (serial s i) ≡ u (serial s j)).
        w.serials_apart s i j q a b d (sym (live= s j (inr n)) ∙ l) (sym (c.serial= s i (inr m)) ∙ z ∙ c.serial= s j (inr n)))
        (same_or i k))
        (same_or j k)

    kept_apart : (r i j : ℕ) → Range 1 8 r → 1 ≤ i → i < j → j ≤ 10 → live u r j ≡ true → u (serial r i) ≢ u (serial r j)
    kept_apart r i j q a b d =
        at_or (λ r. live u r j ≡ true → u (serial r i) ≢ u (serial r j)) r s
        (apart_here i j a b d f.seat)
        (λ n l z.
        w.serials_apart r i j q a b d (sym (live= r j (inl n)) ∙ l) (sym (c.serial= r i (inl n)) ∙ z ∙ c.serial= r j (inl n)))

    pub seats_kept : Seats most u
    seats_kept =
        record {
          tenants = λ r q. let a = c.tenant= r in let b = w.tenants r q in omega arith;
          legal = λ r q. ap legal_options (c.options= r) ∙ w.legal r q;
          selections =
              λ r q. at_or (λ r. u (selected r) ≤ 10) r s f.picked
              (λ n. let a = c.selected= r n in let b = w.selections r q in omega arith);
          opens_fit =
              λ r q. at_or (λ r. u (opens r) ≤ most) r s f.at_most
              (λ n. let a = c.opens= r n in let b = w.opens_fit r q in omega arith);
          waits =
              λ r j q p. tab_of_lem (λ r j. u (waiting r j) ≤ 3) r j f.wait
              (λ e. let a = c.waiting= r j e in let b = w.waits r j q p in omega arith);
          seats_spare = λ r q. c.seat_zero= r ∙ w.seats_spare r q;
          not_let = kept_not_let;
          free_tabs = λ r j q p. tab_of_lem (λ r j. live u r j ≡ false → EmptyTab u r j) r j f.empty
              (λ e l. empty_tab= r j e (w.free_tabs r j q p (sym (live= r j e) ∙ l)));
          map_agrees = kept_map;
          selected_live = kept_selected;
          serials_apart = kept_apart;
          serials_fit = kept_fits;
        }
