-- A fresh table, document 01, "let seats as ordered, the rest zero but for the trailer": every field of it, and that it is sound.
-- Assumes nothing.
use Rattle.std.specs.Prelude.{◌≡◌, true, false, List, eqb, length}
use Rattle.std.proofs.Math.Path.{refl, ap}
use Rattle.std.proofs.Common.{sym, ◌∙◌, arith}
use Rattle.std.proofs.lemmas.Bool.{false≢true}
use Prim.Native.Nat.{ℕ, zero, suc}
use borrow.Author.Tests.{eq-eqb}
use Rattle.terms.specs.Names.{sound_book, legal_options}
use Rattle.terms.specs.Laws.Bools.{fails}
use Rattle.terms.specs.Base.{Range}
use Rattle.terms.specs.Laws.Order.{tenant_range, options_legal, options_unlet}
use Rattle.fields.specs.Base.{count, one, bits}
use Rattle.fields.specs.Rule.View.{View, Field, tenant, options, selected, seat_zero, opens, slots, serial, row, waiting}
use Rattle.fields.specs.Rule.View.{number, owner, tabs, size, row_zero, letter, seats_at, rows_at, last}
use Rattle.fields.specs.Rule.Layout.{form, table_bytes, most_opens, view, offsets_given}
use Rattle.fields.specs.Rule.Sound.{sound_table}
use Rattle.fields.specs.Rule.Clause.{same_pair}
use Rattle.fields.specs.Rule.Word.{live, used, points, pointing}
use Rattle.fields.specs.Rule.Fresh.{fresh}
use Rattle.fields.specs.Change.{kind}
use Rattle.fields.specs.Laws.Sum.{sum_nil}
use Rattle.fields.specs.Laws.Sound.{Sound, EmptyTab, zero_free, zero_unused}
use Rattle.fields.specs.Laws.Rows.{pair_parts}
use Rattle.fields.specs.Laws.Points.{points_free}
use Rattle.fields.specs.Laws.Table.{facts_table}
use Rattle.fields.specs.Laws.Blank.{blank_zero, blank_rows}
use Rattle.fields.specs.Laws.Ordered.{tenant_at, options_at, ordered_long, ordered_rest, ordered_tenant, ordered_options}

module _ (b : List ℕ) (book : sound_book b ≡ true) where
  abbrev u : View
  u = view (fresh b)

  pub fresh_tenant : (s : ℕ) → Range 1 8 s → u (tenant s) ≡ tenant_at b book s
  unfolding fresh
  fresh_tenant s r = ordered_tenant b book 8 (omega arith) s r

  pub fresh_options : (s : ℕ) → Range 1 8 s → u (options s) ≡ options_at b book s
  unfolding fresh
  fresh_options s r = ordered_options b book 8 (omega arith) s r

  -- every other field
  fresh_zero : (g : Field) → eqb 0 (kind g) ≡ false → eqb 1 (kind g) ≡ false → eqb 16 (kind g) ≡ false → u g ≡ 0
  unfolding fresh
  fresh_zero g d e f = ordered_rest b book 8 (omega arith) g d e ∙ blank_zero g f

  pub record Fresh : Type 0 where
    pub selected0 : (s : ℕ) → u (selected s) ≡ 0
    pub seat_zero0 : (s : ℕ) → u (seat_zero s) ≡ 0
    pub opens0 : (s : ℕ) → u (opens s) ≡ 0
    pub slots0 : (s : ℕ) → u (slots s) ≡ 0
    pub tab0 : (s k : ℕ) → EmptyTab u s k
    pub number0 : (p : ℕ) → u (number p) ≡ 0
    pub owner0 : (p : ℕ) → u (owner p) ≡ 0
    pub tabs0 : (p : ℕ) → u (tabs p) ≡ 0
    pub size0 : (p : ℕ) → u (size p) ≡ 0
    pub row_zero0 : (p : ℕ) → u (row_zero p) ≡ 0
    pub letter0 : (p j : ℕ) → u (letter p j) ≡ 0
    pub last0 : u last ≡ 0
    pub seats_at0 : u seats_at ≡ 0
    pub rows_at! : u rows_at ≡ form.rows_begin

  pub fresh_fields : Fresh
  unfolding fresh kind
  fresh_fields =
      record {
        selected0 = λ s. fresh_zero (selected s) refl refl refl;
        seat_zero0 = λ s. fresh_zero (seat_zero s) refl refl refl;
        opens0 = λ s. fresh_zero (opens s) refl refl refl;
        slots0 = λ s. fresh_zero (slots s) refl refl refl;
        tab0 = λ s k.
            record {
              serial0 = fresh_zero (serial s k) refl refl refl;
              row0 = fresh_zero (row s k) refl refl refl;
              waiting0 = fresh_zero (waiting s k) refl refl refl;
            };
        number0 = λ p. fresh_zero (number p) refl refl refl;
        owner0 = λ p. fresh_zero (owner p) refl refl refl;
        tabs0 = λ p. fresh_zero (tabs p) refl refl refl;
        size0 = λ p. fresh_zero (size p) refl refl refl;
        row_zero0 = λ p. fresh_zero (row_zero p) refl refl refl;
        letter0 = λ p j. fresh_zero (letter p j) refl refl refl;
        last0 = fresh_zero last refl refl refl;
        seats_at0 = fresh_zero seats_at refl refl refl;
        rows_at! = ordered_rest b book 8 (omega arith) rows_at refl refl ∙ blank_rows;
      }

  fresh_offsets : offsets_given form u ≡ true
  unfolding offsets_given
  fresh_offsets =
      let z = fresh_fields in rw (eq-eqb (u seats_at) 0 z.seats_at0, eq-eqb (u rows_at) form.rows_begin z.rows_at!)

  free : (s k : ℕ) → live u s k ≡ false
  free s k = zero_free u s k (fresh_fields.tab0 s k).serial0

  unused : (p : ℕ) → used u p ≡ false
  unused p = zero_unused u p (fresh_fields.number0 p)

  none : (p : ℕ) → pointing u p ≡ 0
  unfolding pointing count one
  none p =
      sum_nil 8 (λ s. count 10 (λ k. points u p s k))
      (λ s r. sum_nil 10 (λ k. one (points u p s k)) (λ k q. ap one (points_free u p s k (free s k))))

  no_bits : (n s : ℕ) → bits n (λ k. live u s k) ≡ 0
  unfolding bits one
  no_bits zero s = refl
  no_bits (suc n) s = let a = no_bits n s in let d : one (live u s (suc n)) ≡ 0 = ap one (free s (suc n)) in rw (d) (omega arith)

  fresh_shows : Sound most_opens u
  fresh_shows =
      let z = fresh_fields in
      record {
        tenants = λ s r. let a = fresh_tenant s r in let d = tenant_range b s book in omega arith;
        legal = λ s r. ap legal_options (fresh_options s r) ∙ options_legal b s book;
        selections = λ s r. let a = z.selected0 s in omega arith;
        opens_fit = λ s r. let a = z.opens0 s in omega arith;
        waits = λ s k r q. let a = (z.tab0 s k).waiting0 in omega arith;
        seats_spare = λ s r. z.seat_zero0 s;
        rows_spare = λ p r. z.row_zero0 p;
        not_let = λ s r e.
            record {
              options0 = fresh_options s r ∙ options_unlet b s book (sym (fresh_tenant s r) ∙ e);
              selected0 = z.selected0 s;
              opens0 = z.opens0 s;
              slots0 = z.slots0 s;
              tabs0 = λ k q. z.tab0 s k;
            };
        free_tabs = λ s k r q e. z.tab0 s k;
        free_rows = λ p r e. record { owner0 = z.owner0 p; size0 = z.size0 p; tabs0 = z.tabs0 p };
        fill = λ p j r q l. z.letter0 p j;
        map_agrees = λ s r. z.slots0 s ∙ sym (no_bits 10 s);
        selected_live = λ s r h. absurd (h (z.selected0 s));
        serials_apart = λ s i k r a d e l. absurd (false≢true (sym (free s k) ∙ l));
        serials_fit = λ s k r q. let a = (z.tab0 s k).serial0 in omega arith;
        tabs_hang = λ s k r q l. absurd (false≢true (sym (free s k) ∙ l));
        counts = λ p r. z.tabs0 p ∙ sym (none p);
        some_tab = λ p r e. absurd (false≢true (sym (unused p) ∙ e));
        numbers_apart = λ q p a d e l. absurd (false≢true (sym (unused p) ∙ l));
        numbers_fit = λ p r. let a = z.number0 p in omega arith;
        last_fits = let a = z.last0 in omega arith;
        names = λ p r e. absurd (false≢true (sym (unused p) ∙ e));
        pairs_apart_lem = λ q p a d e. fails (same_pair u q p) (λ t. false≢true (sym (unused p) ∙ (pair_parts u q p t).right));
      }

  pub fresh_long : length (fresh b) ≡ table_bytes
  unfolding fresh
  fresh_long = ordered_long b book 8

  -- a fresh table is sound
  pub fresh_sound : sound_table (fresh b) ≡ true
  fresh_sound = facts_table (fresh b) (record { long = fresh_long; offsets = fresh_offsets; shows = fresh_shows })
