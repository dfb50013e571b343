-- A close, document 01, "Key 25": the tab row and its map bit are cleared, the tab count falls by 1, and a process row left without
-- tabs is cleared. Every field after each of the two. Assumes nothing.
use Rattle.std.specs.Prelude.{◌≡◌, ◌≢◌, ℕ, ◌-◌, ◌^◌}
use Rattle.std.proofs.Math.Path.{refl}
use Rattle.terms.specs.Base.{Range}
use Rattle.fields.specs.Rule.View.{View, selected, opens, slots, serial, row, waiting, number, owner, tabs, size, row_zero}
use Rattle.fields.specs.Rule.View.{letter, last}
use Rattle.fields.specs.Rule.Update.{unhanging, clearing}
use Rattle.fields.specs.Change.{kind, major, minor, same_field, change, change_name, changes}
use Rattle.fields.specs.Laws.Sound.{EmptyTab}
use Rattle.fields.specs.Laws.Seats.{Changed}
use Rattle.fields.specs.Laws.Rows.{KeptRow}
use Rattle.fields.specs.Laws.Still.{Offsets, SeatsStill, RowsStill, skip, take!, skip_tab, take_tab}
use Rattle.fields.specs.Laws.Still.{skip_name, take_name, only, seats_left, rows_left}

-- ---- every field after a tab is taken off its row

pub record Unhung (v u : View) (s k p : ℕ) : Type 0 where
  pub rest : Changed v u s k
  pub rows : RowsStill v u
  pub tabs= : (q : ℕ) → q ≢ p → u (tabs q) ≡ v (tabs q)
  pub gone : EmptyTab u s k
  pub selected! : u (selected s) ≡ 0
  pub opens! : u (opens s) ≡ v (opens s)
  pub slots! : u (slots s) ≡ v (slots s) - 2 ^ (k - 1)
  pub tabs! : u (tabs p) ≡ v (tabs p) - 1

module _ (v : View) (s k p : ℕ) where
  abbrev unhung_view : View
  unhung_view = changes v (unhanging v s k p)

  unhung_rest : Changed v unhung_view s k
  unfolding changes unhanging change same_field kind major minor
  unhung_rest =
      record {
        tenant= = λ r. refl;
        options= = λ r. refl;
        seat_zero= = λ r. refl;
        selected= = λ r h. skip s r 0 (v (selected r)) h;
        opens= = λ r h. refl;
        slots= = λ r h. skip s r (v (slots s) - 2 ^ (k - 1)) (v (slots r)) h;
        serial= = λ r j e. skip_tab s k r j 0 (v (serial r j)) e;
        row= = λ r j e. skip_tab s k r j 0 (v (row r j)) e;
        waiting= = λ r j e. skip_tab s k r j 0 (v (waiting r j)) e;
      }

  pub unhung_fields : Unhung v unhung_view s k p
  unfolding only changes unhanging change same_field kind major minor
  unhung_fields =
      record {
        rest = unhung_rest;
        rows = rows_left v (unhanging v s k p) refl;
        tabs= = λ q h. skip p q (v (tabs p) - 1) (v (tabs q)) h;
        gone =
            record {
              serial0 = take_tab s k 0 (v (serial s k));
              row0 = take_tab s k 0 (v (row s k));
              waiting0 = take_tab s k 0 (v (waiting s k));
            };
        selected! = take! s 0 (v (selected s));
        opens! = refl;
        slots! = take! s (v (slots s) - 2 ^ (k - 1)) (v (slots s));
        tabs! = take! p (v (tabs p) - 1) (v (tabs p));
      }

-- ---- every field after a row is cleared

pub record GoneRow (u : View) (p : ℕ) : Type 0 where
  pub number0 : u (number p) ≡ 0
  pub owner0 : u (owner p) ≡ 0
  pub tabs0 : u (tabs p) ≡ 0
  pub size0 : u (size p) ≡ 0
  pub letter0 : (j : ℕ) → Range 1 64 j → u (letter p j) ≡ 0

pub record Cleared (v u : View) (p : ℕ) : Type 0 where
  pub seats : SeatsStill v u
  pub others : (q : ℕ) → q ≢ p → KeptRow v u q
  pub tabs= : (q : ℕ) → q ≢ p → u (tabs q) ≡ v (tabs q)
  pub row_zero= : (q : ℕ) → u (row_zero q) ≡ v (row_zero q)
  pub gone_row : GoneRow u p
  pub last= : u last ≡ v last
  pub offsets : Offsets v u

module _ (v : View) (p : ℕ) where
  abbrev cleared_view : View
  cleared_view = changes v (clearing p)

  cleared_others : (q : ℕ) → q ≢ p → KeptRow v cleared_view q
  unfolding changes clearing change change_name same_field kind major minor
  cleared_others q h =
      record {
        number= = skip p q 0 (v (number q)) h;
        owner= = skip p q 0 (v (owner q)) h;
        size= = skip p q 0 (v (size q)) h;
        letter= = λ j. skip_name p q j 0 (v (letter q j)) h;
      }

  pub cleared_fields : Cleared v cleared_view p
  unfolding only changes clearing change change_name same_field kind major minor
  cleared_fields =
      record {
        seats = seats_left v (clearing p) refl;
        others = cleared_others;
        tabs= = λ q h. skip p q 0 (v (tabs q)) h;
        row_zero= = λ q. refl;
        gone_row =
            record {
              number0 = take! p 0 (v (number p));
              owner0 = take! p 0 (v (owner p));
              tabs0 = take! p 0 (v (tabs p));
              size0 = take! p 0 (v (size p));
              letter0 = λ j r. take_name p j 0 (v (letter p j)) r;
            };
        last= = refl;
        offsets = record { seats_at= = refl; rows_at= = refl };
      }
