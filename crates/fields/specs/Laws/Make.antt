-- A process row made for a tab, document 01, "the lowest free process row gets last number + 1 (the new last number), the owner and
-- the folded suffix": every field after it. Assumes nothing.
use Rattle.std.specs.Prelude.{◌≡◌, ◌≢◌, List, ℕ, ◌+◌, ◌-◌, length, get_or}
use Rattle.std.proofs.Math.Path.{refl}
use Rattle.terms.specs.Base.{Range}
use Rattle.terms.specs.Names.{folded}
use Rattle.fields.specs.Rule.View.{View, number, owner, tabs, size, row_zero, letter, last}
use Rattle.fields.specs.Rule.Update.{making}
use Rattle.fields.specs.Change.{kind, major, minor, same_field, change, change_name, changes}
use Rattle.fields.specs.Laws.Rows.{KeptRow}
use Rattle.fields.specs.Laws.Still.{Offsets, SeatsStill, skip, take!, skip_name, take_name, only, seats_left}

-- ---- every field after a row is made

pub record Made (v u : View) (p o : ℕ) (suffix : List ℕ) : Type 0 where
  pub seats : SeatsStill v u
  pub others : (q : ℕ) → q ≢ p → KeptRow v u q
  pub tabs= : (q : ℕ) → u (tabs q) ≡ v (tabs q)
  pub row_zero= : (q : ℕ) → u (row_zero q) ≡ v (row_zero q)
  pub number! : u (number p) ≡ v last + 1
  pub owner! : u (owner p) ≡ o
  pub size! : u (size p) ≡ length suffix
  pub letter! : (j : ℕ) → Range 1 64 j → u (letter p j) ≡ get_or (folded suffix) (j - 1) 0
  pub last! : u last ≡ v last + 1
  pub offsets : Offsets v u

module _ (v : View) (p o : ℕ) (suffix : List ℕ) where
  abbrev made_view : View
  made_view = changes v (making v p o suffix)

  made_others : (q : ℕ) → q ≢ p → KeptRow v made_view q
  unfolding changes making change change_name same_field kind major minor
  made_others q h =
      record {
        number= = skip p q (v last + 1) (v (number q)) h;
        owner= = skip p q o (v (owner q)) h;
        size= = skip p q (length suffix) (v (size q)) h;
        letter= = λ j. skip_name p q j (get_or (folded suffix) (j - 1) 0) (v (letter q j)) h;
      }

  pub made_fields : Made v made_view p o suffix
  unfolding only changes making change change_name same_field kind major minor
  made_fields =
      record {
        seats = seats_left v (making v p o suffix) refl;
        others = made_others;
        tabs= = λ q. refl;
        row_zero= = λ q. refl;
        number! = take! p (v last + 1) (v (number p));
        owner! = take! p o (v (owner p));
        size! = take! p (length suffix) (v (size p));
        letter! = λ j r. take_name p j (get_or (folded suffix) (j - 1) 0) (v (letter p j)) r;
        last! = refl;
        offsets = record { seats_at= = refl; rows_at= = refl };
      }
