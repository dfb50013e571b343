-- What an update leaves alone: fields of other kinds than those it writes, so all of the seats, or all of the process rows but
-- their tab counts; and the tests by which a changed view tells fields apart. Assumes nothing.
use Rattle.std.specs.Prelude.{◌≡◌, refl, Bool, true, false, ◌&&◌, ◌||◌, cond, ◌≢◌, List, [], ◌∷◌, ℕ, eqb, leb}
use Rattle.std.proofs.Common.{sym, ap, ◌∙◌, ⊎_elim, eq-eqb, ne_eqb, eqb-true}
use Rattle.std.proofs.Math.Bool.{and-false}
use Rattle.std.proofs.lemmas.Bool.{false≢true}
use Rattle.terms.specs.Base.{within, Range}
use Rattle.terms.specs.Laws.Bools.{and_left, and_right, fails}
use Rattle.fields.specs.Rule.View.{View, Field, tenant, options, selected, seat_zero, opens, slots, serial, row, waiting}
use Rattle.fields.specs.Rule.View.{number, owner, size, row_zero, letter, seats_at, rows_at, last}
use Rattle.fields.specs.Rule.Update.{Write, ◌≔◌, name_of_row}
use Rattle.fields.specs.Change.{kind, same_field, change, change_name, changes}
use Rattle.fields.specs.Laws.Each.{in_range}
use Rattle.fields.specs.Laws.Seats.{Elsewhere, Changed}
use Rattle.fields.specs.Laws.Rows.{KeptRow}

-- ---- one field, or another

pub skip : (s r x y : ℕ) → r ≢ s → cond (eqb s r) x y ≡ y
skip s r x y h = rw (ne_eqb s r (λ e. h (sym e)))

pub take! : (s x y : ℕ) → cond (eqb s s) x y ≡ x
take! s x y = rw (eq-eqb s s refl)

pub skip_tab : (s k r j x y : ℕ) → Elsewhere s k r j → cond (eqb k j && eqb s r) x y ≡ y
skip_tab s k r j x y =
    ⊎_elim (λ (h : r ≢ s). rw (ne_eqb s r (λ e. h (sym e)), and-false (eqb k j))) (λ (h : j ≢ k). rw (ne_eqb k j (λ e. h (sym e))))

pub take_tab : (s k x y : ℕ) → cond (eqb k k && eqb s s) x y ≡ x
take_tab s k x y = rw (eq-eqb k k refl, eq-eqb s s refl)

pub skip_name : (p q j x y : ℕ) → q ≢ p → cond (eqb p q && within 1 64 j) x y ≡ y
skip_name p q j x y h = rw (ne_eqb p q (λ e. h (sym e)))

pub take_name : (p j x y : ℕ) → Range 1 64 j → cond (eqb p p && within 1 64 j) x y ≡ x
take_name p j x y r = rw (eq-eqb p p refl, in_range r)

-- ---- what is left alone

-- the trailer's offsets
pub record Offsets (v u : View) : Type 0 where
  pub seats_at= : u seats_at ≡ v seats_at
  pub rows_at= : u rows_at ≡ v rows_at

pub offsets_then : {v u w : View} → Offsets v u → Offsets u w → Offsets v w
offsets_then a b = record { seats_at= = b.seats_at= ∙ a.seats_at=; rows_at= = b.rows_at= ∙ a.rows_at= }

pub record SeatsStill (v u : View) : Type 0 where
  pub tenant= : (r : ℕ) → u (tenant r) ≡ v (tenant r)
  pub options= : (r : ℕ) → u (options r) ≡ v (options r)
  pub seat_zero= : (r : ℕ) → u (seat_zero r) ≡ v (seat_zero r)
  pub selected= : (r : ℕ) → u (selected r) ≡ v (selected r)
  pub opens= : (r : ℕ) → u (opens r) ≡ v (opens r)
  pub slots= : (r : ℕ) → u (slots r) ≡ v (slots r)
  pub serial= : (r j : ℕ) → u (serial r j) ≡ v (serial r j)
  pub row= : (r j : ℕ) → u (row r j) ≡ v (row r j)
  pub waiting= : (r j : ℕ) → u (waiting r j) ≡ v (waiting r j)

-- process rows and the trailer's last number, tab counts apart
pub record RowsStill (v u : View) : Type 0 where
  pub same : (q : ℕ) → KeptRow v u q
  pub row_zero= : (q : ℕ) → u (row_zero q) ≡ v (row_zero q)
  pub last= : u last ≡ v last
  pub offsets : Offsets v u

-- every write is of a field whose kind passes
unfoldable pub only : (ℕ → Bool) → List Write → Bool
only f [] = true
only f ((g ≔ x) ∷ ws) = f (kind g) && only f ws
only f (name_of_row p name ∷ ws) = f 14 && only f ws

other_kind : (f : ℕ → Bool) (a b : ℕ) → f a ≡ true → f b ≡ false → eqb a b ≡ false
other_kind f a b e h = fails (eqb a b) (λ q. false≢true (sym h ∙ ap f (sym (eqb-true a b q)) ∙ e))

-- a field of another kind is as it was
unwritten : (f : ℕ → Bool) (v : View) (ws : List Write) → only f ws ≡ true → (g : Field) → f (kind g) ≡ false
    → changes v ws g ≡ v g
unfolding only changes change change_name same_field
unwritten f v [] h g e = refl
unwritten f v ((i ≔ x) ∷ ws) h g e =
    unwritten f (change v i x) ws (and_right (f (kind i)) (only f ws) h) g e
    ∙ rw (other_kind f (kind i) (kind g) (and_left (f (kind i)) (only f ws) h) e)
unwritten f v (name_of_row p name ∷ ws) h g e =
    unwritten f (change_name v p name 64) ws (and_right (f 14) (only f ws) h) g e
    ∙ rw (other_kind f 14 (kind g) (and_left (f 14) (only f ws) h) e)

-- writes of process rows and the trailer
pub seats_left : (v : View) (ws : List Write) → only (leb 9) ws ≡ true → SeatsStill v (changes v ws)
unfolding kind
seats_left v ws h =
    let left = unwritten (leb 9) v ws h in
    record {
      tenant= = λ r. left (tenant r) refl;
      options= = λ r. left (options r) refl;
      seat_zero= = λ r. left (seat_zero r) refl;
      selected= = λ r. left (selected r) refl;
      opens= = λ r. left (opens r) refl;
      slots= = λ r. left (slots r) refl;
      serial= = λ r j. left (serial r j) refl;
      row= = λ r j. left (row r j) refl;
      waiting= = λ r j. left (waiting r j) refl;
    }

pub still_refl : (v : View) → SeatsStill v v
unfolding only changes
still_refl v = seats_left v [] refl

-- writes of seats, tab rows and tab counts
pub rows_left : (v : View) (ws : List Write) → only (λ n. leb n 8 || eqb n 11) ws ≡ true → RowsStill v (changes v ws)
unfolding kind
rows_left v ws h =
    let left = unwritten (λ n. leb n 8 || eqb n 11) v ws h in
    record {
      same = λ q.
          record {
            number= = left (number q) refl;
            owner= = left (owner q) refl;
            size= = left (size q) refl;
            letter= = λ j. left (letter q j) refl;
          };
      row_zero= = λ q. left (row_zero q) refl;
      last= = left last refl;
      offsets = record { seats_at= = left seats_at refl; rows_at= = left rows_at refl };
    }

-- ---- before or after a change of a tab row

pub changed_after : (v m u : View) (s k : ℕ) → SeatsStill v m → Changed m u s k → Changed v u s k
changed_after v m u s k a c =
    record {
      tenant= = λ r. c.tenant= r ∙ a.tenant= r;
      options= = λ r. c.options= r ∙ a.options= r;
      seat_zero= = λ r. c.seat_zero= r ∙ a.seat_zero= r;
      selected= = λ r h. c.selected= r h ∙ a.selected= r;
      opens= = λ r h. c.opens= r h ∙ a.opens= r;
      slots= = λ r h. c.slots= r h ∙ a.slots= r;
      serial= = λ r j e. c.serial= r j e ∙ a.serial= r j;
      row= = λ r j e. c.row= r j e ∙ a.row= r j;
      waiting= = λ r j e. c.waiting= r j e ∙ a.waiting= r j;
    }

pub changed_before : (v u w : View) (s k : ℕ) → Changed v u s k → SeatsStill u w → Changed v w s k
changed_before v u w s k c a =
    record {
      tenant= = λ r. a.tenant= r ∙ c.tenant= r;
      options= = λ r. a.options= r ∙ c.options= r;
      seat_zero= = λ r. a.seat_zero= r ∙ c.seat_zero= r;
      selected= = λ r h. a.selected= r ∙ c.selected= r h;
      opens= = λ r h. a.opens= r ∙ c.opens= r h;
      slots= = λ r h. a.slots= r ∙ c.slots= r h;
      serial= = λ r j e. a.serial= r j ∙ c.serial= r j e;
      row= = λ r j e. a.row= r j ∙ c.row= r j e;
      waiting= = λ r j e. a.waiting= r j ∙ c.waiting= r j e;
    }
