-- The tests of soundness/src/row.rt of a process row in itself, and the loop of `is_filled` in letters/src/lib.rt. Assumes nothing.
use Rattle.std.specs.Prelude.{◌≡◌, Bool, ◌&&◌, ◌||◌, cond, ℕ, ◌-◌, leb, eqb}
use Rattle.std.proofs.Math.Path.{refl}
use Rattle.std.proofs.Math.Bool.{true, false, not, and-false}
use native.Mathlib.Omega.{arith}
use borrow.Author.Tests.{le-leb, leb-true}
use Rattle.terms.specs.Names.{lower, is_name, is_folded}
use Rattle.terms.specs.Laws.Bools.{cases}
use Rattle.fields.specs.Base.{each}
use Rattle.fields.specs.Rule.View.{View, number, owner, tabs, size, row_zero, letter, last}
use Rattle.fields.specs.Rule.Clause.{row_spare, empty_row, filled, number_fits, good_name, name_formed, row_formed}
use Rattle.fields.specs.Rule.Word.{used, name_of}
use Rattle.fields.specs.Good.{tabs_true, bare_row, clash, row_good}
use Rattle.fields.specs.Laws.Sound.{unused_zero}
use Rattle.fields.specs.Laws.Letters.{room_folded, room_dotted}
use Rattle.fields.specs.Steps.Clash.{new_free}

module _ (v : View) (p : ℕ) where
  pub used_is : used v p ≡ not (eqb (v (number p)) 0)
  unfolding used
  used_is = refl

  -- ---- a letter: no capital, no dot

  abbrev small_at : ℕ → Bool
  small_at j = eqb (lower (v (letter p j))) (v (letter p j))

  abbrev plain_at : ℕ → Bool
  plain_at j = not (eqb (v (letter p j)) 46)

  pub fill_is : filled v p ≡ each 64 (λ j. leb j (v (size p)) || eqb (v (letter p j)) 0)
  unfolding filled
  fill_is = refl

  -- ---- the tests as the code asks them

  pub bare_is : bare_row v p ≡ eqb (v (owner p)) 0 && eqb (v (size p)) 0 && eqb (v (tabs p)) 0 && filled v p
  unfolding empty_row
  bare_is = refl

  -- the letters of the room tell what the name does
  pub name_is : filled v p ≡ true → good_name v p
      ≡ leb 3 (v (size p)) && leb (v (size p)) 64 && is_name (name_of v p) && each 64 small_at && not (each 64 plain_at)
  unfolding good_name
  name_is f =
      cases (leb (v (size p)) 64)
      (λ e.
      let short = leb-true (v (size p)) 64 e in
      rw (room_folded v p short f, room_dotted v p short f, e)
      (turned (is_name (name_of v p)) (each 64 small_at) (leb 3 (v (size p))) (not (each 64 plain_at))))
      (λ e. rw (e, and-false (leb 3 (v (size p))), and-false (is_name (name_of v p) && is_folded (name_of v p))))
    where
      turned : (a b d x : Bool) → a && b && (d && true) && x ≡ d && true && a && b && x
      turned true true true x = refl
      turned true true false x = refl
      turned true false true x = refl
      turned true false false x = refl
      turned false b true x = refl
      turned false b false x = refl

  live_turned : (a b d e x y : Bool) → a && (true && b && d) && e && x && y ≡ a && (b && e && d && x && y)
  live_turned true true true true x y = refl
  live_turned true true true false x y = refl
  live_turned true true false true x y = refl
  live_turned true true false false x y = refl
  live_turned true false d e x y = refl
  live_turned false b d e x y = refl

  free_turned : (a b d e : Bool) → a && (b && true && true) && e && d && true ≡ a && (b && d && e)
  free_turned true true true true = refl
  free_turned true true true false = refl
  free_turned true true false true = refl
  free_turned true true false false = refl
  free_turned true false d e = refl
  free_turned false b d e = refl

  live_row : used v p ≡ true → row_good v p
      ≡ eqb (v (row_zero p)) 0
      && (leb (v (number p)) (v last) && filled v p && good_name v p && tabs_true v p && each (p - 1) (λ q. not (clash v q p)))
  unfolding row_good row_spare row_formed number_fits name_formed
  live_row u =
      rw u
      (live_turned (eqb (v (row_zero p)) 0) (leb (v (number p)) (v last)) (good_name v p) (filled v p) (tabs_true v p)
      (each (p - 1) (λ q. not (clash v q p))))

  free_row : used v p ≡ false → row_good v p ≡ eqb (v (row_zero p)) 0 && bare_row v p
  unfolding row_good row_spare row_formed number_fits name_formed tabs_true
  free_row u =
      rw (u, new_free v p u, le-leb (v (number p)) (v last) (let n = unused_zero v p u in omega arith))
      (free_turned (eqb (v (row_zero p)) 0) (empty_row v p) (eqb (v (tabs p)) 0) (filled v p))

  pub row_is : row_good v p
      ≡ eqb (v (row_zero p)) 0
      && cond (used v p)
      (leb (v (number p)) (v last) && filled v p && good_name v p && tabs_true v p && each (p - 1) (λ q. not (clash v q p)))
      (bare_row v p)
  row_is = cases (used v p) (λ u. rw u (live_row u)) (λ u. rw u (free_row u))
