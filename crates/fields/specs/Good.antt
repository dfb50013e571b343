-- How the code goes through a table: seat by seat, then process row by process row, each looked at once. `sound_good` in Laws.Good
-- proves that this is the document's `sound`. Assumes nothing.
use Rattle.std.specs.Prelude.{ℕ, ◌-◌, ◌≤◌, ◌≡◌, Bool, true, not, ◌&&◌, ◌||◌, cond, List, leb, eqb, length, get_or}
use Rattle.fields.specs.Base.{each, sum, count}
use Rattle.fields.specs.Rule.View.{View, tabs}
use Rattle.fields.specs.Rule.Clause.{seat_in_range, opens_in_range, seat_spare, row_spare, let_or_empty, filled, map_agrees}
use Rattle.fields.specs.Rule.Clause.{selected_live, same_serial, hangs, counted, same_number, same_pair, last_fits, tab_formed}
use Rattle.fields.specs.Rule.Clause.{row_formed, good_name, empty_row}
use Rattle.fields.specs.Rule.Word.{used, points}

-- a tab row beside the slots below it
unfoldable pub tab_good : View → ℕ → ℕ → Bool
tab_good v s k = tab_formed v s k && hangs v s k && each (k - 1) (λ i. not (same_serial v s i k))

unfoldable pub seat_good : ℕ → View → ℕ → Bool
seat_good most v s =
    seat_in_range v s && opens_in_range most v s && seat_spare v s && let_or_empty v s && map_agrees v s && selected_live v s
    && each 10 (λ k. tab_good v s k)

-- tabs are counted for live rows alone: where every live tab hangs on a live row, none points at a free one
unfoldable pub tabs_true : View → ℕ → Bool
tabs_true v p = cond (used v p) (leb 1 (v (tabs p)) && counted v p) (eqb (v (tabs p)) 0)

-- nothing is left in a free process row
abbrev pub bare_row : View → ℕ → Bool
bare_row v p = empty_row v p && eqb (v (tabs p)) 0 && filled v p

-- two process rows that cannot both be
unfoldable pub clash : View → ℕ → ℕ → Bool
clash v q p = same_number v q p || same_pair v q p

-- a process row beside the rows below it
unfoldable pub row_good : View → ℕ → Bool
row_good v p = row_spare v p && row_formed v p && filled v p && tabs_true v p && each (p - 1) (λ q. not (clash v q p))

-- a live process row whose name is good and stands before zeros
pub record Named (v : View) (p : ℕ) : Type 0 where
  pub live : used v p ≡ true
  pub name : good_name v p ≡ true
  pub fill : filled v p ≡ true

-- the live tabs of seats 1 to n, counted at the numbers of their process rows, 0 to 80
pub record TabCounts (v : View) (n : ℕ) (c : List ℕ) : Type 0 where
  pub long : length c ≡ 81
  pub rows : (p : ℕ) → p ≤ 80 → get_or c p 0 ≡ sum n (λ s. count 10 (λ k. points v p s k))

unfoldable pub good : ℕ → View → Bool
good most v = each 8 (λ s. seat_good most v s) && last_fits v && each 80 (λ p. row_good v p)
