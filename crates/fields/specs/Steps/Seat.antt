-- The tests of soundness/src/seat.rt, and the loop that builds the map. Assumes nothing.
use Rattle.std.specs.Prelude.{◌≡◌, Bool, true, false, not, ◌&&◌, ◌||◌, List, ℕ, ◌+◌, ◌-◌, ◌*◌, ◌%◌, ◌^◌, ◌≤◌, ◌<◌}
use Rattle.std.proofs.Math.Path.{refl}
use Rattle.std.proofs.Common.{ap, ◌∙◌, arith, pow_mono}
use Rattle.std.proofs.Math.Dec.{leb, eqb}
use borrow.Author.Tests.{le-leb, leb-false}
use Rattle.std.specs.Int.{from_bool}
use Rattle.terms.specs.Names.{legal_options}
use Rattle.terms.specs.Laws.Bools.{cases}
use Rattle.fields.specs.Base.{each, one, bits}
use Rattle.fields.specs.Rule.View.{View, tenant, options, selected, seat_zero, opens, slots}
use Rattle.fields.specs.Rule.Layout.{most_opens, view}
use Rattle.fields.specs.Rule.Clause.{seat_in_range, opens_in_range, seat_spare, empty_tab, empty_seat, let_or_empty, map_agrees}
use Rattle.fields.specs.Rule.Clause.{selected_live}
use Rattle.fields.specs.Rule.Word.{live}
use Rattle.fields.specs.Good.{tab_good, seat_good}
use Rattle.fields.specs.Laws.Bits.{bits_lt, bits_next}
use Rattle.fields.specs.Steps.Tab.{free_high}

-- ---- the map of the rows: m has the bits below k, and k is next

one_of : (b : Bool) → from_bool b ≡ one b
unfolding one
one_of true = refl
one_of false = refl

pub map_more : (f : ℕ → Bool) {k m r : ℕ} {b : Bool} → 1 ≤ k → k ≤ 10 → m ≡ bits (k - 1) f → r ≡ from_bool b → b ≡ f k
    → (m + r * 2 ^ (k - 1) % 2 ^ 64 ≡ bits (k + 1 - 1) f) × (m + r * 2 ^ (k - 1) % 2 ^ 64 < 2 ^ 64)
map_more f {k} {m} {r} {b} l h e d o =
    let a : m + r * 2 ^ (k - 1) ≡ bits (k + 1 - 1) f = bits_next f l e (d ∙ one_of b ∙ ap one o) in
    let small : bits (k + 1 - 1) f < 2 ^ (k + 1 - 1) = bits_lt (k + 1 - 1) f in
    let w : k + 1 - 1 ≤ 10 = omega arith in
    let p : 2 ^ (k + 1 - 1) ≤ 2 ^ 10 = pow_mono w in
    let q : r * 2 ^ (k - 1) % 2 ^ 64 ≡ r * 2 ^ (k - 1) = omega arith in
    (omega arith, omega arith)

module _ (v : View) (s : ℕ) where
  -- ---- the tests as the code asks them

  pub range_is : seat_in_range v s ≡ leb (v (tenant s)) 99 && legal_options (v (options s)) && leb (v (selected s)) 10
  unfolding seat_in_range
  range_is = refl

  pub vacant_is : empty_seat v s
      ≡ eqb (v (options s)) 0 && eqb (v (selected s)) 0 && eqb (v (opens s)) 0 && eqb (v (slots s)) 0 && each 10 (λ k. empty_tab v s k)
  unfolding empty_seat
  vacant_is = refl

  pub let_is : let_or_empty v s ≡ not (eqb (v (tenant s)) 0) || empty_seat v s
  unfolding let_or_empty
  let_is = refl

  -- opens has two bytes, which is its range
  pub seat_good_is : v (opens s) ≤ most_opens → seat_good most_opens v s
      ≡ seat_in_range v s && eqb (v (seat_zero s)) 0 && let_or_empty v s && eqb (v (slots s)) (bits 10 (λ k. live v s k))
      && selected_live v s && each 10 (λ k. tab_good v s k)
  unfolding seat_good opens_in_range seat_spare map_agrees
  seat_good_is l = rw (le-leb (v (opens s)) most_opens l) (kept (seat_in_range v s))
    where
      kept : (a : Bool)
          → a && true && eqb (v (seat_zero s)) 0 && let_or_empty v s && eqb (v (slots s)) (bits 10 (λ k. live v s k))
          && selected_live v s && each 10 (λ k. tab_good v s k)
          ≡ a && eqb (v (seat_zero s)) 0 && let_or_empty v s && eqb (v (slots s)) (bits 10 (λ k. live v s k))
          && selected_live v s && each 10 (λ k. tab_good v s k)
      kept true = refl
      kept false = refl

-- no slot above 10 is live
pub selected_is : (t : List ℕ) (s : ℕ) → selected_live (view t) s
    ≡ eqb (view t (selected s)) 0 || (leb (view t (selected s)) 10 && live (view t) s (view t (selected s)))
unfolding selected_live
selected_is t s =
    let k = view t (selected s) in
    cases (leb k 10) (λ e. rw e) (λ e. rw (e, free_high t s k (leb-false k 10 e)))
