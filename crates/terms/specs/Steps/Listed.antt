-- Equations and steps that names/src/listed.rt goes by. Assumes nothing.
use Rattle.std.specs.Prelude.{◌≡◌, refl, Bool, true, false, ◌&&◌, ◌⊎◌, Option, Some, None, MatchOption, slice_range, not, length, take, drop, ◌||◌, ltb}
use Rattle.std.specs.Ordering.{nat_cmp, is_le, is_some_and}
use Rattle.std.specs.Cmp.Lexicographic.{slice_partial_cmp}
use Rattle.std.proofs.Math.Path.{ap}
use Rattle.std.proofs.lemmas.Bool.{false≢true}
use Rattle.std.proofs.lemmas.Cmp.{same_from_slice_cmp_tested}
use Rattle.std.proofs.Math.Bool.{and-true}
use mathlib.Core.List.{List, [], ◌∷◌}
use Prim.Native.Nat.{ℕ, suc, ◌+◌, ◌-◌, ◌≤◌, ◌<◌}
use Rattle.std.proofs.Common.{sym, ◌∙◌, get_or-take, get_or-drop, drop-drop, length-take-le, length-drop, add-zero, ap₂, ⊎_elim, add-one, drop_of_length-le, drop-cons}
use Rattle.std.proofs.lemmas.List.{drop-take, take-take}
use native.Mathlib.Omega.{arith}
use Rattle.std.proofs.lemmas.Bool.Decides.{nat_tests}
use Rattle.std.proofs.Math.ListN.{get_or}
use Rattle.std.proofs.Math.Dec.{eqb}
use borrow.Author.Tests.{ne_eqb}
use Rattle.terms.specs.Base.{within, every, rising}
use Rattle.terms.specs.Rule.Name.{is_name, is_folded}
use Rattle.terms.specs.Rule.Listed.{before, is_listed, sound_names}
use Rattle.terms.specs.Rule.Book.{name_at, next_at, names_from, end_from}
use Rattle.terms.specs.Laws.Book.{end_fits}
use Rattle.terms.specs.Laws.Lists.{rising_step, rising_bottom}

-- ---- byte order

-- std's order of slices
pub not_before : (t s : List ℕ) (r : Bool) → r ≡ is_some_and is_le (slice_partial_cmp (λ x y. Some (nat_cmp x y)) t s) → r ≡ not (before s t)
unfolding before
not_before =
    same_from_slice_cmp_tested nat_cmp is_le (λ t s. not (before s t)) refl (λ _ _. refl) (λ _ _. refl)
    (λ x y xs ys o h. grind (arith, nat_tests))

pub before_step : (s t : List ℕ) (i : ℕ) → i < length s → i < length t
    → before (drop i s) (drop i t)
    ≡ ltb (get_or s i 0) (get_or t i 0) || eqb (get_or s i 0) (get_or t i 0) && before (drop (i + 1) s) (drop (i + 1) t)
unfolding before
before_step s t i h k = rw (add-one, drop-cons s i 0 h, drop-cons t i 0 k)

pub before_out : (s t : List ℕ) (i : ℕ) → length s ≤ i → i < length t → before (drop i s) (drop i t) ≡ true
unfolding before
before_out s t i h k = rw (drop_of_length-le s h, drop-cons t i 0 k)

before_nothing : (s : List ℕ) → before s [] ≡ false
unfolding before
before_nothing [] = refl
before_nothing (x ∷ s) = refl

pub before_end : (s t : List ℕ) (i : ℕ) → length t ≤ i → before (drop i s) (drop i t) ≡ false
before_end s t i h = rw (drop_of_length-le t h) (before_nothing (drop i s))

-- ---- one listed name

pub listed_is : (n : List ℕ) → is_listed n ≡ within 1 62 (length n) && is_name n && is_folded n
unfolding is_listed
listed_is n = refl

pub next_is : (b : List ℕ) (at : ℕ) → next_at b at ≡ at + 1 + get_or b at 0
unfolding next_at
next_is b at = refl

-- ---- the name at a place, read of the bytes before another

pub past_end : (b : List ℕ) (at until : ℕ) → until ≤ at → until < next_at b at
past_end b at until l = omega (arith, next_is b at)

-- its length byte and what stands behind that
module _ (b r : List ℕ) (at until y : ℕ) (e : drop at (take until b) ≡ y ∷ r) (l : at < until) (f : until ≤ length b) where
  name_size : y ≡ get_or b at 0
  name_size =
      ap (λ (s : List ℕ). get_or s 0 0) (sym e) ∙ get_or-drop at (take until b) 0 0
      ∙ ap (λ (i : ℕ). get_or (take until b) i 0) (add-zero at) ∙ get_or-take until b at 0 l

  name_rest : r ≡ take (until - (at + 1)) (drop (at + 1) b)
  name_rest =
      let k : until ≡ at + 1 + (until - (at + 1)) = omega arith in
      ap (drop 1) (sym e) ∙ drop-drop 1 at (take until b) ∙ ap (λ (i : ℕ). drop (at + 1) (take i b)) k
      ∙ drop-take (at + 1) (until - (at + 1)) b

  rest_length : length r ≡ until - (at + 1)
  rest_length =
      ap length name_rest
      ∙ length-take-le (until - (at + 1)) (drop (at + 1) b) (omega (arith, length-drop (at + 1) b))

  -- so many bytes of that are the name, if there are so many
  pub name_got : {X : Type 0} (now : X → List ℕ) (w : ℕ) (o : Option X) → w ≡ y
      → MatchOption o ((w < 0) ⊎ (length r < w)) (λ x. (0 ≤ w) × (w ≤ length r) × (now x ≡ slice_range r 0 w) × (length (now x) + 0 ≡ w))
      → MatchOption o (until < next_at b at) (λ x. (next_at b at ≤ until) × (now x ≡ name_at b at))
  unfolding name_at
  name_got now w None q m = ⊎_elim (λ n. absurd (omega arith)) (λ n. omega (arith, next_is b at, name_size, rest_length)) m
  name_got now w (Some x) q m =
      let n = m.1 in
      let k : w - 0 ≡ get_or b at 0 = omega (arith, name_size) in (
        omega (arith, next_is b at, name_size, rest_length),
        m.2 ∙ ap₂ (λ (n : ℕ) (l : List ℕ). take n l) k name_rest
            ∙ take-take (get_or b at 0) (until - (at + 1)) (drop (at + 1) b) (omega (arith, rest_length, name_size)),
      )

-- how many bytes it has
pub name_long : (b : List ℕ) (at : ℕ) → next_at b at ≤ length b → length (name_at b at) ≡ get_or b at 0
unfolding name_at
name_long b at h = length-take-le (get_or b at 0) (drop (at + 1) b) (omega (arith, next_is b at, length-drop (at + 1) b))

-- ---- the names from a place on that are left after the first i of n are sound after a name, and end where they must

name_above : (n : List ℕ) → is_listed n ≡ true → before [] n ≡ true
unfolding is_listed before
name_above [] e = absurd (false≢true e)
name_above (x ∷ n) e = refl

turn : (a c d : Bool) → a && (c && d) ≡ c && (a && d)
turn true true d = refl
turn true false d = refl
turn false true d = refl
turn false false d = refl

module _ (b : List ℕ) (until : ℕ) where
  pub chain : List ℕ → ℕ → ℕ → ℕ → Bool
  chain p at i n =
      eqb (end_from b at (n - i)) until
      && (every is_listed (names_from b at (n - i)) && rising before (p ∷ names_from b at (n - i)))

  pub chain_start : (at n : ℕ) → eqb (end_from b at n) until && sound_names (names_from b at n) ≡ chain [] at 0 n
  unfolding sound_names chain
  chain_start at n =
      let e : n - 0 ≡ n = omega arith in
      rw e (ap (λ (x : Bool). eqb (end_from b at n) until && x) (rising_bottom is_listed before [] name_above (names_from b at n)))

  pub chain_more : (p : List ℕ) (at i n : ℕ) → i < n
      → chain p at i n ≡ is_listed (name_at b at) && before p (name_at b at) && chain (name_at b at) (next_at b at) (i + 1) n
  unfolding chain names_from end_from
  chain_more p at i n h =
      let e : n - i ≡ suc (n - (i + 1)) = omega arith in
      let m = name_at b at in
      let ns = names_from b (next_at b at) (n - (i + 1)) in
      rw (e, rising_step is_listed before p m ns)
      (turn (eqb (end_from b (next_at b at) (n - (i + 1))) until) (is_listed m && before p m) (every is_listed ns && rising before (m ∷ ns)))

  -- a name that is passed
  pub chain_passed : (p m : List ℕ) (at i n : ℕ) → i < n → until ≤ length b → next_at b at ≤ until → m ≡ name_at b at
      → is_listed m ≡ true → not (before p m) ≡ false → chain p at i n ≡ chain m (at + (1 + length m)) (i + 1) n
  chain_passed p m at i n h u f e l g =
      let d : before p m ≡ true = grind (arith, nat_tests) in
      let k : next_at b at ≡ at + (1 + length m) = omega (arith, next_is b at, name_long b at (omega arith), ap length e) in
      chain_more p at i n h ∙ rw (← e, l, d, k)

  pub chain_out : (p : List ℕ) (at i n : ℕ) → i < n → until < next_at b at → chain p at i n ≡ false
  unfolding chain
  chain_out p at i n h l =
      let f = end_fits b at (n - i) (omega arith) in
      rw (ne_eqb (end_from b at (n - i)) until (λ q. omega arith))

  pub chain_end : (p : List ℕ) (at i n : ℕ) → n ≤ i → chain p at i n ≡ eqb at until
  unfolding chain names_from end_from every rising
  chain_end p at i n h = let e : n - i ≡ 0 = omega arith in rw e (and-true (eqb at until))

pub ruleset chained = (chain_start, chain_more, chain_out, chain_end, name_long, next_is)
