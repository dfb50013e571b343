-- Steps of names/src/longest.rt. Assumes nothing.
use Rattle.std.specs.Prelude.{◌≡◌, ◌⊎◌, refl, Bool, true, false, not, ◌&&◌, cond, Option, Some, None, List, [], ◌∷◌, ◌++◌, ℕ, zero, suc, ◌+◌, ◌-◌, ◌≤◌, ◌<◌, max, reverse, length, take, eqb, ltb}
use Rattle.std.specs.List.{position_or_len}
use Rattle.std.specs.Option.{unwrap_or, option_partial_cmp}
use Rattle.std.specs.Ordering.{nat_cmp, partial_lt}
use Rattle.std.proofs.lemmas.Bool.Decides.{nat_tests}
use Rattle.std.proofs.Common.{sym, ap, ◌∙◌, arith, length-append, length-take-le, le-ltb, ltb-false, ltb-true, inl, inr}
use Rattle.std.proofs.lemmas.List.{length-reverse, reverse-append, reverse-reverse}
use Rattle.std.proofs.lemmas.List.Sums.{prefix_len-le-length}
use Rattle.std.proofs.Math.Bool.{and-false}
use Rattle.terms.specs.Base.{within, every, rising, last_of, if_any}
use Rattle.terms.specs.Rule.Name.{labels, is_name, is_folded}
use Rattle.terms.specs.Rule.Under.{under}
use Rattle.terms.specs.Rule.Book.{name_at, next_at, names_from, names_at, names_count, end_from, listed, sound_book}
use Rattle.terms.specs.Rule.Listed.{before, is_listed, sound_names}
use Rattle.terms.specs.Rule.Suffix.{matched, public_of, with_label}
use Rattle.terms.specs.Laws.Bools.{and_left, and_right, cases, within_at}
use Rattle.terms.specs.Laws.Book.{sound_parts, names_fit, end_fits}
use Rattle.terms.specs.Laws.Labels.{last_snoc}
use Rattle.terms.specs.Laws.Stands.{with_label_is}
use Rattle.terms.specs.Steps.Listed.{next_is, name_long}

-- ---- how many bytes stand after the last dot: as many as come before the first one from the end

back : (r : List ℕ) → position_or_len (λ x. eqb x 46) r ≡ length (last_of (labels (reverse r)))
unfolding labels last_of
back [] = refl
back (x ∷ r) =
    let e : reverse (x ∷ r) ≡ reverse r ++ x ∷ [] = reverse-append (x ∷ []) r in
    rw (e, last_snoc (reverse r) x)
    (cases (eqb x 46) (λ d. rw d) (λ d. rw d (omega (arith, back r, length-append (last_of (labels (reverse r))) (x ∷ [])))))

front : List ℕ → ℕ
front r = position_or_len (λ x. eqb x 46) r

front_short : (r : List ℕ) → front r ≤ length r
unfolding front
front_short r = prefix_len-le-length (λ x. not (eqb x 46)) r

front_last : (s : List ℕ) → front (reverse s) ≡ length (last_of (labels s))
unfolding front
front_last s = back (reverse s) ∙ ap (λ (l : List ℕ). length (last_of (labels l))) (reverse-reverse s)

pub last_back : (s : List ℕ) (r : Option ℕ) (n : ℕ)
    → r ≡ cond (ltb (position_or_len (λ x. eqb x 46) (reverse s)) (length (reverse s))) (Some (position_or_len (λ x. eqb x 46) (reverse s))) None
    → n ≡ unwrap_or r (length s) → n ≡ length (last_of (labels s))
unfolding front
last_back s r n e f =
    let l = front_short (reverse s) in
    let k = length-reverse s in
    cases (ltb (front (reverse s)) (length (reverse s)))
    (λ t. let d : r ≡ Some (front (reverse s)) = e ∙ rw t in f ∙ ap (λ (o : Option ℕ). unwrap_or o (length s)) d ∙ front_last s)
    (λ t.
    let h = ltb-false (front (reverse s)) (length (reverse s)) t in
    let q : length s ≡ front (reverse s) = omega arith in
    let d : r ≡ None = e ∙ rw t in
    f ∙ ap (λ (o : Option ℕ). unwrap_or o (length s)) d ∙ q ∙ front_last s)

last_short : (s : List ℕ) → length (last_of (labels s)) ≤ length s
last_short s = omega (arith, front_short (reverse s), front_last s, length-reverse s)

-- ---- one label more

pub no_label : (h : List ℕ) (m : ℕ) → m ≡ 0 → if_any (with_label h m) ≡ None
unfolding with_label
no_label h m l = rw (le-ltb 0 m (omega arith))

pub no_more : (h : List ℕ) (m : ℕ) → length h ≤ m → if_any (with_label h m) ≡ None
unfolding with_label
no_more h m l = rw (le-ltb m (length h) l, and-false)

pub one_more : (h : List ℕ) (m n : ℕ) → 0 < m → m < length h → n ≡ length (last_of (labels (take (length h - (m + 1)) h)))
    → if_any (with_label h m) ≡ Some (n + 1 + m)
one_more h m n p l e =
    let k : n + 1 + m ≡ suc (n + m) = omega arith in
    rw (with_label_is h m p l, ← e, k)

pub fits : (h : List ℕ) (m n : ℕ) → m < length h → n ≡ length (last_of (labels (take (length h - (m + 1)) h))) → n + 1 + m ≤ length h
fits h m n l e = let k = last_short (take (length h - (m + 1)) h) in omega (arith, length-take-le (length h - (m + 1)) h (omega arith))

-- what is taken with one label more stands in the host
pub label_fits : (h : List ℕ) (m : ℕ) → with_label h m ≤ length h
unfolding with_label
label_fits h m =
    cases (ltb 0 m)
    (λ a.
    cases (ltb m (length h))
    (λ d.
    let q = ltb-true m (length h) d in
    let e = with_label_is h m (ltb-true 0 m a) q in
    let k = fits h m (length (last_of (labels (take (length h - (m + 1)) h)))) q refl in
    rw e k)
    (λ d. rw (d, and-false (ltb 0 m)) (omega arith)))
    (λ a. rw a (omega arith))

pub ruleset labelled = (no_label, no_more, one_more, fits)

-- ---- the longest match, as far as it is found, and the names that are left after the first i of n

pub matched_step : (h b : List ℕ) (at k : ℕ) → 0 < k
    → matched h (names_from b at k)
    ≡ max (cond (under h (name_at b at)) (length (name_at b at)) 0) (matched h (names_from b (next_at b at) (k - 1)))
unfolding matched names_from
matched_step h b at zero l = absurd (omega arith)
matched_step h b at (suc k) l = let e : suc k - 1 ≡ k = omega arith in rw e

pub matched_end : (h b : List ℕ) (at k : ℕ) → k ≤ 0 → matched h (names_from b at k) ≡ 0
unfolding matched names_from
matched_end h b at zero l = refl
matched_end h b at (suc k) l = absurd (omega arith)

-- a count as a number
pub or_zero : Option ℕ → ℕ
or_zero None = 0
or_zero (Some m) = m

-- std's order of a match and a count that is not 0
pub longer : (best : Option ℕ) (k : ℕ) (r : Bool) → 0 < k
    → r ≡ partial_lt (option_partial_cmp (λ x y. Some (nat_cmp x y))) best (Some k) → r ≡ ltb (or_zero best) k
unfolding or_zero
longer None k r p e = grind (arith, nat_tests)
longer (Some m) k r p e = grind (arith, nat_tests)

-- what the names that are left add to the match so far
pub left : List ℕ → List ℕ → Option ℕ → ℕ → ℕ → ℕ
left h b best at k = max (or_zero best) (matched h (names_from b at k))

-- where there are none left
alone : (best : Option ℕ) → (best ≡ Some 0 → ⊥) → if_any (max (or_zero best) 0) ≡ best
unfolding or_zero
alone None z = refl
alone (Some zero) z = absurd (z refl)
alone (Some (suc m)) z = let q : max (suc m) 0 ≡ suc m = omega arith in ap if_any q

-- a search with i of n names compared: the names that are left are listed ones and stand in the book, and the match so far with
-- what they add is the longest
pub record Searching (h b : List ℕ) (best : Option ℕ) (at i n : ℕ) : Type 0 where
  pub inside : end_from b at (n - i) ≤ length b
  pub listed : every is_listed (names_from b at (n - i)) ≡ true
  pub some : best ≡ Some 0 → ⊥
  pub same : if_any (public_of b h) ≡ if_any (left h b best at (n - i))

pub search_start : (h b : List ℕ) (at n : ℕ) → sound_book b ≡ true → at ≡ names_at b → n ≡ names_count b → Searching h b None at 0 n
unfolding left listed public_of or_zero sound_names
search_start h b at n s e f =
    let k : n - 0 ≡ names_count b = omega arith in
    let ns = names_from b (names_at b) (names_count b) in
    record {
      inside = rw (k, e) (names_fit b s);
      listed = rw (k, e) (and_left (every is_listed ns) (rising before ns) (sound_parts b s).named);
      some = λ q. cc;
      same = rw (k, e) (ap if_any (omega arith));
    }

module _ (h b : List ℕ) (best : Option ℕ) (at i n : ℕ) (s : Searching h b best at i n) where
  pub search_end : n ≤ i → best ≡ if_any (public_of b h)
  unfolding left matched names_from
  search_end l =
      let k : n - i ≡ 0 = omega arith in
      let e : left h b best at 0 ≡ max (or_zero best) 0 = refl in
      sym (s.same ∙ ap (λ (j : ℕ). if_any (left h b best at j)) k ∙ ap if_any e ∙ alone best s.some)

  module _ (l : i < n) where
    count : n - i ≡ suc (n - (i + 1))
    count = omega arith

    pub search_inside : next_at b at ≤ length b
    search_inside = let f = end_fits b at (n - i) (omega arith) in let g = s.inside in omega arith

    here : every is_listed (names_from b at (n - i)) ≡ is_listed (name_at b at) && every is_listed (names_from b (next_at b at) (n - (i + 1)))
    unfolding names_from every
    here = rw count

    adds : matched h (names_from b at (n - i))
        ≡ max (cond (under h (name_at b at)) (length (name_at b at)) 0) (matched h (names_from b (next_at b at) (n - (i + 1))))
    unfolding matched names_from
    adds = rw count

    pub search_some : 0 < length (name_at b at)
    unfolding is_listed
    search_some =
        let m = name_at b at in
        let e = and_left (is_listed m) (every is_listed (names_from b (next_at b at) (n - (i + 1)))) (sym here ∙ s.listed) in
        let r = within_at 1 62 (length m) (and_left (within 1 62 (length m)) (is_name m)
        (and_left (within 1 62 (length m) && is_name m) (is_folded m) e)) in
        r.low

    -- any match that is as good with the names behind it goes on
    on : (m : List ℕ) (best' : Option ℕ) → m ≡ name_at b at → (best' ≡ Some 0 → ⊥)
        → left h b best at (n - i) ≡ left h b best' (next_at b at) (n - (i + 1)) → Searching h b best' (at + (1 + length m)) (i + 1) n
    unfolding end_from
    on m best' e z g =
        let k : at + (1 + length m) ≡ next_at b at = omega (arith, next_is b at, name_long b at search_inside, ap length e) in
        record {
          inside = rw k (rw count at s.inside);
          listed = rw k (and_right (is_listed (name_at b at)) (every is_listed (names_from b (next_at b at) (n - (i + 1)))) (sym here ∙ s.listed));
          some = z;
          same = rw k (s.same ∙ ap if_any g);
        }

    pub search_better : (m : List ℕ) → m ≡ name_at b at → or_zero best < length m → under h m ≡ true
        → Searching h b (Some (length m)) (at + (1 + length m)) (i + 1) n
    unfolding left or_zero
    search_better m e g u = on m (Some (length m)) e (λ q. let k : length m ≡ 0 = cc in omega arith) (rw (adds, ← e, u) (omega arith))

    pub search_passed : (m : List ℕ) → m ≡ name_at b at → (length m ≤ or_zero best) ⊎ (under h m ≡ false)
        → Searching h b best (at + (1 + length m)) (i + 1) n
    unfolding left or_zero
    search_passed m e (inl g) =
        on m best e s.some (rw (adds, ← e) (cases (under h m) (λ u. rw u (omega arith)) (λ u. rw u (omega arith))))
    search_passed m e (inr u) = on m best e s.some (rw (adds, ← e, u) (omega arith))
