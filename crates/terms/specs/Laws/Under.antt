-- Laws of under: its two ways, reflexive, transitive, antisymmetric, blind to case; by lengths. Assumes nothing.
use Rattle.std.specs.Prelude.{◌≡◌, refl, true, false, ◌&&◌, List, ◌∷◌, ◌++◌, ℕ, suc, ◌+◌, ◌-◌, ◌≤◌, ◌<◌, length, get_or, take, drop, leb, eqb}
use Rattle.std.proofs.Common.{sym, ap, ◌∙◌, ⊎_elim, append_assoc, arith, length-append, take-append-drop, drop-cons, drop_at, le-leb, lt-ltb, le-ltb}
use Rattle.std.proofs.Math.Bool.{or-false}
use Rattle.terms.specs.Base.{alike}
use Rattle.terms.specs.Rule.Name.{lower, folded}
use Rattle.terms.specs.Rule.Under.{same, ends_with, under}
use Rattle.terms.specs.Laws.Bools.{and_right, and_both, or_case, or_right, fails, agree}
use Rattle.terms.specs.Laws.Lists.{alike_refl, alike_eq}
use Rattle.terms.specs.Laws.Fold.{folded_cons, folded_append, folded_drop, folded_folded, length_folded}

-- ---- equal, once folded

pub same_eq : (s t : List ℕ) → same s t ≡ true → folded s ≡ folded t
unfolding same
same_eq s t e = alike_eq (folded s) (folded t) e

pub same_of : (s t : List ℕ) → folded s ≡ folded t → same s t ≡ true
unfolding same
same_of s t e = rw e (alike_refl (folded t))

pub same_length : (s t : List ℕ) → same s t ≡ true → length s ≡ length t
same_length s t e = sym (length_folded s) ∙ ap length (same_eq s t e) ∙ length_folded t

-- ---- the two ways to be under

pub data Under (h t : List ℕ) : Type 0 where
  equal : folded h ≡ folded t → Under h t
  below : (p : List ℕ) → folded h ≡ p ++ 46 ∷ folded t → Under h t

folded_dot : (t : List ℕ) → folded (46 ∷ t) ≡ 46 ∷ folded t
unfolding folded lower
folded_dot t = refl

ends_eq : (h t : List ℕ) → ends_with h t ≡ true → (p : List ℕ) × (folded h ≡ p ++ folded t)
unfolding ends_with
ends_eq h t e =
    let d = length h - length t in
    let k = same_eq (drop d h) t (and_right (leb (length t) (length h)) (same (drop d h) t) e) in
    let f = take d (folded h) in
    (f, sym (take-append-drop d (folded h)) ∙ ap (λ (l : List ℕ). f ++ l) (sym (folded_drop d h) ∙ k))

ends_of : (h t p : List ℕ) → folded h ≡ p ++ folded t → ends_with h t ≡ true
unfolding ends_with
ends_of h t p e =
    let n : length h ≡ length p + length t =
    sym (length_folded h) ∙ ap length e ∙ length-append p (folded t) ∙ ap (λ (m : ℕ). length p + m) (length_folded t) in
    let d : length h - length t ≡ length p = omega arith in
    and_both (leb (length t) (length h)) (same (drop (length h - length t) h) t)
    (le-leb (length t) (length h) (omega arith))
    (same_of (drop (length h - length t) h) t
    (folded_drop (length h - length t) h ∙ ap (drop (length h - length t)) e ∙ drop_at p (folded t) (length h - length t) (sym d)))

pub under_ways : (h t : List ℕ) → under h t ≡ true → Under h t
unfolding under
under_ways h t e =
    ⊎_elim (λ s. equal (same_eq h t s))
    (λ w. let k = ends_eq h (46 ∷ t) w in below k.0 (k.1 ∙ ap (λ (l : List ℕ). k.0 ++ l) (folded_dot t)))
    (or_case (same h t) (ends_with h (46 ∷ t)) e)

pub under_of : (h t : List ℕ) → Under h t → under h t ≡ true
unfolding under
under_of h t (equal e) = rw (same_of h t e)
under_of h t (below p e) =
    or_right (same h t) (ends_with h (46 ∷ t)) (ends_of h (46 ∷ t) p (e ∙ ap (λ (l : List ℕ). p ++ l) (sym (folded_dot t))))

-- ---- an order on names

pub under_refl : (h : List ℕ) → under h h ≡ true
under_refl h = under_of h h (equal refl)

pub under_dot : (p t : List ℕ) → under (p ++ 46 ∷ t) t ≡ true
under_dot p t =
    under_of (p ++ 46 ∷ t) t (below (folded p) (folded_append p (46 ∷ t) ∙ ap (λ (l : List ℕ). folded p ++ l) (folded_dot t)))

chain : (h t u : List ℕ) → Under h t → Under t u → Under h u
chain h t u (equal e) (equal f) = equal (e ∙ f)
chain h t u (equal e) (below q f) = below q (e ∙ f)
chain h t u (below p e) (equal f) = below p (e ∙ ap (λ (l : List ℕ). p ++ 46 ∷ l) f)
chain h t u (below p e) (below q f) =
    below (p ++ 46 ∷ q) (e ∙ ap (λ (l : List ℕ). p ++ 46 ∷ l) f ∙ sym (append_assoc p (46 ∷ q) (46 ∷ folded u)))

pub under_trans : (h t u : List ℕ) → under h t ≡ true → under t u ≡ true → under h u ≡ true
under_trans h t u e f = under_of h u (chain h t u (under_ways h t e) (under_ways t u f))

-- under sees names by their fold alone
recast : (h g t u : List ℕ) → folded h ≡ folded g → folded t ≡ folded u → Under h t → Under g u
recast h g t u e f (equal k) = equal (sym e ∙ k ∙ f)
recast h g t u e f (below p k) = below p (sym e ∙ k ∙ ap (λ (l : List ℕ). p ++ 46 ∷ l) f)

pub under_fold : (h g t u : List ℕ) → folded h ≡ folded g → folded t ≡ folded u → under h t ≡ under g u
under_fold h g t u e f =
    agree (under h t) (under g u)
    (λ k. under_of g u (recast h g t u e f (under_ways h t k)))
    (λ k. under_of h t (recast g h u t (sym e) (sym f) (under_ways g u k)))

pub under_folded : (h t : List ℕ) → under (folded h) (folded t) ≡ under h t
under_folded h t = under_fold (folded h) h (folded t) t (folded_folded h) (folded_folded t)

-- ---- by lengths

under_length : (h t : List ℕ) → under h t ≡ true → length t ≤ length h
under_length h t e = go (under_ways h t e)
  where
    go : Under h t → length t ≤ length h
    go (equal k) = let n = ap length k in omega (arith, length_folded h, length_folded t)
    go (below p k) =
        let n : length (folded h) ≡ length p + suc (length (folded t)) = ap length k ∙ length-append p (46 ∷ folded t) in
        omega (arith, length_folded h, length_folded t)

pub under_flat : (h t : List ℕ) → length h ≤ length t → under h t ≡ same h t
unfolding under ends_with
under_flat h t l = rw (le-ltb (length t) (length h) l) (or-false (same h t))

-- two names that are under each other are equal
pub under_antisym : (h t : List ℕ) → under h t ≡ true → under t h ≡ true → same h t ≡ true
under_antisym h t e f = sym (under_flat h t (under_length t h f)) ∙ e

-- with e bytes and a byte before the last ones, as many as t has
long : (h t : List ℕ) (e : ℕ) → length h ≡ length t + suc e
    → under h t ≡ eqb (lower (get_or h e 0)) 46 && same (drop (suc e) h) t
unfolding under ends_with same alike
long h t e l =
    let k : length h - suc (length t) ≡ e = omega arith in
    let n : same h t ≡ false = fails (same h t) (λ q. let m = same_length h t q in omega arith) in
    let u = lt-ltb (length t) (length h) (omega arith) in
    rw (n, u, k, drop-cons h e 0 (omega arith), folded_dot t, folded_cons (get_or h e 0) (drop (suc e) h))

pub under_long : (h t : List ℕ) (d : ℕ) → 0 < d → length h ≡ length t + d
    → under h t ≡ eqb (lower (get_or h (d - 1) 0)) 46 && same (drop d h) t
under_long h t d p l = let k : suc (d - 1) ≡ d = omega arith in long h t (d - 1) (rw k l) ∙ rw k
