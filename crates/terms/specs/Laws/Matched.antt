-- The longest listed name that a host is under is a public part of it: it stands behind a dot, and the suffix has the same.
-- Assumes nothing.
use Rattle.std.specs.Prelude.{◌≡◌, refl, Bool, true, false, ◌&&◌, cond, List, [], ◌∷◌, ◌++◌, ℕ, ◌+◌, ◌-◌, ◌≤◌, ◌<◌, max, length, get_or, drop, leb, eqb}
use Rattle.std.proofs.Common.{sym, ap, ap₂, subst, ◌∙◌, ⊎_elim, append_assoc, arith, length-append, get_or-append-add, leb-true, leb-false, eqb-true}
use Rattle.std.proofs.lemmas.Bool.{false≢true}
use Rattle.std.proofs.Math.Seq.{drop-append-add}
use Rattle.terms.specs.Rule.Name.{lower, folded}
use Rattle.terms.specs.Rule.Under.{same, under}
use Rattle.terms.specs.Rule.Book.{listed}
use Rattle.terms.specs.Rule.Suffix.{matched, public_of}
use Rattle.terms.specs.Laws.Bools.{and_left, fails}
use Rattle.terms.specs.Laws.Fold.{folded_folded}
use Rattle.terms.specs.Laws.Labels.{dot_unseen}
use Rattle.terms.specs.Laws.Under.{under_trans, under_fold, under_long}
use Rattle.terms.specs.Laws.Stands.{Stands, found, stands_under, stands_length}
use Rattle.terms.specs.Laws.Public.{Public}

-- ---- the longest

-- some listed name has the length that is found
record Met (h : List ℕ) (m : ℕ) : Type 0 where
  name : List ℕ
  above : under h name ≡ true
  size : length name ≡ m

matched_met : (h : List ℕ) (ns : List (List ℕ)) → 0 < matched h ns → Met h (matched h ns)
unfolding matched
matched_met h [] l = absurd (omega arith)
matched_met h (n ∷ ns) l = go (under h n) refl l (leb (length n) (matched h ns)) refl (matched_met h ns)
  where
    go : (u : Bool) → under h n ≡ u → 0 < max (cond u (length n) 0) (matched h ns)
        → (w : Bool) → leb (length n) (matched h ns) ≡ w → (0 < matched h ns → Met h (matched h ns))
        → Met h (max (cond u (length n) 0) (matched h ns))
    go false e l w f ih =
        let k : max 0 (matched h ns) ≡ matched h ns = omega arith in
        subst (Met h) (sym k) (ih (omega arith))
    go true e l false f ih =
        let o = leb-false (length n) (matched h ns) f in
        record { name = n; above = e; size = omega arith }
    go true e l true f ih =
        let o = leb-true (length n) (matched h ns) f in
        let k : max (length n) (matched h ns) ≡ matched h ns = omega arith in
        subst (Met h) (sym k) (ih (omega arith))

-- hosts that are under the same names up to a length have the same longest
matched_same : (h p : List ℕ) (m : ℕ) → ((n : List ℕ) → length n ≤ m → under p n ≡ under h n)
    → ((n : List ℕ) → under p n ≡ true → under h n ≡ true)
    → (ns : List (List ℕ)) → matched h ns ≤ m → matched p ns ≡ matched h ns
unfolding matched
matched_same h p m f g [] l = refl
matched_same h p m f g (n ∷ ns) l = ap₂ max (go (under h n) refl l) (matched_same h p m f g ns (omega arith))
  where
    go : (u : Bool) → under h n ≡ u → max (cond u (length n) 0) (matched h ns) ≤ m
        → cond (under p n) (length n) 0 ≡ cond (under h n) (length n) 0
    go true e l = rw (f n (omega arith))
    go false e l = rw (fails (under p n) (λ k. false≢true (sym e ∙ g n k)), e)

-- a dot stands before it
met_behind : (h : List ℕ) (m : ℕ) → m < length h → Met h m → get_or h (length h - (m + 1)) 0 ≡ 46
met_behind h m l w =
    let j = length h - (m + 1) in
    let d : length h ≡ length w.name + (j + 1) = omega (arith, w.size) in
    let i : j + 1 - 1 ≡ j = omega arith in
    let t : eqb (lower (get_or h j 0)) 46 && same (drop (j + 1) h) w.name ≡ true =
    ap (λ (x : ℕ). eqb (lower (get_or h x 0)) 46 && same (drop (j + 1) h) w.name) (sym i)
    ∙ sym (under_long h w.name (j + 1) (omega arith) d) ∙ w.above in
    let y = get_or h j 0 in
    eqb-true y 46 (sym (dot_unseen y) ∙ and_left (eqb (lower y) 46) (same (drop (j + 1) h) w.name) t)

-- ---- a tail of the host

under_tail : (q s n : List ℕ) → length n < length s → under (q ++ s) n ≡ under s n
under_tail q s n l =
    let d = length s - length n in
    let k : length (q ++ s) ≡ length n + (length q + d) = length-append q s ∙ omega arith in
    let i : length q + d - 1 ≡ length q + (d - 1) = omega arith in
    under_long (q ++ s) n (length q + d) (omega arith) k
    ∙ rw (i, get_or-append-add q s (d - 1) 0, drop-append-add q s d)
    (sym (under_long s n d (omega arith) (omega arith)))

stands_tail : (h part n : List ℕ) (m : ℕ) → Stands h part m → length n ≤ m → under part n ≡ under h n
stands_tail h part n m w l =
    let a = stands_length h part m w in
    ⊎_elim (λ e. rw e)
    (λ e.
    sym (ap (λ (x : List ℕ). under x n) (e ∙ sym (append_assoc w.front (46 ∷ []) part))
    ∙ under_tail (w.front ++ 46 ∷ []) part n (omega arith)))
    w.host

-- the longest listed name is the same
stands_matched : (h part : List ℕ) (ns : List (List ℕ)) → Stands h part (matched h ns) → matched part ns ≡ matched h ns
stands_matched h part ns w =
    matched_same h part (matched h ns) (λ n l. stands_tail h part n (matched h ns) w l)
    (λ n k. under_trans h part n (stands_under h part (matched h ns) w) k) ns (omega arith)

-- ---- case

matched_folded : (h : List ℕ) (ns : List (List ℕ)) → matched (folded h) ns ≡ matched h ns
unfolding matched
matched_folded h [] = refl
matched_folded h (n ∷ ns) =
    ap₂ (λ (u : Bool) (m : ℕ). max (cond u (length n) 0) m) (under_fold (folded h) h n n (folded_folded h) refl)
    (matched_folded h ns)

-- ---- so it is public

matched_public : (ns : List (List ℕ)) → Public (λ h. matched h ns)
matched_public ns =
    record {
      behind = λ h p l. met_behind h (matched h ns) l (matched_met h ns p);
      unseen = λ h. matched_folded h ns;
      kept = λ h p l.
          let f = found h (matched h ns) p l (met_behind h (matched h ns) l (matched_met h ns p)) in
          ap (λ (s : List ℕ). matched s ns) f.taken ∙ stands_matched h f.part ns f.stands;
    }

pub book_public : (b : List ℕ) → Public (public_of b)
unfolding public_of
book_public b = matched_public (listed b)
