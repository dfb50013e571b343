-- Laws of labels: names joined by dots, the last label, the fold. Assumes nothing.
use Rattle.std.specs.Prelude.{◌≡◌, refl, Bool, true, false, cond, List, [], ◌∷◌, ◌++◌, map, ℕ, ◌+◌, eqb}
use Rattle.std.proofs.Common.{sym, ap, subst, ◌∙◌, append_assoc, arith, eqb-true, ne_eqb}
use Rattle.terms.specs.Base.{some, last_of}
use Rattle.terms.specs.Rule.Name.{lower, folded, onto, labels, has_dot}
use Rattle.terms.specs.Laws.Bools.{cases, or_fails}
use Rattle.terms.specs.Laws.Lists.{some_append}
use Rattle.terms.specs.Laws.Fold.{lower_unseen}

-- there is always a first label
pub record Some (ls : List (List ℕ)) : Type 0 where
  pub head : List ℕ
  pub rest : List (List ℕ)
  pub is : ls ≡ head ∷ rest

onto_some : (x : ℕ) (ls : List (List ℕ)) → Some (onto x ls)
unfolding onto
onto_some x [] = record { head = x ∷ []; rest = []; is = refl }
onto_some x (l ∷ ls) = record { head = x ∷ l; rest = ls; is = refl }

pub labels_some : (s : List ℕ) → Some (labels s)
unfolding labels
labels_some [] = record { head = []; rest = []; is = refl }
labels_some (x ∷ s) = go (eqb x 46)
  where
    go : (d : Bool) → Some (cond d ([] ∷ labels s) (onto x (labels s)))
    go true = record { head = []; rest = labels s; is = refl }
    go false = onto_some x (labels s)

pub labels_dot_cons : (s : List ℕ) → labels (46 ∷ s) ≡ [] ∷ labels s
unfolding labels
labels_dot_cons s = refl

pub labels_cons : (x : ℕ) (s : List ℕ) → eqb x 46 ≡ false → labels (x ∷ s) ≡ onto x (labels s)
unfolding labels
labels_cons x s e = rw e

-- ---- joined by a dot

onto_append : (x : ℕ) (s t : List ℕ) → onto x (labels s) ++ labels t ≡ onto x (labels s ++ labels t)
unfolding onto
onto_append x s t = let k = labels_some s in rw k.is

pub labels_join : (s t : List ℕ) → labels (s ++ 46 ∷ t) ≡ labels s ++ labels t
unfolding labels
labels_join [] t = refl
labels_join (x ∷ s) t = rw (labels_join s t) (go (eqb x 46))
  where
    go : (d : Bool)
        → cond d ([] ∷ labels s ++ labels t) (onto x (labels s ++ labels t))
        ≡ cond d ([] ∷ labels s) (onto x (labels s)) ++ labels t
    go true = refl
    go false = sym (onto_append x s t)

last_append : (ls ms : List (List ℕ)) → Some ms → last_of (ls ++ ms) ≡ last_of ms
unfolding last_of
last_append [] ms k = refl
last_append (l ∷ []) ms k = rw k.is
last_append (l ∷ m ∷ ls) ms k = last_append (m ∷ ls) ms k

pub last_join : (s t : List ℕ) → last_of (labels (s ++ 46 ∷ t)) ≡ last_of (labels t)
last_join s t = ap last_of (labels_join s t) ∙ last_append (labels s) (labels t) (labels_some t)

-- ---- the last label: all of a list with no dot, or what stands after its last dot

pub data Cut : List ℕ → Type 0 where
  plain : {s : List ℕ} → has_dot s ≡ false → Cut s
  after : (p l : List ℕ) → has_dot l ≡ false → Cut (p ++ 46 ∷ l)

cut_dot : {s : List ℕ} → Cut s → Cut (46 ∷ s)
cut_dot {s} (plain e) = after [] s e
cut_dot (after p l e) = after (46 ∷ p) l e

cut_byte : {s : List ℕ} (x : ℕ) → eqb x 46 ≡ false → Cut s → Cut (x ∷ s)
unfolding has_dot some
cut_byte {s} x d (plain e) = plain {s = x ∷ s} (rw d e)
cut_byte x d (after p l e) = after (x ∷ p) l e

pub cut : (s : List ℕ) → Cut s
unfolding has_dot some
cut [] = plain refl
cut (x ∷ s) =
    cases (eqb x 46) (λ e. subst (λ (y : ℕ). Cut (y ∷ s)) (sym (eqb-true x 46 e)) (cut_dot (cut s))) (λ e. cut_byte x e (cut s))

pub labels_plain : (s : List ℕ) → has_dot s ≡ false → labels s ≡ s ∷ []
unfolding labels onto has_dot some
labels_plain [] e = refl
labels_plain (x ∷ s) e = let k = or_fails (eqb x 46) (has_dot s) e in rw (k.0, labels_plain s k.1)

pub last_plain : (s : List ℕ) → has_dot s ≡ false → last_of (labels s) ≡ s
unfolding last_of
last_plain s e = rw (labels_plain s e)

pub last_after : (p l : List ℕ) → has_dot l ≡ false → last_of (labels (p ++ 46 ∷ l)) ≡ l
last_after p l e = last_join p l ∙ last_plain l e

-- ---- one byte more at the end

plain_snoc : (s : List ℕ) (x : ℕ) → eqb x 46 ≡ false → has_dot s ≡ false → has_dot (s ++ x ∷ []) ≡ false
unfolding has_dot some
plain_snoc s x d e = some_append (λ y. eqb y 46) s (x ∷ []) ∙ rw (e, d)

snoc_cut : {s : List ℕ} (x : ℕ) → eqb x 46 ≡ false → Cut s → last_of (labels (s ++ x ∷ [])) ≡ last_of (labels s) ++ x ∷ []
snoc_cut {s} x d (plain e) = last_plain (s ++ x ∷ []) (plain_snoc s x d e) ∙ rw (last_plain s e)
snoc_cut x d (after p l e) =
    ap (λ (m : List ℕ). last_of (labels m)) (append_assoc p (46 ∷ l) (x ∷ []))
    ∙ last_after p (l ++ x ∷ []) (plain_snoc l x d e)
    ∙ ap (λ (m : List ℕ). m ++ x ∷ []) (sym (last_after p l e))

pub last_snoc : (s : List ℕ) (x : ℕ) → last_of (labels (s ++ x ∷ [])) ≡ cond (eqb x 46) [] (last_of (labels s) ++ x ∷ [])
unfolding labels last_of
last_snoc s x =
    cases (eqb x 46)
    (λ e. rw e (ap (λ (y : ℕ). last_of (labels (s ++ y ∷ []))) (eqb-true x 46 e) ∙ last_join s []))
    (λ e. rw e (snoc_cut x e (cut s)))

-- ---- the fold

onto_folded : (x : ℕ) (ls : List (List ℕ)) → onto (lower x) (map folded ls) ≡ map folded (onto x ls)
unfolding onto folded
onto_folded x [] = refl
onto_folded x (l ∷ ls) = refl

pub dot_unseen : (x : ℕ) → eqb (lower x) 46 ≡ eqb x 46
dot_unseen = lower_unseen (λ x. eqb x 46) (λ x l h. ne_eqb (x + 32) 46 (λ e. omega arith) ∙ sym (ne_eqb x 46 (λ e. omega arith)))

pub labels_folded : (s : List ℕ) → labels (folded s) ≡ map folded (labels s)
unfolding labels folded
labels_folded [] = refl
labels_folded (x ∷ s) = rw (labels_folded s, dot_unseen x) (go (eqb x 46))
  where
    go : (d : Bool)
        → cond d ([] ∷ map folded (labels s)) (onto (lower x) (map folded (labels s)))
        ≡ map folded (cond d ([] ∷ labels s) (onto x (labels s)))
    go true = refl
    go false = onto_folded x (labels s)

last_map : (ls : List (List ℕ)) → last_of (map folded ls) ≡ folded (last_of ls)
unfolding last_of folded
last_map [] = refl
last_map (l ∷ []) = refl
last_map (l ∷ m ∷ ls) = last_map (m ∷ ls)

pub last_folded : (s : List ℕ) → last_of (labels (folded s)) ≡ folded (last_of (labels s))
last_folded s = ap last_of (labels_folded s) ∙ last_map (labels s)
