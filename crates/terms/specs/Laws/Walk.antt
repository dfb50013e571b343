-- The walk from byte to byte reads a name by the rule of Rule.Name: `name_walk`. By induction over the bytes that are left,
-- the walk from the label p may end exactly if their labels, with p before the first, are good. Assumes nothing.
use Rattle.std.specs.Prelude.{Option, Some, None, ◌≡◌, refl, Bool, true, false, not, ◌&&◌, cond, List, [], ◌∷◌, ◌++◌, ℕ, ◌+◌, ◌≤◌, ◌<◌, length, get_or, drop, eqb}
use Rattle.std.proofs.Common.{sym, ap, subst, ◌∙◌, append-nil, add-one, drop_of_length-le, drop-cons, eqb-true}
use Rattle.std.proofs.Math.Bool.{and-true, and_assoc}
use Rattle.terms.specs.declared.walk.Label.{Label}
use Rattle.terms.specs.Base.{within, every, last_of}
use Rattle.terms.specs.Rule.Name.{is_digit, is_label, onto, labels, is_address, is_name}
use Rattle.terms.specs.Walk.{class_of, fresh, next, onward, walk, may_end}
use Rattle.terms.specs.Laws.Bools.{cases}
use Rattle.terms.specs.Laws.Label.{snoc, snoc_append, state, state_none, opens, opens_none, next_state, whole_label}
use Rattle.terms.specs.Laws.Label.{end_label, label_shut}
use Rattle.terms.specs.Laws.Labels.{labels_some, labels_cons, labels_dot_cons}

-- ---- the walk

pub walk_step : (w : Option Label) (s : List ℕ) (i : ℕ) → i < length s → walk w (drop i s) ≡ walk (onward w (get_or s i 0)) (drop (i + 1) s)
unfolding walk
walk_step w s i h = rw (add-one, drop-cons s i 0)

pub walk_end : (w : Option Label) (s : List ℕ) (i : ℕ) → length s ≤ i → walk w (drop i s) ≡ w
unfolding walk
walk_end w s i h = rw (drop_of_length-le s h)

pub walk_off : (s : List ℕ) → walk None s ≡ None
unfolding walk onward
walk_off [] = refl
walk_off (x ∷ s) = walk_off s

-- ---- the rule over a list of labels

good : List (List ℕ) → Bool
good ls = every is_label ls && not (every is_digit (last_of ls))

-- bytes before the first label
before : List ℕ → List (List ℕ) → List (List ℕ)
before p [] = p ∷ []
before p (l ∷ ls) = (p ++ l) ∷ ls

before_onto : (p : List ℕ) (x : ℕ) (ls : List (List ℕ)) → before p (onto x ls) ≡ before (snoc p x) ls
unfolding before onto
before_onto p x [] = ap (λ (k : List ℕ). k ∷ []) (sym (snoc_append p x []) ∙ append-nil (snoc p x))
before_onto p x (l ∷ ls) = ap (λ (k : List ℕ). k ∷ ls) (sym (snoc_append p x l))

before_none : (s : List ℕ) → before [] (labels s) ≡ labels s
unfolding before
before_none s = let k = labels_some s in rw k.is

good_cons : (p s : List ℕ) → good (p ∷ labels s) ≡ is_label p && good (labels s)
unfolding good every last_of
good_cons p s =
    let k = labels_some s in
    rw k.is (and_assoc (is_label p) (every is_label (k.head ∷ k.rest)) (not (every is_digit (last_of (k.head ∷ k.rest)))))

good_shut : (q : List ℕ) (ls : List (List ℕ)) → opens q ≡ false → good (before q ls) ≡ false
unfolding good before every
good_shut q [] o = rw (sym (ap is_label (append-nil q)) ∙ label_shut q [] o)
good_shut q (l ∷ ls) o = rw (label_shut q l o)

-- ---- the walk is the rule

Reads : List ℕ → List ℕ → Type 0
Reads s p = may_end (walk (Some (state p)) s) ≡ good (before p (labels s))

reads_fresh : (s : List ℕ) → Reads s [] → may_end (walk (Some fresh) s) ≡ good (labels s)
unfolding Reads
reads_fresh s r = ap (λ (l : Label). may_end (walk (Some l) s)) (sym state_none) ∙ r ∙ ap good (before_none s)

reads_end : (p : List ℕ) → opens p ≡ true → Reads [] p
unfolding Reads walk good before labels every last_of
reads_end p o = end_label p o ∙ rw (append-nil p, and-true)

dot_case : (s : List ℕ) (b : Bool) → may_end (walk (Some fresh) s) ≡ good (labels s)
    → may_end (walk (cond b (Some fresh) None) s) ≡ b && good (labels s)
unfolding may_end
dot_case s true r = r
dot_case s false r = ap may_end (walk_off s)

reads_dot : (s p : List ℕ) → opens p ≡ true → Reads s [] → Reads (46 ∷ s) p
unfolding Reads walk onward next class_of before
reads_dot s p o r =
    rw (labels_dot_cons s, append-nil p, good_cons p s, whole_label p o) (dot_case s (is_label p) (reads_fresh s r))

reads_byte : (s p : List ℕ) (x : ℕ) → opens p ≡ true → eqb x 46 ≡ false → (opens (snoc p x) ≡ true → Reads s (snoc p x))
    → Reads (x ∷ s) p
unfolding Reads walk onward may_end
reads_byte s p x o d r = go (opens (snoc p x)) refl r
  where
    go : (k : Bool) → opens (snoc p x) ≡ k → (opens (snoc p x) ≡ true → Reads s (snoc p x)) → Reads (x ∷ s) p
    go true e r = rw (next_state p x o d, e, labels_cons x s d, before_onto p x (labels s)) (r e)
    go false e r =
        rw (next_state p x o d, e, labels_cons x s d, before_onto p x (labels s), walk_off s)
        (sym (good_shut (snoc p x) (labels s) e))

reads : (s p : List ℕ) → opens p ≡ true → Reads s p
reads [] p o = reads_end p o
reads (x ∷ s) p o =
    cases (eqb x 46)
    (λ e. subst (λ (y : ℕ). Reads (y ∷ s) p) (sym (eqb-true x 46 e)) (reads_dot s p o (reads s [] opens_none)))
    (λ e. reads_byte s p x o e (reads s (snoc p x)))

pub name_walk : (s : List ℕ) → is_name s ≡ within 1 253 (length s) && may_end (walk (Some fresh) s)
unfolding is_name is_address good
name_walk s =
    and_assoc (within 1 253 (length s)) (every is_label (labels s)) (not (every is_digit (last_of (labels s))))
    ∙ ap (λ (b : Bool). within 1 253 (length s) && b) (sym (reads_fresh s (reads s [] opens_none)))
