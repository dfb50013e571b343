-- Equations of the classes and labels that src/walk.rt and src/name.rt go by, and a search for a dot in std's word.
-- Assumes nothing.
use Rattle.std.specs.Prelude.{Some, None, ◌≡◌, refl, Bool, true, false, not, ◌&&◌, ◌||◌, cond, List, [], ◌∷◌, ℕ, ◌+◌, ◌<◌, length, get_or, drop, ltb, eqb, ◌≤◌}
use Rattle.std.specs.List.{list_any}
use Rattle.std.proofs.Common.{ap}
use Rattle.terms.specs.Base.{within, some}
use Rattle.terms.specs.Rule.Name.{is_letter, is_digit, has_dot}
use Rattle.terms.specs.Walk.{class_of, fresh, grown, is_whole, next, onward, walk, may_end}
use Rattle.terms.specs.Laws.Walk.{walk_step, walk_end, walk_off, name_walk}
use Rattle.terms.specs.declared.walk.Class.TheVariants.{Dot, Hyphen, Digit, Letter, Other}
use Rattle.terms.specs.declared.walk.Label.{Label}
use Rattle.terms.specs.Laws.Lists.{some_step, some_end}

pub letter_is : (x : ℕ) → is_letter x ≡ within 97 122 x || within 65 90 x
unfolding is_letter
letter_is x = refl

pub digit_is : (x : ℕ) → is_digit x ≡ within 48 57 x
unfolding is_digit
digit_is x = refl

pub class_is : (x : ℕ)
    → class_of x
    ≡ cond (eqb x 46) Dot (cond (eqb x 45) Hyphen (cond (within 48 57 x) Digit (cond (within 97 122 x || within 65 90 x) Letter Other)))
unfolding class_of is_digit is_letter
class_is x = refl

pub fresh_is : fresh ≡ record { len = 0; hyphen = false; digits = true }
unfolding fresh
fresh_is = refl

pub grown_is : (l : Label) (h d : Bool)
    → grown l h d ≡ cond (ltb l.len 63) (Some (record { len = l.len + 1; hyphen = h; digits = d })) None
unfolding grown
grown_is l h d = refl

pub whole_is : (l : Label) → is_whole l ≡ ltb 0 l.len && not l.hyphen
unfolding is_whole
whole_is l = refl

-- what each class makes of a label
pub next_dot : (l : Label) → next l Dot ≡ cond (is_whole l) (Some fresh) None
unfolding next
next_dot l = refl

pub next_hyphen : (l : Label) → next l Hyphen ≡ cond (ltb 0 l.len) (grown l true false) None
unfolding next
next_hyphen l = refl

pub next_digit : (l : Label) → next l Digit ≡ grown l false l.digits
unfolding next
next_digit l = refl

pub next_letter : (l : Label) → next l Letter ≡ grown l false false
unfolding next
next_letter l = refl

pub next_other : (l : Label) → next l Other ≡ None
unfolding next
next_other l = refl

pub onward_on : (l : Label) (x : ℕ) → onward (Some l) x ≡ next l (class_of x)
unfolding onward
onward_on l x = refl

pub ruleset next_is = (next_dot, next_hyphen, next_digit, next_letter, next_other)

pub end_on : (l : Label) → may_end (Some l) ≡ is_whole l && not l.digits
unfolding may_end
end_on l = refl

pub end_off : may_end None ≡ false
unfolding may_end
end_off = refl

-- a dot somewhere, in std's word for one of a list
pub dot_any : (s : List ℕ) → has_dot s ≡ list_any (λ x. eqb x 46) s
unfolding has_dot some
dot_any [] = refl
dot_any (x ∷ s) = ap (λ (b : Bool). eqb x 46 || b) (dot_any s)

pub dot_step : (s : List ℕ) (i : ℕ) → i < length s → has_dot (drop i s) ≡ eqb (get_or s i 0) 46 || has_dot (drop (i + 1) s)
unfolding has_dot
dot_step s i h = some_step (λ x. eqb x 46) s i h

pub dot_end : (s : List ℕ) (i : ℕ) → length s ≤ i → has_dot (drop i s) ≡ false
unfolding has_dot
dot_end s i h = some_end (λ x. eqb x 46) s i h

-- ---- the loop of walk, with i bytes read

pub walk_on : (l : Label) (s : List ℕ) (i : ℕ) → i < length s
    → walk (Some l) (drop i s) ≡ walk (next l (class_of (get_or s i 0))) (drop (i + 1) s)
unfolding onward
walk_on l s i h = walk_step (Some l) s i h

pub ruleset walking = (walk_on, walk_end, walk_off)

-- ---- a name

pub ruleset name_is = (name_walk, end_on, end_off)
