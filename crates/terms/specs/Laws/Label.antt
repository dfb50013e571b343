-- What the walk knows of a label: of the bytes p read since the last dot, their number, whether the last is a hyphen and
-- whether all are digits; and that p may begin a label. One byte more keeps that, or p with it begins no label.
-- Assumes nothing.
use Rattle.std.specs.Prelude.{Option, Some, None, ◌≡◌, refl, Bool, true, false, not, ◌&&◌, cond, List, [], ◌∷◌, ◌++◌, ℕ, suc, ◌+◌, ◌-◌, length, leb, ltb, eqb}
use Rattle.std.proofs.Common.{sym, ap, subst, ◌∙◌, append_assoc, add-one, arith, length-append, lt-ltb, le-leb, eqb-true}
use Rattle.std.proofs.lemmas.Bool.{false≢true, not-true}
use Rattle.std.proofs.Math.Bool.{and-true, and-false, or-true}
use Rattle.std.proofs.Math.Seq.{get_or-append_seam}
use Rattle.terms.specs.declared.walk.Label.{Label}
use Rattle.terms.specs.Base.{within, every}
use Rattle.terms.specs.Rule.Name.{is_letter, is_digit, is_label_byte, begins, ends, is_label}
use Rattle.terms.specs.Walk.{class_of, fresh, grown, is_whole, next, may_end}
use Rattle.terms.specs.Laws.Bools.{and_left, and_right, fails, within_at}
use Rattle.terms.specs.Laws.Lists.{every_append}

-- ---- the bytes of a label so far

pub snoc : List ℕ → ℕ → List ℕ
snoc p x = p ++ (x ∷ [])

-- what is known of them
pub state : List ℕ → Label
state p = record { len = length p; hyphen = ends p 45; digits = every is_digit p }

-- they may begin a label
pub opens : List ℕ → Bool
opens p = leb (length p) 63 && every is_label_byte p && not (begins p 45)

record Opens (p : List ℕ) : Type 0 where
  short : leb (length p) 63 ≡ true
  made : every is_label_byte p ≡ true
  begun : begins p 45 ≡ false

opens_parts : (p : List ℕ) → opens p ≡ true → Opens p
unfolding opens
opens_parts p o =
    let a = leb (length p) 63 in
    let b = every is_label_byte p in
    let d = not (begins p 45) in
    record {
      short = and_left a b (and_left (a && b) d o);
      made = and_right a b (and_left (a && b) d o);
      begun = not-true (begins p 45) (and_right (a && b) d o);
    }

pub opens_none : opens [] ≡ true
unfolding opens every begins
opens_none = refl

pub state_none : state [] ≡ fresh
unfolding state fresh ends every
state_none = refl

pub snoc_append : (p : List ℕ) (x : ℕ) (l : List ℕ) → snoc p x ++ l ≡ p ++ x ∷ l
unfolding snoc
snoc_append p x l = append_assoc p (x ∷ []) l

length_snoc : (p : List ℕ) (x : ℕ) → length (snoc p x) ≡ length p + 1
unfolding snoc
length_snoc p x = length-append p (x ∷ [])

every_snoc : (f : ℕ → Bool) (p : List ℕ) (x : ℕ) → every f (snoc p x) ≡ every f p && f x
unfolding every snoc
every_snoc f p x = every_append f p (x ∷ []) ∙ ap (λ (b : Bool). every f p && b) (and-true (f x))

ends_snoc : (p : List ℕ) (x y : ℕ) → ends (snoc p x) y ≡ eqb x y
unfolding ends snoc
ends_snoc p x y =
    let n : length (p ++ (x ∷ [])) - 1 ≡ length p = ap (λ (m : ℕ). m - 1) (length-append p (x ∷ [])) ∙ omega arith in
    rw (n, get_or-append_seam p x [] 0)

begins_append : (p q : List ℕ) (y : ℕ) → begins (p ++ q) y ≡ cond (ltb 0 (length p)) (begins p y) (begins q y)
unfolding begins
begins_append [] q y = refl
begins_append (z ∷ p) q y = simp (lt-ltb 0 (suc (length p)) (omega arith))

opens_snoc : (p : List ℕ) (x : ℕ) → opens p ≡ true
    → opens (snoc p x) ≡ leb (length p + 1) 63 && is_label_byte x && not (cond (ltb 0 (length p)) false (eqb x 45))
unfolding opens begins snoc
opens_snoc p x o =
    let k = opens_parts p o in
    rw (length_snoc p x, every_snoc is_label_byte p x, k.made, begins_append p (x ∷ []) 45, k.begun)

-- ---- one byte more

hyphen_case : (a b : Bool) (w : Option Label) → cond a (cond b w None) None ≡ cond (b && true && not (cond a false true)) w None
hyphen_case true true w = refl
hyphen_case true false w = refl
hyphen_case false true w = refl
hyphen_case false false w = refl

byte_case : (a b : Bool) (w : Option Label) → cond b w None ≡ cond (b && true && not (cond a false false)) w None
byte_case true true w = refl
byte_case true false w = refl
byte_case false true w = refl
byte_case false false w = refl

other_case : (a b : Bool) (w : Option Label) → None ≡ cond (b && false && not (cond a false false)) w None
other_case a true w = refl
other_case a false w = refl

less : (n : ℕ) → ltb n 63 ≡ leb (n + 1) 63
less n = ap (λ (m : ℕ). leb m 63) (sym (add-one n))

-- a hyphen goes into the label where it may
next_hyphen : (p : List ℕ) → opens p ≡ true → next (state p) (class_of 45) ≡ cond (opens (snoc p 45)) (Some (state (snoc p 45))) None
unfolding next grown class_of is_label_byte is_digit is_letter state
next_hyphen p o =
    rw (opens_snoc p 45 o, length_snoc p 45, ends_snoc p 45 45, every_snoc is_digit p 45, and-false, ← less (length p))
    (hyphen_case (ltb 0 (length p)) (ltb (length p) 63) _)

-- and so does any byte that is no dot
pub next_state : (p : List ℕ) (x : ℕ) → opens p ≡ true → eqb x 46 ≡ false
    → next (state p) (class_of x) ≡ cond (opens (snoc p x)) (Some (state (snoc p x))) None
unfolding next grown class_of is_label_byte state
next_state p x o d = go (eqb x 45) (is_digit x) (is_letter x) refl refl refl
  where
    go : (h g l : Bool) → eqb x 45 ≡ h → is_digit x ≡ g → is_letter x ≡ l
        → next (state p) (class_of x) ≡ cond (opens (snoc p x)) (Some (state (snoc p x))) None
    go true g l eh eg el =
        subst (λ (y : ℕ). next (state p) (class_of y) ≡ cond (opens (snoc p y)) (Some (state (snoc p y))) None)
        (sym (eqb-true x 45 eh)) (next_hyphen p o)
    go false true l eh eg el =
        simp (
          opens_snoc p x o,
          length_snoc p x,
          ends_snoc p x 45,
          every_snoc is_digit p x,
          d,
          eh,
          eg,
          or-true,
          and-true (every is_digit p),
          ← less (length p),
        )
        (byte_case (ltb 0 (length p)) (ltb (length p) 63) _)
    go false false true eh eg el =
        simp (
          opens_snoc p x o,
          length_snoc p x,
          ends_snoc p x 45,
          every_snoc is_digit p x,
          d,
          eh,
          eg,
          el,
          and-false,
          ← less (length p),
        )
        (byte_case (ltb 0 (length p)) (ltb (length p) 63) _)
    go false false false eh eg el =
        simp (opens_snoc p x o, d, eh, eg, el) (other_case (ltb 0 (length p)) (leb (length p + 1) 63) _)

pub whole_label : (p : List ℕ) → opens p ≡ true → is_whole (state p) ≡ is_label p
unfolding is_whole is_label state
whole_label p o = let k = opens_parts p o in simp (k.short, k.made, k.begun, and-true)

-- a name may end with such a label, unless it is all digits
pub end_label : (p : List ℕ) → opens p ≡ true → may_end (Some (state p)) ≡ is_label p && not (every is_digit p)
unfolding may_end state
end_label p o = ap (λ (b : Bool). b && not (every is_digit p)) (whole_label p o)

-- ---- what is no beginning of a label begins none

begins_open : (q l : List ℕ) → not (begins (q ++ l) 45) ≡ true → not (begins q 45) ≡ true
unfolding begins
begins_open [] l e = refl
begins_open (y ∷ q) l e = e

label_opens : (q l : List ℕ) → is_label (q ++ l) ≡ true → opens q ≡ true
unfolding is_label opens
label_opens q l e =
    let w = within 1 63 (length (q ++ l)) in
    let v = every is_label_byte (q ++ l) in
    let b = not (begins (q ++ l) 45) in
    let e3 = and_left (w && v && b) (not (ends (q ++ l) 45)) e in
    let e2 = and_left (w && v) b e3 in
    let r = within_at 1 63 (length (q ++ l)) (and_left w v e2) in
    let u = r.high in
    let h1 : leb (length q) 63 ≡ true = le-leb (length q) 63 (omega (arith, length-append q l)) in
    let h2 : every is_label_byte q ≡ true =
    and_left (every is_label_byte q) (every is_label_byte l) (sym (every_append is_label_byte q l) ∙ and_right w v e2) in
    simp (h1, h2) (begins_open q l (and_right (w && v) b e3))

pub label_shut : (q l : List ℕ) → opens q ≡ false → is_label (q ++ l) ≡ false
label_shut q l o = fails (is_label (q ++ l)) (λ e. false≢true (sym o ∙ label_opens q l e))
