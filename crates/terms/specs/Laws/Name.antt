-- Laws of names: the fold keeps them, what stands after a dot of one is one, their lengths. Assumes nothing.
use Rattle.std.specs.Prelude.{◌≡◌, Bool, true, false, not, ◌&&◌, List, [], ◌∷◌, ◌++◌, ℕ, ◌+◌, ◌-◌, ◌≤◌, length, get_or, eqb}
use Rattle.std.proofs.Common.{sym, ap, ◌∙◌, arith, length-append, ne_eqb}
use Rattle.std.proofs.lemmas.Bool.{false≢true}
use Rattle.terms.specs.Base.{within, every, last_of, Range}
use Rattle.terms.specs.Rule.Name.{lower, folded, is_letter, is_digit, is_label_byte, begins, ends, is_label, labels}
use Rattle.terms.specs.Rule.Name.{is_address, is_name, has_dot}
use Rattle.terms.specs.Laws.Bools.{and_left, and_right, within_in, within_low, within_high, within_at}
use Rattle.terms.specs.Laws.Lists.{every_append, every_map, every_ext, some_map, some_ext}
use Rattle.terms.specs.Laws.Fold.{lower_unseen, length_folded, get_d_folded}
use Rattle.terms.specs.Laws.Labels.{labels_some, labels_join, last_join, labels_folded, last_folded, dot_unseen}

-- ---- the fold is not seen by any test of a name

digit_unseen : (x : ℕ) → is_digit (lower x) ≡ is_digit x
unfolding is_digit
digit_unseen =
    lower_unseen is_digit (λ x l h. within_high 48 57 (x + 32) (omega arith) ∙ sym (within_high 48 57 x (omega arith)))

hyphen_unseen : (x : ℕ) → eqb (lower x) 45 ≡ eqb x 45
hyphen_unseen =
    lower_unseen (λ x. eqb x 45) (λ x l h. ne_eqb (x + 32) 45 (λ e. omega arith) ∙ sym (ne_eqb x 45 (λ e. omega arith)))

letter_unseen : (x : ℕ) → is_letter (lower x) ≡ is_letter x
unfolding is_letter
letter_unseen =
    lower_unseen is_letter
    (λ x l h.
    let a : within 97 122 (x + 32) ≡ true = within_in 97 122 (x + 32) (omega arith) (omega arith) in
    let b : within 97 122 x ≡ false = within_low 97 122 x (omega arith) in
    let d : within 65 90 x ≡ true = within_in 65 90 x l h in
    rw (a, b, d))

byte_unseen : (x : ℕ) → is_label_byte (lower x) ≡ is_label_byte x
unfolding is_label_byte
byte_unseen x = rw (letter_unseen x, digit_unseen x, hyphen_unseen x)

every_unseen : (f : ℕ → Bool) → ((x : ℕ) → f (lower x) ≡ f x) → (s : List ℕ) → every f (folded s) ≡ every f s
unfolding folded
every_unseen f h s = every_map f lower s ∙ every_ext (λ x. f (lower x)) f h s

label_unseen : (l : List ℕ) → is_label (folded l) ≡ is_label l
unfolding is_label begins ends
label_unseen l =
    rw (
      length_folded l,
      every_unseen is_label_byte byte_unseen l,
      get_d_folded l 0,
      get_d_folded l (length l - 1),
      hyphen_unseen (get_or l 0 0),
      hyphen_unseen (get_or l (length l - 1) 0),
    )

labels_unseen : (s : List ℕ) → every is_label (labels (folded s)) ≡ every is_label (labels s)
labels_unseen s =
    ap (every is_label) (labels_folded s)
    ∙ every_map is_label folded (labels s)
    ∙ every_ext (λ l. is_label (folded l)) is_label label_unseen (labels s)

address_unseen : (s : List ℕ) → is_address (folded s) ≡ is_address s
unfolding is_address
address_unseen s = ap (every is_digit) (last_folded s) ∙ every_unseen is_digit digit_unseen (last_of (labels s))

-- a folded name is a name, and nothing else becomes one
pub name_folded : (s : List ℕ) → is_name (folded s) ≡ is_name s
unfolding is_name
name_folded s = rw (length_folded s, labels_unseen s, address_unseen s)

pub dot_folded : (s : List ℕ) → has_dot (folded s) ≡ has_dot s
unfolding has_dot folded
dot_folded s = some_map (λ x. eqb x 46) lower s ∙ some_ext (λ x. eqb (lower x) 46) (λ x. eqb x 46) dot_unseen s

-- ---- a name's parts

pub record Name (s : List ℕ) : Type 0 where
  pub size : Range 1 253 (length s)
  pub label : every is_label (labels s) ≡ true
  pub no_address : not (is_address s) ≡ true

pub name_parts : (s : List ℕ) → is_name s ≡ true → Name s
unfolding is_name
name_parts s e =
    let a = within 1 253 (length s) in
    let b = every is_label (labels s) in
    let d = not (is_address s) in
    record {
      size = within_at 1 253 (length s) (and_left a b (and_left (a && b) d e));
      label = and_right a b (and_left (a && b) d e);
      no_address = and_right (a && b) d e;
    }

pub name_of_lem : (s : List ℕ) → Name s → is_name s ≡ true
unfolding is_name
name_of_lem s n = rw (within_in 1 253 (length s) n.size.low n.size.high, n.label) n.no_address

pub name_length : (s : List ℕ) → is_name s ≡ true → Range 1 253 (length s)
name_length s e = (name_parts s e).size

-- labels have bytes
label_length : (l : List ℕ) → is_label l ≡ true → 1 ≤ length l
unfolding is_label
label_length [] e = absurd (false≢true e)
label_length (x ∷ l) e = omega arith

labels_length : (s : List ℕ) → every is_label (labels s) ≡ true → 1 ≤ length s
unfolding labels every is_label
labels_length [] e = absurd (false≢true e)
labels_length (x ∷ s) e = omega arith

-- what stands after a dot of a name is a name
pub name_after : (p s : List ℕ) → is_name (p ++ 46 ∷ s) ≡ true → is_name s ≡ true
unfolding is_address
name_after p s e =
    let n = name_parts (p ++ 46 ∷ s) e in
    let u = n.size.high in
    let l : every is_label (labels s) ≡ true =
    and_right (every is_label (labels p)) (every is_label (labels s))
    (sym (every_append is_label (labels p) (labels s)) ∙ ap (every is_label) (sym (labels_join p s)) ∙ n.label) in
    name_of_lem s
    (record {
      size = record { low = labels_length s l; high = omega (arith, length-append p (46 ∷ s)) };
      label = l;
      no_address = ap (λ (m : List ℕ). not (every is_digit m)) (sym (last_join p s)) ∙ n.no_address;
    })

-- and so is what stands before it a list of labels, whose last has a byte
pub labels_before : (p s : List ℕ) → is_name (p ++ 46 ∷ s) ≡ true → every is_label (labels p) ≡ true
labels_before p s e =
    and_left (every is_label (labels p)) (every is_label (labels s))
    (sym (every_append is_label (labels p) (labels s)) ∙ ap (every is_label) (sym (labels_join p s))
    ∙ (name_parts (p ++ 46 ∷ s) e).label)

every_last : (f : List ℕ → Bool) (l : List ℕ) (ls : List (List ℕ)) → every f (l ∷ ls) ≡ true → f (last_of (l ∷ ls)) ≡ true
unfolding every last_of
every_last f l [] e = and_left (f l) true e
every_last f l (m ∷ ls) e = every_last f m ls (and_right (f l) (every f (m ∷ ls)) e)

pub last_length : (p : List ℕ) → every is_label (labels p) ≡ true → 1 ≤ length (last_of (labels p))
last_length p e =
    let k = labels_some p in
    label_length (last_of (labels p)) (rw k.is (every_last is_label k.head k.rest (rw k.is at e)))
