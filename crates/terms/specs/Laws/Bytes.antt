-- A name is made of bytes: what stands in it is less than 256. Assumes nothing.
use Rattle.std.specs.Prelude.{◌≡◌, refl, Bool, true, not, ◌&&◌, ◌||◌, List, [], ◌∷◌, ℕ, zero, suc, ◌<◌, eqb, length, get_or}
use Rattle.std.proofs.Common.{sym, ap, ◌∙◌, ⊎_elim, arith, eqb-true}
use Rattle.terms.specs.Base.{within, every}
use Rattle.terms.specs.Rule.Name.{is_letter, is_digit, is_label_byte, begins, ends, is_label, onto, labels, is_name}
use Rattle.terms.specs.Laws.Bools.{and_left, and_right, and_both, or_case, cases, within_at}
use Rattle.terms.specs.Laws.Labels.{labels_some, labels_dot_cons, labels_cons}
use Rattle.terms.specs.Laws.Name.{name_parts}

small : (lo hi x : ℕ) → within lo hi x ≡ true → hi < 256 → x < 256
small lo hi x e h = let r = within_at lo hi x e in let a = r.high in omega arith

label_byte : (x : ℕ) → is_label_byte x ≡ true → x < 256
unfolding is_label_byte is_letter is_digit
label_byte x e =
    let u = within 97 122 x in
    let l = within 65 90 x in
    let d = within 48 57 x in
    ⊎_elim
    (λ (p : (u || l) || d ≡ true).
    ⊎_elim
    (λ (q : u || l ≡ true).
    ⊎_elim (λ (a : u ≡ true). small 97 122 x a (omega arith)) (λ (a : l ≡ true). small 65 90 x a (omega arith)) (or_case u l q))
    (λ (q : d ≡ true). small 48 57 x q (omega arith))
    (or_case (u || l) d p))
    (λ (p : eqb x 45 ≡ true). let a = eqb-true x 45 p in omega arith)
    (or_case ((u || l) || d) (eqb x 45) e)

-- the bytes of each label
abbrev made : List (List ℕ) → Bool
made ls = every (λ l. every is_label_byte l) ls

label_bytes : (l : List ℕ) → is_label l ≡ true → every is_label_byte l ≡ true
unfolding is_label
label_bytes l e =
    let a = within 1 63 (length l) in
    let b = every is_label_byte l in
    let c = not (begins l 45) in
    and_right a b (and_left (a && b) c (and_left (a && b && c) (not (ends l 45)) e))

label_made : (ls : List (List ℕ)) → every is_label ls ≡ true → made ls ≡ true
unfolding every
label_made [] e = refl
label_made (l ∷ ls) e =
    rw (label_bytes l (and_left (is_label l) (every is_label ls) e)) (label_made ls (and_right (is_label l) (every is_label ls) e))

-- a byte, and what it stands before
either : (x : ℕ) (s : List ℕ) → x < 256 → ((i : ℕ) → get_or s i 0 < 256) → (i : ℕ) → get_or (x ∷ s) i 0 < 256
either x s h k zero = h
either x s h k (suc i) = k i

onto_made : (x : ℕ) (s : List ℕ) → made (onto x (labels s)) ≡ true → (is_label_byte x ≡ true) × (made (labels s) ≡ true)
unfolding onto every
onto_made x s e =
    let k = labels_some s in
    let h = k.head in
    let r = k.rest in
    let f : (is_label_byte x && every is_label_byte h) && made r ≡ true =
    sym (ap (λ (m : List (List ℕ)). made (onto x m)) k.is) ∙ e in
    let g = and_left (is_label_byte x && every is_label_byte h) (made r) f in (
      and_left (is_label_byte x) (every is_label_byte h) g,
      ap made k.is ∙ and_both (every is_label_byte h) (made r) (and_right (is_label_byte x) (every is_label_byte h) g)
          (and_right (is_label_byte x && every is_label_byte h) (made r) f),
    )

made_bytes : (s : List ℕ) → made (labels s) ≡ true → (i : ℕ) → get_or s i 0 < 256
unfolding every
made_bytes [] e = λ i. omega arith
made_bytes (x ∷ s) e =
    cases (eqb x 46)
    (λ d.
    let q = eqb-true x 46 d in
    let f : made (labels s) ≡ true = sym (ap made (ap (λ (y : ℕ). labels (y ∷ s)) q ∙ labels_dot_cons s)) ∙ e in
    either x s (omega arith) (made_bytes s f))
    (λ d. let k = onto_made x s (sym (ap made (labels_cons x s d)) ∙ e) in either x s (label_byte x k.0) (made_bytes s k.1))

pub name_bytes : (s : List ℕ) → is_name s ≡ true → (i : ℕ) → get_or s i 0 < 256
name_bytes s e = made_bytes s (label_made (labels s) (name_parts s e).label)
