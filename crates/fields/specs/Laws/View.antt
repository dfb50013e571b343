-- Fields told apart, and a view changed at one field. Assumes nothing.
use Rattle.std.specs.Prelude.{◌≡◌, refl, true, ◌&&◌, [], ◌∷◌, ℕ, eqb, get_or}
use Rattle.std.proofs.Common.{sym, ◌∙◌, eq-eqb, eqb-true}
use Rattle.terms.specs.Laws.Bools.{and_left, and_right, fails}
use Rattle.fields.specs.Rule.View.{View, Field, tenant, options, selected, seat_zero, opens, slots, serial, row, waiting}
use Rattle.fields.specs.Rule.View.{number, owner, tabs, size, row_zero, letter, seats_at, rows_at, last}
use Rattle.fields.specs.Change.{kind, major, minor, same_field, change}

-- the field of a kind
of_kind : ℕ → ℕ → ℕ → Field
of_kind i j n =
    get_or
    (tenant i ∷ options i ∷ selected i ∷ seat_zero i ∷ opens i ∷ slots i ∷ serial i j ∷ row i j ∷ waiting i j
    ∷ number i ∷ owner i ∷ tabs i ∷ size i ∷ row_zero i ∷ letter i j ∷ seats_at ∷ rows_at ∷ last ∷ [])
    n last

by_kind : (f : Field) → of_kind (major f) (minor f) (kind f) ≡ f
unfolding of_kind major minor kind
by_kind (tenant s) = refl
by_kind (options s) = refl
by_kind (selected s) = refl
by_kind (seat_zero s) = refl
by_kind (opens s) = refl
by_kind (slots s) = refl
by_kind (serial s k) = refl
by_kind (row s k) = refl
by_kind (waiting s k) = refl
by_kind (number p) = refl
by_kind (owner p) = refl
by_kind (tabs p) = refl
by_kind (size p) = refl
by_kind (row_zero p) = refl
by_kind (letter p j) = refl
by_kind seats_at = refl
by_kind rows_at = refl
by_kind last = refl

pub same_field_lem : (f g : Field) → same_field f g ≡ true → f ≡ g
unfolding same_field
same_field_lem f g e =
    let k = eqb (kind f) (kind g) in
    let n = eqb (minor f) (minor g) in
    let m = eqb (major f) (major g) in
    let kn = and_left (k && n) m e in
    let a = eqb-true (kind f) (kind g) (and_left k n kn) in
    let b = eqb-true (minor f) (minor g) (and_right k n kn) in
    let d = eqb-true (major f) (major g) (and_right (k && n) m e) in
    sym (by_kind f) ∙ rw (a, b, d) (by_kind g)

pub field_self : (f : Field) → same_field f f ≡ true
unfolding same_field
field_self f = rw (eq-eqb (kind f) (kind f) refl, eq-eqb (minor f) (minor f) refl, eq-eqb (major f) (major f) refl)

-- a change is of one field, and of no other
pub change_here : (v : View) (f : Field) (x : ℕ) → change v f x f ≡ x
unfolding change
change_here v f x = rw (field_self f)

pub change_else : (v : View) (f : Field) (x : ℕ) (g : Field) → (f ≡ g → ⊥) → change v f x g ≡ v g
unfolding change
change_else v f x g h = rw (fails (same_field f g) (λ e. h (same_field_lem f g e)))
