-- What a table shows after an update: each write changes the view at its field, and a name at its 64 bytes. Assumes nothing.
use Rattle.std.specs.Prelude.{◌≡◌, refl, Bool, true, false, ◌&&◌, cond, ◌≢◌, List, [], ◌∷◌, ℕ, zero, suc, ◌-◌, ◌^◌, ◌≤◌, ◌<◌, eqb, leb, length, get_or}
use Rattle.std.proofs.Common.{sym, ap, ◌∙◌, ⊎_elim, arith, eq-eqb, ne_eqb, leb-true, leb-false, le-leb}
use Rattle.std.proofs.Math.Path.{fun_ext}
use Rattle.std.proofs.lemmas.Bool.{lt-leb}
use Rattle.terms.specs.Base.{within, Range}
use Rattle.terms.specs.Laws.Bools.{cases, within_in, within_high}
use Rattle.fields.specs.Rule.View.{View, Field, there, letter}
use Rattle.fields.specs.Rule.Layout.{form, form_width, table_bytes, view, write}
use Rattle.fields.specs.Rule.Update.{Write, ◌≔◌, name_of_row, spelled, writes}
use Rattle.fields.specs.Change.{kind, major, minor, same_field, change, change_name, changes}
use Rattle.fields.specs.Laws.Each.{range, in_ranges, same_or}
use Rattle.fields.specs.Laws.Layout.{length_write_by, view_write_by}
use Rattle.fields.specs.Laws.Form.{form_fits}

-- ---- one field

pub length_write : (t : List ℕ) (f : Field) (x : ℕ) → length (write t f x) ≡ length t
unfolding write
length_write t f x = length_write_by form form_fits t f x

pub view_write : (t : List ℕ) (f : Field) (x : ℕ) → length t ≡ table_bytes → there f ≡ true → x < 256 ^ form_width f
    → view (write t f x) ≡ change (view t) f x
unfolding write view table_bytes form
view_write t f x l h s = view_write_by form form_fits t f x l h s

-- ---- a name

within_more : (n m : ℕ) → m ≢ suc n → within 1 (suc n) m ≡ within 1 n m
within_more n m h =
    cases (leb m n)
    (λ e. let l = leb-true m n e in ap (λ (b : Bool). leb 1 m && b) (le-leb m (suc n) (omega arith) ∙ sym e))
    (λ e. let l = leb-false m n e in ap (λ (b : Bool). leb 1 m && b) (lt-leb m (suc n) (omega arith) ∙ sym e))

one_letter : (v : View) (p n : ℕ) (name : List ℕ) (g : Field)
    → change (change_name v p name n) (letter p (suc n)) (get_or name n 0) g ≡ change_name v p name (suc n) g
unfolding change change_name same_field kind major minor
one_letter v p n name g = go (eqb 14 (kind g)) (eqb p (major g)) (minor g)
  where
    here : (b : Bool) (m : ℕ) → m ≡ suc n
        → cond (true && eqb (suc n) m && b) (get_or name n 0) (cond (true && b && within 1 n m) (get_or name (m - 1) 0) (v g))
        ≡ cond (true && b && within 1 (suc n) m) (get_or name (m - 1) 0) (v g)
    here true m e =
        let a : m - 1 ≡ n = omega arith in
        rw (eq-eqb (suc n) m (sym e), within_in 1 (suc n) m (omega arith) (omega arith), a)
    here false m e = rw (eq-eqb (suc n) m (sym e))

    go : (a b : Bool) (m : ℕ)
        → cond (a && eqb (suc n) m && b) (get_or name n 0) (cond (a && b && within 1 n m) (get_or name (m - 1) 0) (v g))
        ≡ cond (a && b && within 1 (suc n) m) (get_or name (m - 1) 0) (v g)
    go false b m = refl
    go true b m =
        ⊎_elim (λ (e : m ≡ suc n). here b m e) (λ (h : m ≢ suc n). rw (ne_eqb (suc n) m (λ e. h (sym e)), within_more n m h))
        (same_or m (suc n))

letter_there : (p n : ℕ) → Range 1 80 p → suc n ≤ 64 → there (letter p (suc n)) ≡ true
unfolding there
letter_there p n r h = in_ranges r (range (omega arith) h)

pub length_spelled : (t : List ℕ) (p : ℕ) (name : List ℕ) (n : ℕ) → length (spelled t p name n) ≡ length t
unfolding spelled
length_spelled t p name zero = refl
length_spelled t p name (suc n) = length_write (spelled t p name n) (letter p (suc n)) (get_or name n 0) ∙ length_spelled t p name n

none_spelled : (v : View) (p : ℕ) (name : List ℕ) (g : Field) → change_name v p name 0 g ≡ v g
unfolding change_name
none_spelled v p name g = go (eqb 14 (kind g) && eqb p (major g)) (minor g)
  where
    go : (a : Bool) (m : ℕ) → cond (a && within 1 0 m) (get_or name (m - 1) 0) (v g) ≡ v g
    go false m = refl
    go true zero = refl
    go true (suc m) = rw (within_high 1 0 (suc m) (omega arith))

pub view_spelled : (t : List ℕ) (p : ℕ) (name : List ℕ) (n : ℕ) → length t ≡ table_bytes → Range 1 80 p
    → ((i : ℕ) → get_or name i 0 < 256)
    → n ≤ 64 → view (spelled t p name n) ≡ change_name (view t) p name n
unfolding spelled form_width
view_spelled t p name zero l r b h = fun_ext (λ g. sym (none_spelled (view t) p name g))
view_spelled t p name (suc n) l r b h =
    let u = spelled t p name n in
    view_write u (letter p (suc n)) (get_or name n 0) (length_spelled t p name n ∙ l) (letter_there p n r h) (b n)
    ∙ ap (λ (w : View). change w (letter p (suc n)) (get_or name n 0)) (view_spelled t p name n l r b (omega arith))
    ∙ fun_ext (λ g. one_letter (view t) p n name g)

-- ---- several writes

-- each is of a field that is there, of a number that its bytes can hold
pub data Can : List Write → Type 0 where
  done : Can []
  field : (f : Field) (x : ℕ) {ws : List Write} → there f ≡ true → x < 256 ^ form_width f → Can ws → Can ((f ≔ x) ∷ ws)
  name : {p : ℕ} {n : List ℕ} {ws : List Write} → Range 1 80 p → ((i : ℕ) → get_or n i 0 < 256) → Can ws
      → Can (name_of_row p n ∷ ws)

pub length_writes : (t : List ℕ) (ws : List Write) → length (writes t ws) ≡ length t
unfolding writes
length_writes t [] = refl
length_writes t ((f ≔ x) ∷ ws) = length_writes (write t f x) ws ∙ length_write t f x
length_writes t (name_of_row p n ∷ ws) = length_writes (spelled t p n 64) ws ∙ length_spelled t p n 64

pub view_writes : (t : List ℕ) (ws : List Write) → length t ≡ table_bytes → Can ws → view (writes t ws) ≡ changes (view t) ws
unfolding writes changes
view_writes t [] l done = refl
view_writes t ((f ≔ x) ∷ ws) l (field _ _ h s c) =
    view_writes (write t f x) ws (length_write t f x ∙ l) c ∙ ap (λ (v : View). changes v ws) (view_write t f x l h s)
view_writes t (name_of_row p n ∷ ws) l (name r b c) =
    view_writes (spelled t p n 64) ws (length_spelled t p n 64 ∙ l) c
    ∙ ap (λ (v : View). changes v ws) (view_spelled t p n 64 l r b (omega arith))
