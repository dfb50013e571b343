-- What a table shows after a field is written, for any layout whose fields do not overlap; and that the document's is one.
-- Assumes nothing.
use Rattle.std.specs.Prelude.{◌≡◌, Bool, true, false, cond, List, ℕ, ◌+◌, ◌^◌, ◌≤◌, ◌<◌, length}
use Rattle.std.proofs.Math.Path.{refl, fun_ext}
use Rattle.std.proofs.Common.{sym, ◌∙◌, subst}
use Rattle.std.proofs.lemmas.Bool.{false≢true}
use Rattle.terms.specs.Names.{num, put}
use Rattle.fields.specs.Rule.View.{Field, there}
use Rattle.fields.specs.Rule.Layout.{Layout, view_by, write_by}
use Rattle.fields.specs.Change.{same_field, change}
use Rattle.fields.specs.Laws.View.{same_field_lem, field_self}
use Rattle.terms.specs.Laws.Num.{Apart, length_put, num_other, num_same}

-- every field lies inside the table, and no byte belongs to two
pub record FieldsFit (l : Layout) : Type 0 where
  pub inside : (f : Field) → there f ≡ true → l.at f + l.width f ≤ l.bytes
  pub owned : (f g : Field) → there f ≡ true → there g ≡ true → (i j : ℕ) → i < l.width f → j < l.width g
      → l.at f + i ≡ l.at g + j → f ≡ g

module _ (l : Layout) (fits : FieldsFit l) (t : List ℕ) (f : Field) (x : ℕ) where
  pub length_write_by : length (write_by l t f x) ≡ length t
  unfolding write_by
  length_write_by = length_put t (l.at f) (l.width f) x

  module _ (long : length t ≡ l.bytes) (is : there f ≡ true) (small : x < 256 ^ l.width f) where
    same_read : num (put t (l.at f) (l.width f) x) (l.at f) (l.width f) ≡ x
    same_read = num_same t (l.at f) (l.width f) x (rw long (fits.inside f is)) small

    apart : (g : Field) → there g ≡ true → same_field f g ≡ false → Apart (l.at g) (l.width g) (l.at f) (l.width f)
    apart g h e i j m n p =
        false≢true (sym e ∙ subst (λ (y : Field). same_field f y ≡ true) (fits.owned f g is h j i n m (sym p)) (field_self f))

    read : (g : Field) (b : Bool) → same_field f g ≡ b → (a : Bool) → there g ≡ a
        → cond a (num (put t (l.at f) (l.width f) x) (l.at g) (l.width g)) 0
        ≡ cond b x (cond a (num t (l.at g) (l.width g)) 0)
    read g true e true h =
        subst (λ (y : Field). num (put t (l.at f) (l.width f) x) (l.at y) (l.width y) ≡ x) (same_field_lem f g e) same_read
    read g true e false h = absurd (false≢true (sym h ∙ subst (λ (y : Field). there y ≡ true) (same_field_lem f g e) is))
    read g false e true h = num_other t (l.at f) (l.width f) x (l.at g) (l.width g) (apart g h e)
    read g false e false h = refl

    -- read after write, for every field at once
    pub view_write_by : view_by l (write_by l t f x) ≡ change (view_by l t) f x
    unfolding view_by write_by change
    view_write_by = fun_ext (λ g. read g (same_field f g) refl (there g) refl)
