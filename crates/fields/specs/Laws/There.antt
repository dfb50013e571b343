-- What a table shows as live is there: a live tab has a seat and a slot, a live process a row. Assumes nothing.
use Rattle.std.specs.Prelude.{◌≡◌, true, false, ◌&&◌, List, ℕ}
use Rattle.std.proofs.Common.{sym, ◌∙◌}
use Rattle.std.proofs.lemmas.Bool.{false≢true}
use Rattle.terms.specs.Base.{within, Range}
use Rattle.terms.specs.Laws.Bools.{cases, within_at, and_left, and_right}
use Rattle.fields.specs.Rule.View.{Field, there, serial, number}
use Rattle.fields.specs.Rule.Layout.{view, view_by}
use Rattle.fields.specs.Rule.Word.{live, used}
use Rattle.fields.specs.Laws.Sound.{zero_free, zero_unused}

-- a field that is not there shows 0
pub absent : (t : List ℕ) (f : Field) → there f ≡ false → view t f ≡ 0
unfolding view view_by
absent t f e = rw e

pub live_there : (t : List ℕ) (s k : ℕ) → live (view t) s k ≡ true → (Range 1 8 s) × (Range 1 10 k)
unfolding there
live_there t s k l =
    let a = within 1 8 s in
    let b = within 1 10 k in
    let e : a && b ≡ true
    = cases (a && b) (λ h. h) (λ h. absurd (false≢true (sym (zero_free (view t) s k (absent t (serial s k) h)) ∙ l))) in
    (within_at 1 8 s (and_left a b e), within_at 1 10 k (and_right a b e))

pub used_there : (t : List ℕ) (p : ℕ) → used (view t) p ≡ true → Range 1 80 p
unfolding there
used_there t p u =
    within_at 1 80 p
    (cases (within 1 80 p) (λ h. h) (λ h. absurd (false≢true (sym (zero_unused (view t) p (absent t (number p) h)) ∙ u))))
