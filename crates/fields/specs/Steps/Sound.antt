-- The test of soundness/src/lib.rt. Assumes nothing.
use Rattle.std.specs.Prelude.{◌≡◌, Bool, true, false, ◌&&◌, leb, List, ℕ, length}
use Rattle.std.proofs.Math.Path.{refl, ap}
use Rattle.std.proofs.Common.{◌∙◌}
use Rattle.std.proofs.Math.Dec.{eqb}
use Rattle.fields.specs.Base.{each, sum}
use Rattle.fields.specs.Rule.View.{opens, last}
use Rattle.fields.specs.Rule.Layout.{offsets_given, form, table_bytes, most_opens, view}
use Rattle.fields.specs.Rule.Sound.{sound_by, sound_table}
use Rattle.fields.specs.Rule.Clause.{last_fits}
use Rattle.fields.specs.Good.{seat_good, row_good, good}
use Rattle.fields.specs.Laws.Good.{sound_good}

module _ (t : List ℕ) where
  table_is : sound_table t ≡ eqb (length t) table_bytes && offsets_given form (view t) && good most_opens (view t)
  unfolding sound_table sound_by form table_bytes most_opens view
  table_is = ap (λ (b : Bool). eqb (length t) table_bytes && offsets_given form (view t) && b) (sound_good most_opens (view t))

  pub sound_is : sound_table t
      ≡ eqb (length t) table_bytes && offsets_given form (view t) && each 8 (λ s. seat_good most_opens (view t) s)
      && leb (view t last) (sum 8 (λ s. view t (opens s))) && each 80 (λ p. row_good (view t) p)
  unfolding good last_fits
  sound_is = table_is ∙ turned (eqb (length t) table_bytes) (offsets_given form (view t)) _ _ _
    where
      turned : (a b c d e : Bool) → a && b && (c && d && e) ≡ a && b && c && d && e
      turned true true c d e = refl
      turned true false c d e = refl
      turned false b c d e = refl
