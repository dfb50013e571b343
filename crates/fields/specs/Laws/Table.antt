-- A sound table, as bytes: its length, its offsets and the facts of what it shows; and what may be written in it. Assumes nothing.
use Rattle.std.specs.Prelude.{◌≡◌, true, ◌&&◌, List, ℕ, eqb, length}
use Rattle.std.proofs.Common.{eq-eqb, eqb-true}
use Rattle.terms.specs.Laws.Bools.{and_left, and_right}
use Rattle.fields.specs.Rule.View.{View}
use Rattle.fields.specs.Rule.Layout.{form, table_bytes, most_opens, view, view_by, offsets_given}
use Rattle.fields.specs.Rule.Sound.{sound, sound_by, sound_table}
use Rattle.fields.specs.Laws.Sound.{Sound}
use Rattle.fields.specs.Laws.Still.{Offsets}
use Rattle.fields.specs.Laws.Facts.{facts}
use Rattle.fields.specs.Laws.Holds.{sound_of}

-- ---- the test, and the facts

pub record SoundTable (t : List ℕ) : Type 0 where
  pub long : length t ≡ table_bytes
  pub offsets : offsets_given form (view t) ≡ true
  pub shows : Sound most_opens (view t)

pub table_facts : (t : List ℕ) → sound_table t ≡ true → SoundTable t
unfolding sound_table sound_by view table_bytes most_opens
table_facts t e =
    let a = eqb (length t) form.bytes in
    let b = offsets_given form (view_by form t) in
    let d = sound form.most (view_by form t) in
    let f = and_left (a && b) d e in
    record {
      long = eqb-true (length t) form.bytes (and_left a b f);
      offsets = and_right a b f;
      shows = facts form.most (view_by form t) (and_right (a && b) d e);
    }

pub facts_table : (t : List ℕ) → SoundTable t → sound_table t ≡ true
unfolding sound_table sound_by view table_bytes most_opens
facts_table t w =
    rw (eq-eqb (length t) form.bytes w.long, w.offsets) (sound_of form.most (view_by form t) w.shows)

-- the offsets stay
pub offsets_same : (v u : View) → Offsets v u → offsets_given form v ≡ true → offsets_given form u ≡ true
unfolding offsets_given
offsets_same v u a e = rw (a.seats_at=, a.rows_at=) e
