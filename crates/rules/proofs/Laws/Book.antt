-- What a step does not depend on: any room that is enough is as good as another, and the book is read for an open only. Assumes
-- nothing.
use Rattle.std.specs.Prelude.{◌≡◌, true, ◌≢◌, ◌⊎◌, List, ℕ, ◌≤◌, get_or, Option, Some, None}
use Rattle.std.proofs.Math.Path.{refl}
use Rattle.std.proofs.Common.{⊎_elim, le-ltb}
use Rattle.fields.specs.Table.{sound_table}
use Rattle.rules.specs.Rule.Event.{reading_of}
use Rattle.rules.specs.Rule.Seat.{seat_rule}
use Rattle.rules.specs.Rule.Tab.{tab_rule}
use Rattle.rules.specs.Rule.Step.{event_rule, read_rule, room_needed, step_of}
use Rattle.rules.specs.declared.event.Event.{Event}
use Rattle.rules.proofs.Laws.Line.{Line, key, mouse, opening, display, socket, url, store, retrieve, result}
use Rattle.rules.proofs.Laws.Line.{document, read_line}

-- with room enough, a step of a sound table is what is read of its event
pub step_reads : (n : ℕ) (t b e : List ℕ) → room_needed ≤ n → sound_table t ≡ true
    → step_of n t b e ≡ read_rule t b e (reading_of e)
unfolding step_of
step_reads n t b e h s = rw (le-ltb n room_needed h, s)

module _ (t b b' e : List ℕ) (other : (get_or e 0 0 ≢ 1) ⊎ (get_or e 5 0 ≢ 3)) where
  line_any_book : {v : Event} → Line e v → event_rule t b e v ≡ event_rule t b' e v
  unfolding event_rule seat_rule tab_rule
  line_any_book (key h n) = refl
  line_any_book (mouse h n) = refl
  line_any_book (opening h) = absurd (⊎_elim (λ f. f h.party=) (λ f. f h.tag=) other)
  line_any_book (display h n) = refl
  line_any_book (socket h n) = refl
  line_any_book (url h) = refl
  line_any_book (store h n) = refl
  line_any_book (retrieve h) = refl
  line_any_book (result h n) = refl
  line_any_book (document h n) = refl

  read_any_book : (r : Option Event) → reading_of e ≡ r → read_rule t b e r ≡ read_rule t b' e r
  unfolding read_rule
  read_any_book None h = refl
  read_any_book (Some v) h = line_any_book (read_line e v h)

  -- any two books, where the event is no open
  pub any_book : read_rule t b e (reading_of e) ≡ read_rule t b' e (reading_of e)
  any_book = read_any_book (reading_of e) refl
