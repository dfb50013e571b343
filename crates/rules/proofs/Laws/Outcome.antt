-- Every outcome of a step, and every outcome of a start, is orderly. Assumes nothing.
use Rattle.std.specs.Prelude.{◌≡◌, true, not, cond, ◌≢◌, List, ℕ, ◌+◌, ◌≤◌, length, get_or, eqb, ltb, Option, Some, None}
use Rattle.std.proofs.Math.Path.{refl}
use Rattle.std.proofs.Common.{arith}
use Rattle.std.proofs.lemmas.Bool.{eqb-false}
use Rattle.fields.specs.Table.{tenant, view, sound_table, live, tab_of, process_of}
use Rattle.terms.specs.Names.{num}
use Rattle.fields.specs.Laws.Tab.{tab_of_lem}
use Rattle.fields.specs.declared.place.Place.{Place}
use Rattle.rules.specs.Rule.Event.{part, rest, field, delivered, reading_of}
use Rattle.rules.specs.Rule.Desk.{Desk, desk_at, Reply}
use Rattle.rules.specs.Rule.Seat.{seat_rule}
use Rattle.rules.specs.Rule.Tab.{tab_rule}
use Rattle.rules.specs.Rule.Step.{refused, made, at_tab, event_rule, read_rule, room_needed, step_of}
use Rattle.rules.specs.declared.event.Event.{Event}
use Rattle.rules.proofs.Laws.Cases.{either}
use Rattle.rules.proofs.Laws.Frame.{length_part}
use Rattle.rules.proofs.Laws.Line.{Sized, Line, key, mouse, opening, display, socket, url, store, retrieve, result}
use Rattle.rules.proofs.Laws.Line.{document, read_line}
use Rattle.rules.proofs.Laws.Orderly.{Orderly, no}
use Rattle.rules.proofs.Laws.Seat.{open_orderly, pass_orderly, key_orderly}
use Rattle.rules.proofs.Laws.Tab.{display_orderly, socket_orderly, url_orderly, store_orderly, retrieve_orderly}
use Rattle.rules.proofs.Laws.Tab.{result_orderly, document_orderly}

-- ---- the parts of a line are short

rest_short : (e : List ℕ) (j : ℕ) → Sized e → 10 + j ≤ length e → j + length (part e (rest e j)) ≤ 4096
unfolding rest
rest_short e j w h = let n = length_part e (rest e j) in omega arith

whole_short : (e : List ℕ) → Sized e → length (part e (rest e 0)) ≤ 4096
whole_short e w = let n = rest_short e 0 w w.long in omega arith

store_short : (e : List ℕ) → Sized e → 11 + get_or e 10 0 ≤ length e
    → 1 + length (part e (field 1 (get_or e 10 0))) + length (part e (rest e (1 + get_or e 10 0))) ≤ 4096
unfolding field
store_short e w h =
    let n = get_or e 10 0 in
    let a = length_part e (field 1 n) in
    let b = rest_short e (1 + n) w (omega arith) in
    omega arith

body_short : (e : List ℕ) → Sized e → 14 ≤ length e → length (part e (delivered e).body) ≤ 4096
unfolding delivered
body_short e w h = let n = rest_short e 4 w h in omega arith

-- ---- an event that is read

module _ (t b e : List ℕ) where
  at_seat : (s : ℕ) (r : Reply) → (view t (tenant s) ≢ 0 → Orderly t (made t s r))
      → Orderly t (cond (eqb (view t (tenant s)) 0) (refused 4 t) (made t s r))
  at_seat s r f =
      either (Orderly t) (eqb (view t (tenant s)) 0) _ _ (λ _. no t 4 (omega arith))
      (λ h. f (eqb-false (view t (tenant s)) 0 h))

  at_tab_lem : (n i : ℕ) (f : Desk → ℕ → Reply) → n ≤ 10
      → ((s k : ℕ) → live (view t) s k ≡ true → Orderly t (made t s (f (desk_at t s) k)))
      → Orderly t (at_tab t n (tab_of (view t) i) f)
  unfolding at_tab
  at_tab_lem n i f h g = go (tab_of (view t) i) refl
    where
      go : (p : Option Place) → tab_of (view t) i ≡ p → Orderly t (at_tab t n p f)
      go None q = no t n h
      go (Some p) q = g p.seat p.slot (tab_of_lem (view t) i p.seat p.slot q).there

  line_orderly : {v : Event} → Line e v → Orderly t (event_rule t b e v)
  unfolding event_rule seat_rule tab_rule
  line_orderly (key h n) = at_seat _ _ (λ l. key_orderly t _ l _)
  line_orderly (mouse h n) = at_seat _ _ (λ l. pass_orderly t _ l _ (λ i. whole_short e h.sized))
  line_orderly (opening h) = at_seat _ _ (λ l. open_orderly t _ l b _)
  line_orderly (display h n) = at_tab_lem 4 _ _ (omega arith) (λ s k l. display_orderly t s k l _ (whole_short e h.sized))
  line_orderly (socket h n) = at_tab_lem 4 _ _ (omega arith) (λ s k l. socket_orderly t s k l _ _ (rest_short e 2 h.sized n))
  line_orderly (url h) = at_tab_lem 4 _ _ (omega arith) (λ s k l. url_orderly t s k l _ (whole_short e h.sized))
  line_orderly (store h n) = at_tab_lem 4 _ _ (omega arith) (λ s k l. store_orderly t s k l _ _ (store_short e h.sized n))
  line_orderly (retrieve h) = at_tab_lem 4 _ _ (omega arith) (λ s k l. retrieve_orderly t s k l _)
  line_orderly (result h n) =
      either (Orderly t) (eqb (process_of (view t) (num e 1 4)) 0) _ _ (λ _. no t 4 (omega arith))
      (λ _. at_tab_lem 10 _ _ (omega arith) (λ s k l. result_orderly t s k l _ _ (body_short e h.sized n)))
  line_orderly (document h n) =
      either (Orderly t) (not (eqb (num e 1 4) 0)) _ _ (λ _. no t 4 (omega arith))
      (λ _. at_tab_lem 10 _ _ (omega arith) (λ s k l. document_orderly t s k l _ (body_short e h.sized n)))

  -- ---- a step

  read_orderly : (r : Option Event) → reading_of e ≡ r → Orderly t (read_rule t b e r)
  unfolding read_rule
  read_orderly None h = no t 3 (omega arith)
  read_orderly (Some v) h = line_orderly (read_line e v h)

  pub step_orderly : (room : ℕ) → Orderly t (step_of room t b e)
  unfolding step_of
  step_orderly room =
      either (Orderly t) (ltb room room_needed) _ _ (λ _. no t 1 (omega arith))
      (λ _. either (Orderly t) (not (sound_table t)) _ _ (λ _. no t 2 (omega arith)) (λ _. read_orderly (reading_of e) refl))
