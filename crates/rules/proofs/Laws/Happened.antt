-- What a step of a sound table comes to is one of the outcomes that Happens lists, for every event. Assumes nothing.
use Rattle.std.specs.Prelude.{ℕ, ◌+◌, ◌≡◌, true, not, cond, ◌≢◌, List, drop, eqb, ltb, Option, Some, None}
use Rattle.std.proofs.Math.Path.{refl}
use Rattle.std.proofs.Common.{sym, ap₂, ◌∙◌, arith, eqb-true}
use Rattle.std.proofs.lemmas.Bool.{false≢true, eqb-false, not-true, not-false}
use Rattle.std.proofs.Math.ListN.{get_or}
use Rattle.terms.specs.Laws.Lists.{take_rest}
use Rattle.fields.specs.Table.{tenant, view, tab_id, sound_table, placed, tab_of, process_of}
use Rattle.terms.specs.Names.{num}
use Rattle.fields.specs.Laws.Tab.{tab_of_lem, id_whole}
use Rattle.fields.specs.declared.place.Place.{Place}
use Rattle.rules.specs.Rule.Event.{part, rest, field, delivered, reading_of}
use Rattle.rules.specs.Rule.Desk.{Desk, desk_at, Reply, id_at, TabAt}
use Rattle.rules.specs.Rule.Seat.{seat_rule}
use Rattle.rules.specs.Rule.Tab.{tab_rule}
use Rattle.rules.specs.Rule.Step.{refused, made, at_tab, event_rule, read_rule, room_needed, step_of}
use Rattle.rules.specs.declared.event.Event.{Event}
use Rattle.rules.proofs.Laws.Cases.{either}
use Rattle.rules.proofs.Laws.Line.{Head, Line, key, mouse, opening, display, socket, url, store, retrieve, result}
use Rattle.rules.proofs.Laws.Line.{document, read_line}
use Rattle.rules.proofs.Laws.Happens.{From, Happens, nothing, points}
use Rattle.rules.proofs.Laws.Acts.{HappensAt, tab_at_lem, open_happens, pass_happens, key_happens, display_happens}
use Rattle.rules.proofs.Laws.Acts.{socket_happens, url_happens, store_happens, retrieve_happens, result_happens}
use Rattle.rules.proofs.Laws.Acts.{document_happens}

-- an event's payload, from its byte j on, and from its first
pub payload_from : (e : List ℕ) (j : ℕ) → part e (rest e j) ≡ drop (10 + j) e
unfolding part rest
payload_from e j = take_rest (10 + j) e

pub payload : (e : List ℕ) → part e (rest e 0) ≡ drop 10 e
payload e = payload_from e 0

-- an id is that of the tab it finds
found_id : (t : List ℕ) (i s k : ℕ) → tab_of (view t) i ≡ Some (placed s k) → i ≡ id_at t s k
found_id t i s k h =
    let w = tab_of_lem (view t) i s k h in sym (ap₂ tab_id w.seat_is w.serial_is ∙ id_whole i)

-- ---- an event that is read

module _ (t b e : List ℕ) (sound : sound_table t ≡ true) where
  at_seat : (s : ℕ) (r : Reply) → (view t (tenant s) ≢ 0 → HappensAt t b e s r)
      → Happens t b e (cond (eqb (view t (tenant s)) 0) (refused 4 t) (made t s r))
  at_seat s r f =
      either (Happens t b e) (eqb (view t (tenant s)) 0) _ _ (λ _. nothing 4 (λ z. omega arith))
      (λ h. f (eqb-false (view t (tenant s)) 0 h))

  at_tab_lem : (n i : ℕ) (f : Desk → ℕ → Reply) → n ≢ 2
      → ((s k : ℕ) → TabAt t (id_at t s k) s k → i ≡ id_at t s k
      → HappensAt t b e s (f (desk_at t s) k))
      → Happens t b e (at_tab t n (tab_of (view t) i) f)
  unfolding at_tab
  at_tab_lem n i f other g = go (tab_of (view t) i) refl
    where
      go : (p : Option Place) → tab_of (view t) i ≡ p → Happens t b e (at_tab t n p f)
      go None q = nothing n other
      go (Some p) q =
          g p.seat p.slot (tab_at_lem t p.seat p.slot sound (tab_of_lem (view t) i p.seat p.slot q).there)
          (found_id t i p.seat p.slot q)

  from : {party tag i : ℕ} → Head e party tag → num e 1 4 ≡ i → From e party tag i
  from h q = record { head = h; id = q }

  line_happens : {v : Event} → Line e v → Happens t b e (event_rule t b e v)
  unfolding event_rule seat_rule tab_rule delivered part field
  line_happens (key h n) = at_seat _ _ (λ l. key_happens t b e _ sound l (from h refl) n)
  line_happens (mouse h n) =
      at_seat _ _ (λ l. rw (payload e) (pass_happens t b e _ sound l _ (λ i w. points _ i (from h refl) n w)))
  line_happens (opening h) = at_seat _ _ (λ l. rw (payload e) (open_happens t b e _ sound l (from h refl)))
  line_happens (display h n) =
      at_tab_lem 4 _ _ (λ z. omega arith) (λ s k w q. rw (payload e) (display_happens t b e s k w (from h q) n))
  line_happens (socket h n) =
      at_tab_lem 4 _ _ (λ z. omega arith) (λ s k w q. rw (payload_from e 2) (socket_happens t b e s k w (from h q) n))
  line_happens (url h) = at_tab_lem 4 _ _ (λ z. omega arith) (λ s k w q. rw (payload e) (url_happens t b e s k w (from h q)))
  line_happens (store h n) =
      at_tab_lem 4 _ _ (λ z. omega arith)
      (λ s k w q. rw (payload_from e (1 + get_or e 10 0)) (store_happens t b e s k w (from h q) n))
  line_happens (retrieve h) =
      at_tab_lem 4 _ _ (λ z. omega arith) (λ s k w q. rw (payload e) (retrieve_happens t b e s k w (from h q)))
  line_happens (result h n) =
      either (Happens t b e) (eqb (process_of (view t) (num e 1 4)) 0) _ _ (λ _. nothing 4 (λ z. omega arith))
      (λ _. at_tab_lem 10 _ _ (λ z. omega arith)
      (λ s k w q. rw (payload_from e 4) (result_happens t b e s k w _ (from h refl) (record { long = n; tab = q }))))
  line_happens (document h n) =
      either (Happens t b e) (not (eqb (num e 1 4) 0)) _ _ (λ _. nothing 4 (λ z. omega arith))
      (λ z. at_tab_lem 10 _ _ (λ z. omega arith)
      (λ s k w q. rw (payload_from e 4) (document_happens t b e s k w
      (from h (eqb-true (num e 1 4) 0 (not-false (eqb (num e 1 4) 0) z))) (record { long = n; tab = q }))))

  -- ---- a step

  read_happens : (r : Option Event) → reading_of e ≡ r → Happens t b e (read_rule t b e r)
  unfolding read_rule
  read_happens None h = nothing 3 (λ z. omega arith)
  read_happens (Some v) h = line_happens (read_line e v h)

pub step_happens : (room : ℕ) (t b e : List ℕ) → sound_table t ≡ true → Happens t b e (step_of room t b e)
unfolding step_of
step_happens room t b e sound =
    either (Happens t b e) (ltb room room_needed) _ _ (λ _. nothing 1 (λ z. omega arith))
    (λ _. either (Happens t b e) (not (sound_table t)) _ _ (λ h. absurd (false≢true (sym (not-true (sound_table t) h) ∙ sound)))
    (λ _. read_happens t b e sound (reading_of e) refl))
