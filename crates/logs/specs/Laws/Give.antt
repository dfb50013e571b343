-- One event given to the kernel, from what the step, and whoever wrote its lines, say of it. Assumes nothing.
use Rattle.std.specs.Prelude.{ℕ, ◌+◌, ◌-◌, ◌*◌, ◌≤◌, ◌≡◌, List, take, drop}
use Rattle.std.proofs.Math.Path.{ap, ap₂}
use Rattle.std.proofs.Common.{subst, ◌∙◌, arith}
use Rattle.std.proofs.Math.ListN.{length}
use Rattle.rules.specs.Sheet.{Outcome, room_needed, step_of, actions_in, bytes_in, Stepped, over}
use Rattle.rules.proofs.Promises.Step.{ReadOut, step_few, step_room, step_narrow, step_answer}
use Rattle.logs.specs.Rule.Stream.{first_bytes}
use Rattle.logs.specs.Rule.Line.{lines}
use Rattle.logs.specs.Rule.Log.{step}
use Rattle.logs.specs.Rule.Written.{Holding, lines_of}
use Rattle.rules.specs.Inner.{Wrote}
use Rattle.logs.specs.Rule.Serving.{event_at, moved_past, Room, One}
use Rattle.logs.specs.declared.cursor.Cursor.{Cursor}
use Rattle.logs.specs.Laws.Part.{from, from_is}
use Rattle.logs.specs.Laws.Holding.{answer_held, answer_lines_lem}

-- the part of the stream that is given
pub event_is : (s : List ℕ) (p x : ℕ) → x ≡ first_bytes (from s p) → take (p + x - p) (drop p s) ≡ event_at s p
unfolding event_at
event_is s p x e =
    let n : p + x - p ≡ x = omega arith in
    ap (λ k. take k (drop p s)) (n ∙ e ∙ ap first_bytes (from_is s p))

module _ (t b e : List ℕ) {o₀ t' o₁ : List ℕ} {r : ℕ} (l : length o₀ ≡ room_needed)
    (w : Stepped (step_of (length o₀) t b e) o₀ t' o₁ r) where
  abbrev x : Outcome
  x = step t b e

  did : Stepped x o₀ t' o₁ r
  did = subst (λ (n : ℕ). Stepped (step_of n t b e) o₀ t' o₁ r) l w

  says : ReadOut x o₀ o₁ r
  says = subst (λ (n : ℕ). ReadOut (step_of n t b e) o₀ o₁ r) l (step_answer t b e w)

  -- its frames are in the room
  pub gave_held : Holding r o₁
  gave_held = answer_held says (step_narrow room_needed t b e)

  -- and its lines have room in what is kept for an event
  pub gave_room : {s o : List ℕ} {c : Cursor} {f : ℕ} → Room s o c f
      → f + 65 + 88 * actions_in r + 2 * bytes_in r ≤ length o
  gave_room h =
      let few = step_few room_needed t b e in
      let small = step_room room_needed t b e in
      let a = says.actions= in
      let n = says.bytes= in
      let m = h.roomy in
      omega arith

  pub gave_one : {s o : List ℕ} {c : Cursor} {f : ℕ} {n k m : ℕ} {o' : List ℕ} {f' : ℕ} → e ≡ event_at s c.place
      → n ≡ first_bytes (from s c.place) → k ≡ c.place + n → m ≡ c.number + 1 → Wrote o f (lines_of m r o₁) o' f'
      → One s t b o c f t' o' (record { place = k; number = m }) f'
  unfolding moved_past
  gave_one {s} {o} {c} {f} {n} {k} {m} q size end one v =
      let goes : k ≡ c.place + first_bytes (drop c.place s) =
      end ∙ ap (λ j. c.place + j) (size ∙ ap first_bytes (from_is s c.place)) in
      let same : lines_of m r o₁ ≡ lines (c.number + 1) (step t b (event_at s c.place)) =
      answer_lines_lem says (step_narrow room_needed t b e) m ∙ ap₂ (λ j y. lines j (step t b y)) one q in
      record {
        table = did.table ∙ ap (λ y. (step t b y).table) q;
        text = v.bytes ∙ ap (over o f) same;
        next = v.next ∙ ap (λ y. f + length y) same;
        moved = ap₂ (λ i j. record { place = i; number = j }) goes one;
      }
