-- How each exit of a turn comes to what its contract says. Assumes nothing.
use Rattle.std.specs.Prelude.{ℕ, ◌+◌, ◌-◌, ◌*◌, ◌≤◌, ◌<◌, ◌≡◌, refl, Bool, true, false, length}
use Rattle.std.proofs.Math.Path.{sym, ap, ap₂, subst}
use Rattle.std.proofs.Common.{◌∙◌, true≢false, arith}
use mathlib.Core.List.{List}
use Rattle.std.proofs.Math.ListN.{take, drop}
use Rattle.terms.specs.Laws.Bools.{cases}
use Rattle.rules.proofs.Laws.Over.{over_front, over_past}
use Rattle.logs.specs.Log.{whole, oversized, joined, log_from}
use Rattle.logs.specs.Inner.{most_text, taken, cut, ready}
use Rattle.logs.specs.Laws.First.{rest_small}
use Rattle.logs.specs.Laws.Ready.{ready_frame, ready_cut, ready_few, cut_large, cut_ended}
use Rattle.logs.specs.Laws.Serving.{many_inside, many_zero, many_filled}
use Rattle.logs.specs.declared.frame.Ready.{Ready}
use Rattle.reader.specs.Held.{Sound, held, Filled}
use Rattle.reader.specs.Laws.Fill.{length_held}
use Rattle.reader.specs.Laws.Past.{held_past}
use Rattle.reader.specs.declared.place.Place.{Place}
use Rattle.logging.specs.Turn.{most_events, most_bytes, Gave, past, Turn, gave, read}
use Rattle.logging.specs.declared.give.Batch.{Batch}

-- where nothing is ready, less than an event is held, and the end was not seen
pub record Waiting (ended : Bool) (s : List ℕ) : Type 0 where
  pub short : length s < most_bytes
  pub on : ended ≡ false

more_ready : (ended : Bool) (s : List ℕ) → whole s ≡ true → ready most_events ended s ≡ record { count = 0; last = false } → ⊥
more_ready ended s h e = omega (arith, ready_frame (most_events - 1) ended s h, ap (λ r. r.count) e)

on_is : (ended : Bool) (s : List ℕ) → cut ended s ≡ record { count = 0; last = false } → ended ≡ false
on_is true s c = absurd (true≢false (sym (cut_ended s) ∙ ap (λ r. r.last) c))
on_is false s c = refl

pub waits : (ended : Bool) (s : List ℕ) → ready most_events ended s ≡ record { count = 0; last = false } → Waiting ended s
waits ended s e =
    cases (whole s)
    (λ h. absurd (more_ready ended s h e))
    (λ h.
    let c = sym (ready_cut (most_events - 1) ended s h) ∙ e in
    cases (oversized s)
    (λ o. absurd (omega (arith, ap (λ r. r.count) (sym (cut_large ended s o) ∙ c))))
    (λ o. record { short = rest_small s h o; on = on_is ended s c }))

-- ---- from what is lent of the buffer

module _ (buf : List ℕ) (p : Place) {s t b o t₁ o₁ : List ℕ} {g : Batch} (lent : s ≡ held buf p)
    (w₀ : Gave s t b o p.number p.ended t₁ o₁ g) where
  w : Gave (held buf p) t b o p.number p.ended t₁ o₁ g
  w = subst (λ (h : List ℕ). Gave h t b o p.number p.ended t₁ o₁ g) lent w₀

  -- a read
  pub turn_read : {buf' : List ℕ} {p' : Place} → g.ready.count ≡ 0 → g.ready.last ≡ false → Filled buf p buf' p'
      → Turn buf t b o p buf' t₁ o₁ p'
  turn_read {buf'} {p'} none on f =
      let was : ready most_events p.ended (held buf p) ≡ record { count = 0; last = false } =
      sym w.ready= ∙ ap₂ (λ (k : ℕ) (l : Bool). record { count = k; last = l }) none on in
      let same = many_zero w.many none in
      read was (waits p.ended (held buf p) was).short same.0 same.1 f

  -- events given: the next place lies in what was read
  pub place_inside : Sound p (length buf) → p.place + g.served.cursor.place ≤ p.have
  place_inside s =
      let long = length_held buf p s in
      let a = s.ahead in
      let i = many_inside w.many in
      omega arith

  pub rest_is : Sound p (length buf)
      → held buf (past p g) ≡ drop (length (joined (taken g.ready.count (held buf p)))) (held buf p)
  rest_is s =
      held_past buf p (past p g) g.served.cursor.place s (many_inside w.many) refl refl
      ∙ ap (λ (u : ℕ). drop u (held buf p)) w.many.place

  pub turn_gave : {r : Place} → Sound p (length buf) → most_text * most_events ≤ length o
      → (g.ready.count ≡ 0 → g.ready.last ≡ true) → r ≡ past p g → Turn buf t b o p buf t₁ o₁ r
  turn_gave s roomy some e =
      let m = w.many in
      let n = g.ready.count in
      let h = held buf p in
      let x = log_from p.number t b (taken n h) in
      let few : n ≤ most_events = omega (arith, ap (λ (r : Ready). r.count) w.ready=, ready_few most_events p.ended h) in
      subst (λ (r : Place). Turn buf t b o p buf t₁ o₁ r) (sym e)
      (gave n
      (record {
        sound = record { ahead = place_inside s; inside = s.inside };
        few = few;
        some = some;
        was = sym w.ready=;
        rest = rest_is s;
        table = m.table;
        text = ap₂ (λ (u : ℕ) (l : List ℕ). take u l) m.next m.text ∙ over_front o x;
        beyond =
            ap₂ (λ (u : ℕ) (l : List ℕ). drop u l) m.next m.text ∙ over_past o x
            ∙ ap (λ (u : ℕ). drop u o) (sym m.next);
        fits = let f = many_filled m in omega arith;
        number= = m.number;
        ended= = refl;
      }))
