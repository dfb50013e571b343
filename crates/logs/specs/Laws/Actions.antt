-- A loop that writes the lines of frames that lie end to end: what is written, and then the lines of the frames that are left,
-- is all of them. Assumes nothing.
use Rattle.std.specs.Prelude.{ℕ, zero, suc, ◌+◌, ◌*◌, ◌-◌, ◌≤◌, ◌<◌, ◌≡◌, refl, List, ◌++◌, length, drop}
use Rattle.std.proofs.Common.{ap, ap₂, sym, subst, ◌∙◌, arith, length-drop, drop-drop, length-take-le}
use Rattle.terms.specs.Names.{num}
use Rattle.logs.specs.Rule.Line.{action_line, action_lines}
use Rattle.logs.specs.Rule.Written.{Holds}
use Rattle.rules.specs.Sheet.{frame_at, frames_of}
use Rattle.rules.specs.Inner.{Wrote}
use Rattle.rules.proofs.Laws.Back.{frame_at_lem, frames_none, frames_more}
use Rattle.rules.proofs.Laws.Wrote.{wrote_none, wrote_then, wrote_is}
use Rattle.logs.specs.Laws.Bound.{length_action}
use Rattle.logs.specs.Laws.Part.{from, from_is}

-- how many bytes the frame at the front has
abbrev extent : List ℕ → ℕ
extent s = 10 + num s 6 4

holds_first : (k : ℕ) (s : List ℕ) → 0 < k → Holds k s → extent s ≤ length s
unfolding Holds
holds_first zero s l h = absurd (omega arith)
holds_first (suc k) s l h = h.0

holds_rest : (k : ℕ) (s : List ℕ) → 0 < k → Holds k s → Holds (k - 1) (drop (extent s) s)
unfolding Holds
holds_rest zero s l h = absurd (omega arith)
holds_rest (suc k) s l h = let e : k ≡ suc k - 1 = omega arith in subst (λ n. Holds n (drop (extent s) s)) e h.1

lines_first : (k : ℕ) (s : List ℕ) → 0 < k
    → action_lines (frames_of k s) ≡ action_line (frame_at s) ++ action_lines (frames_of (k - 1) (drop (extent s) s))
unfolding action_lines
lines_first zero s l = absurd (omega arith)
lines_first (suc k) s l = let e : suc k - 1 ≡ k = omega arith in rw (e, frames_more k s)

length_first : (s : List ℕ) → extent s ≤ length s → length (action_line (frame_at s)) ≤ 88 + 2 * num s 6 4
length_first s h =
    let m : num s 6 4 ≤ length (drop 10 s) = simp length-drop (omega arith) in
    let a = length_action (frame_at s) in
    let e : length (frame_at s).payload ≡ num s 6 4 = rw (frame_at_lem s) (length-take-le (num s 6 4) (drop 10 s) m) in
    omega arith

-- `left` frames are left from place p of s on; the room is now u, and the next line goes to place `to`
pub record Going (o : List ℕ) (at : ℕ) (s : List ℕ) (count : ℕ) (u : List ℕ) (to p left : ℕ) : Type 0 where
  pub same : length u ≡ length o
  pub inside : p ≤ length s
  pub room : to + 88 * left + 2 * (length s - p) ≤ length u
  pub holds : Holds left (drop p s)
  pub rest : (o' : List ℕ) (r : ℕ) → Wrote u to (action_lines (frames_of left (drop p s))) o' r
      → Wrote o at (action_lines (frames_of count s)) o' r

pub going_none : (o : List ℕ) (at : ℕ) (s : List ℕ) (count left : ℕ) → left ≡ count → Holds count s
    → at + 88 * count + 2 * length s ≤ length o → Going o at s count o at 0 left
going_none o at s count left e h l =
    subst (Going o at s count o at 0) (sym e)
    (record { same = refl; inside = omega arith; room = omega arith; holds = h; rest = λ o' r w. w })

module _ {o : List ℕ} {at : ℕ} {s : List ℕ} {count : ℕ} {u : List ℕ} {to p left : ℕ} where
  -- the next frame is there, and its line has room
  pub going_next : Going o at s count u to p left → 0 < left
      → (10 + num (from s p) 6 4 ≤ length (from s p)) × (to + 88 + 2 * num (from s p) 6 4 ≤ length u)
  going_next g l =
      let h = holds_first left (drop p s) l g.holds in
      let e = length-drop p s in
      let room = g.room in
      rw (from_is s p) (h, omega arith)

  pub going_more : {u' : List ℕ} {k n next : ℕ} → Going o at s count u to p left → next + 1 ≡ left
      → Wrote u to (action_line (frame_at (from s p))) u' k → length u' ≡ length u → n ≡ num (from s p) 6 4
      → Going o at s count u' k (p + (10 + n)) next
  going_more {u'} {k} {n} {next} g one w₀ same e₀ =
      let d = drop p s in
      let l : 0 < left = omega arith in
      let less : left - 1 ≡ next = omega arith in
      let w : Wrote u to (action_line (frame_at d)) u' k = rw (from_is s p) at w₀ in
      let e : n ≡ num d 6 4 = rw (from_is s p) at e₀ in
      let h = holds_first left d l g.holds in
      let long = length-drop p s in
      let line = length_first d h in
      let ends = w.next in
      let room = g.room in
      let inside = g.inside in
      let on : drop (extent d) d ≡ drop (p + (10 + n)) s =
      drop-drop (extent d) p s ∙ ap (λ m. drop (p + (10 + m)) s) (sym e) in
      let split =
      lines_first left d l ∙ ap₂ (λ k m. action_line (frame_at d) ++ action_lines (frames_of k m)) less on in
      record {
        same = same ∙ g.same;
        inside = omega arith;
        room = omega arith;
        holds = rw less at (subst (Holds (left - 1)) on (holds_rest left d l g.holds));
        rest = λ o' r w'. g.rest o' r (wrote_is (sym split) refl (wrote_then (omega arith) w w'));
      }

  pub going_all : Going o at s count u to p left → left ≡ 0 → Wrote o at (action_lines (frames_of count s)) u to
  unfolding action_lines
  going_all g e = g.rest u to (rw (e, frames_none (drop p s)) (wrote_none u to))
