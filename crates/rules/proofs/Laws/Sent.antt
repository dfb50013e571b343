-- Laws of frames sent one after another: how many bytes they have, and that one list sent after another is one list sent.
-- Assumes nothing.
use Rattle.std.specs.Prelude.{ℕ, ◌+◌, ◌≤◌, ◌≡◌, refl, Bool, true, false, List, [], ◌∷◌, ◌++◌, length}
use Rattle.std.proofs.Common.{ap, ap₂, sym, subst, ◌∙◌, append_assoc, append-nil, arith}
use Rattle.rules.specs.Rule.Frame.{Frame, framed, bytes, frames, over}
use Rattle.rules.specs.Rule.Seat.{only}
use Rattle.rules.specs.Held.{size, Sent, Wrote}
use Rattle.rules.proofs.Laws.Frame.{length_bytes, length_frames}
use Rattle.rules.proofs.Laws.Over.{length_over, over_nothing, over_over}

-- ---- one list after another

pub frames_append : (l m : List Frame) → frames (l ++ m) ≡ frames l ++ frames m
unfolding frames
frames_append [] m = refl
frames_append (a ∷ l) m = ap (λ k. bytes a ++ k) (frames_append l m) ∙ sym (append_assoc (bytes a) (frames l) (frames m))

pub size_append : (l m : List Frame) → size (l ++ m) ≡ size l + size m
size_append [] m = omega arith
size_append (a ∷ l) m = let h = size_append l m in omega arith

pub sent_then : {o : List ℕ} {at : ℕ} {l : List Frame} {o₁ : List ℕ} {k : ℕ} {m : List Frame} {o₂ : List ℕ} {r : ℕ}
    → at + size l ≤ length o → Sent o at l o₁ k → Sent o₁ k m o₂ r → Sent o at (l ++ m) o₂ r
sent_then {o} {at} {l} {o₁} {k} {m} {o₂} {r} h a b =
    let e : at + length (frames l) ≡ k = ap (λ n. at + n) (length_frames l) ∙ sym a.next in
    record {
      next = let n₁ = a.next in let n₂ = b.next in let s = size_append l m in omega arith;
      bytes =
          b.bytes ∙ ap₂ (λ u n. over u n (frames m)) a.bytes (sym e) ∙ over_over o at (frames l) (frames m) (omega arith)
          ∙ ap (over o at) (sym (frames_append l m));
      same = b.same ∙ a.same;
    }

pub sent_none : (o : List ℕ) (at : ℕ) → Sent o at [] o at
unfolding frames
sent_none o at = record { next = omega arith; bytes = sym (over_nothing o at); same = refl }

-- ---- an action, or none

pub only_yes : {o o' : List ℕ} {at r : ℕ} {a : Frame} {b : Bool} → Sent o at (a ∷ []) o' r → b ≡ true
    → Sent o at (only b a) o' r
unfolding only
only_yes w e = rw e w

pub only_no : {o : List ℕ} {at : ℕ} {b : Bool} (a : Frame) → b ≡ false → Sent o at (only b a) o at
unfolding only
only_no {o} {at} a e = rw e (sent_none o at)

pub size_only : (b : Bool) (a : Frame) → size (only b a) ≤ 10 + length a.payload
unfolding only
size_only true a = omega arith
size_only false a = omega arith

-- ---- one frame, from its bytes

pub sent_one : {o : List ℕ} {at : ℕ} {a : Frame} {o' : List ℕ} {r : ℕ} → at + 10 + length a.payload ≤ length o
    → Wrote o at (bytes a) o' r → Sent o at (a ∷ []) o' r
unfolding frames
sent_one {o} {at} {a} {o'} {r} h w =
    let n = w.next in
    let l = length_bytes a in
    let e : frames (a ∷ []) ≡ bytes a = append-nil (bytes a) in
    record {
      next = omega arith;
      bytes = w.bytes ∙ ap (over o at) (sym e);
      same = ap length w.bytes ∙ length_over o at (bytes a) (omega arith);
    }

-- ---- the same frame, its payload said otherwise

pub sent_payload : {o : List ℕ} {at p i t : ℕ} {o' : List ℕ} {r : ℕ} (x y : List ℕ) → x ≡ y
    → Sent o at (framed p i t x ∷ []) o' r → Sent o at (framed p i t y ∷ []) o' r
sent_payload {o} {at} {p} {i} {t} {o'} {r} x y e w = subst (λ z. Sent o at (framed p i t z ∷ []) o' r) e w
