-- How long frames and parts of an event are. Assumes nothing.
use Rattle.std.specs.Prelude.{◌≡◌, refl, List, [], ◌∷◌, ℕ, zero, suc, ◌+◌, ◌/◌, ◌%◌, ◌≤◌, length, drop}
use Rattle.std.proofs.Common.{arith, length-append, length-take}
use Rattle.rules.specs.Rule.Frame.{be, Frame, head, bytes, frames}
use Rattle.rules.specs.Rule.Event.{part}
use Rattle.rules.specs.Held.{size}
use Rattle.rules.specs.declared.event.Part.{Part}

pub length_be : (w x : ℕ) → length (be w x) ≡ w
unfolding be
length_be zero x = refl
length_be (suc w) x = let h = length_be w (x / 256) in omega (arith, h, length-append (be w (x / 256)) (x % 256 ∷ []))

pub length_head : (p i t n : ℕ) → length (head p i t n) ≡ 10
unfolding head
length_head p i t n = simp (length-append, length_be)

pub length_bytes : (a : Frame) → length (bytes a) ≡ 10 + length a.payload
unfolding bytes
length_bytes a = simp (length-append, length_head)

pub length_frames : (l : List Frame) → length (frames l) ≡ size l
unfolding frames
length_frames [] = refl
length_frames (a ∷ l) = simp (length-append, length_bytes, length_frames l)

pub length_part : (e : List ℕ) (p : Part) → length (part e p) ≤ p.len
unfolding part
length_part e p = let a = length-take p.len (drop p.at e) in omega arith
