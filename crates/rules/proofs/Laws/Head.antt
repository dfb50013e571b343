-- A frame that is written can be read, whatever follows it: party, id, tag, size and payload are the frame's, and what follows
-- stands past them. Assumes nothing.
use Rattle.std.specs.Prelude.{ℕ, ◌+◌, ◌*◌, ◌≤◌, ◌<◌, ◌≡◌, List, ◌∷◌, ◌++◌, get_or, take, drop}
use Rattle.std.proofs.Math.Path.{sym}
use Rattle.std.proofs.Common.{◌∙◌, arith, drop-drop}
use Rattle.std.proofs.Math.ListN.{length, length-append}
use Rattle.std.proofs.Math.Seq.{take-append_seam, drop-append_seam}
use Rattle.terms.specs.Names.{num}
use Rattle.terms.specs.Laws.Num.{num_zero, num_suc}
use Rattle.rules.specs.Rule.Frame.{be, Frame, head, bytes, frames}
use Rattle.rules.proofs.Laws.Frame.{length_bytes}

-- e begins with frame a, and z follows
pub record Front (a : Frame) (z e : List ℕ) : Type 0 where
  pub party= : get_or e 0 0 ≡ a.party
  pub id= : num e 1 4 ≡ a.id
  pub tag= : get_or e 5 0 ≡ a.tag
  pub size= : num e 6 4 ≡ length a.payload
  pub present : 10 + num e 6 4 ≤ length e
  pub payload= : take (num e 6 4) (drop 10 e) ≡ a.payload
  pub past= : drop (10 + num e 6 4) e ≡ z

-- a number of four bytes, byte by byte
pub four : (e : List ℕ) (at : ℕ)
    → num e at 4 ≡ ((get_or e (at + 0) 0 * 256 + get_or e (at + 1) 0) * 256 + get_or e (at + 2) 0) * 256 + get_or e (at + 3) 0
four e at = omega (arith, num_suc e at 3, num_suc e at 2, num_suc e at 1, num_suc e at 0, num_zero e at)

module _ (a : Frame) (hp : a.party < 256) (hi : a.id < 4294967296) (ht : a.tag < 256)
    (hx : length a.payload < 4294967296) where
  pub frame_front : (z : List ℕ) → Front a z (bytes a ++ z)
  unfolding bytes head be
  frame_front z =
      let x = a.payload in
      let e = bytes a ++ z in
      let n : num e 6 4 ≡ length x = omega (arith, four e 6) in
      record {
        party= = omega arith;
        id= = omega (arith, four e 1);
        tag= = omega arith;
        size= = n;
        present = omega (arith, length-append (bytes a) z, length_bytes a);
        payload= = rw n (take-append_seam x z);
        past= = sym (drop-drop (num e 6 4) 10 e) ∙ rw n (drop-append_seam x z);
      }

  -- frames end to end
  pub frames_front : (l : List Frame) → Front a (frames l) (frames (a ∷ l))
  unfolding frames
  frames_front l = frame_front (frames l)
