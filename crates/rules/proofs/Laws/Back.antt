-- Frames that lie end to end are read back. Assumes nothing.
use Rattle.std.specs.Prelude.{ℕ, suc, ◌+◌, ◌≡◌, refl, List, [], ◌∷◌, length, get_or, take, drop}
use Rattle.std.proofs.Common.{ap₂}
use Rattle.terms.specs.Names.{num}
use Rattle.rules.specs.Rule.Frame.{Frame, framed, frames, frame_at, frames_of, Narrow, AllNarrow}
use Rattle.rules.proofs.Laws.Head.{Front, frames_front}

-- ---- how they are read

pub frame_at_lem : (s : List ℕ) → frame_at s ≡ framed (get_or s 0 0) (num s 1 4) (get_or s 5 0) (take (num s 6 4) (drop 10 s))
unfolding frame_at
frame_at_lem s = refl

pub frames_none : (s : List ℕ) → frames_of 0 s ≡ []
unfolding frames_of
frames_none s = refl

pub frames_more : (k : ℕ) (s : List ℕ) → frames_of (suc k) s ≡ frame_at s ∷ frames_of k (drop (10 + num s 6 4) s)
unfolding frames_of
frames_more k s = refl

-- ---- what is read

pub narrow_front : (a : Frame) (l : List Frame) → Narrow a → Front a (frames l) (frames (a ∷ l))
narrow_front a l n = frames_front a n.party n.id n.tag n.size l

frame_read : {a : Frame} {z e : List ℕ} → Front a z e → frame_at e ≡ a
frame_read {e = e} f = rw (frame_at_lem e, f.party=, f.id=, f.tag=, f.payload=)

-- as many frames as counted are just these
pub frames_read : (l : List Frame) → AllNarrow l → frames_of (length l) (frames l) ≡ l
unfolding frames_of
frames_read [] n = refl
frames_read (a ∷ l) n =
    let f = narrow_front a l n.0 in
    ap₂ (λ (b : Frame) (m : List Frame). b ∷ m) (frame_read f) (rw f.past= (frames_read l n.1))
