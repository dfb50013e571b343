-- The events of a stream laid end to end again, how long each is, and frames that are read as they were laid. Assumes nothing.
use Rattle.std.specs.Prelude.{ℕ, zero, suc, ◌+◌, ◌<◌, ◌≡◌, refl, List, [], ◌∷◌, ◌++◌, length, get_or}
use Rattle.std.proofs.Common.{sym, ap, ◌∙◌, append_assoc, append-nil, arith}
use Rattle.terms.specs.Base.{last_of, Range}
use Rattle.logs.specs.Rule.Stream.{events, joined}
use Rattle.logs.specs.Laws.First.{whole_has, rest_small}
use Rattle.logs.specs.Laws.Stream.{events_nil}
use Rattle.logs.specs.Laws.Parted.{events_frame}
use Rattle.logs.specs.Rule.Parted.{Alone, Oversize, Short, Parted, done, frame, large, short}
use Rattle.logs.specs.Rule.Parted.{Laid}

last_large : (e : List ℕ) (l : List (List ℕ)) → Oversize (last_of l) → Oversize (last_of (e ∷ l))
unfolding last_of
last_large e [] a = let n = a.end in absurd (omega arith)
last_large e (m ∷ l) a = a

pub parted_laid : {s : List ℕ} {l : List (List ℕ)} → Parted s l → Laid s l
unfolding joined last_of
parted_laid done = record { rest = []; same = refl; over = λ h. absurd (h refl) }
parted_laid (frame {e = e} {l = l} a p) =
    let q = parted_laid p in
    record {
      rest = q.rest;
      same = append_assoc e (joined l) q.rest ∙ ap (λ x. e ++ x) q.same;
      over = λ h. last_large e l (q.over h);
    }
parted_laid (large {e = e} s a) = record { rest = s; same = ap (λ x. x ++ s) (append-nil e); over = λ h. a }
parted_laid (short {e = e} a) =
    record { rest = []; same = append-nil (e ++ []) ∙ append-nil e; over = λ h. absurd (h refl) }

-- every event but the last is a frame
pub parted_frames : {s : List ℕ} {l : List (List ℕ)} → Parted s l → (i : ℕ) → i + 1 < length l → Alone (get_or l i [])
parted_frames done i h = absurd (omega arith)
parted_frames (frame a p) zero h = a
parted_frames (frame a p) (suc i) h = parted_frames p i (omega arith)
parted_frames (large s a) i h = absurd (omega arith)
parted_frames (short a) i h = absurd (omega arith)

frame_sized : (e : List ℕ) → Alone e → Range 1 4106 (length e)
frame_sized e a = let w = whole_has e a.all in let l = a.end in omega arith

large_sized : (e : List ℕ) → Oversize e → Range 1 4106 (length e)
large_sized e a = let l = a.end in omega arith

short_sized : (e : List ℕ) → Short e → Range 1 4106 (length e)
short_sized [] a = absurd (a.some refl)
short_sized (x ∷ r) a = let l = rest_small (x ∷ r) a.part a.under in omega arith

-- every event has a byte, and at most 4,106
pub parted_sized : {s : List ℕ} {l : List (List ℕ)} → Parted s l → (i : ℕ) → i < length l → Range 1 4106 (length (get_or l i []))
parted_sized done i h = absurd (omega arith)
parted_sized (frame {e = e} a p) zero h = frame_sized e a
parted_sized (frame a p) (suc i) h = parted_sized p i (omega arith)
parted_sized (large {e = e} s a) zero h = large_sized e a
parted_sized (large s a) (suc i) h = absurd (omega arith)
parted_sized (short {e = e} a) zero h = short_sized e a
parted_sized (short a) (suc i) h = absurd (omega arith)

-- frames end to end, before any bytes, are read as they are
pub frames_before : (l : List (List ℕ)) → ((i : ℕ) → i < length l → Alone (get_or l i [])) → (z : List ℕ)
    → events (joined l ++ z) ≡ l ++ events z
unfolding joined
frames_before [] h z = refl
frames_before (e ∷ l) h z =
    ap events (append_assoc e (joined l) z) ∙ events_frame e (joined l ++ z) (h 0 (omega arith))
    ∙ ap (λ x. e ∷ x) (frames_before l (λ i k. h (suc i) (omega arith)) z)

-- and alone
pub frames_all : (l : List (List ℕ)) → ((i : ℕ) → i < length l → Alone (get_or l i [])) → events (joined l) ≡ l
frames_all l h =
    ap events (sym (append-nil (joined l))) ∙ frames_before l h [] ∙ ap (λ x. l ++ x) events_nil ∙ append-nil l
