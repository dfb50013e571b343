-- What a read can bring: any bytes that the buffer has room for beside what is held, or none. Assumes nothing.
use Rattle.std.specs.Prelude.{ℕ, ◌+◌, ◌-◌, ◌≤◌, false, ◌≡◌, refl, List, [], ◌++◌, length, take, drop, eqb}
use Rattle.std.proofs.Common.{sym, ap, ◌∙◌, append_assoc, arith, length-append, length-drop, drop_of_length-le, take_at}
use Rattle.std.proofs.Math.Seq.{drop-append_seam}
use Rattle.reader.specs.Held.{Sound, held, came, Comes}
use Rattle.reader.specs.Laws.Fill.{length_held, filled_is}
use Rattle.reader.specs.declared.place.Place.{Place}

-- where nothing more is held than was, nothing came
pub no_more : (buf : List ℕ) (p : Place) (buf' : List ℕ) (p' : Place) → length (held buf' p') ≤ length (held buf p)
    → came buf p buf' p' ≡ []
unfolding came
no_more buf p buf' p' h = drop_of_length-le (held buf' p') h

pub may_come : (buf : List ℕ) (p : Place) (c : List ℕ) → Sound p (length buf) → length (held buf p) + length c ≤ length buf
    → Comes buf p c
unfolding held came
may_come buf p c s room =
    let h = held buf p in
    let n = p.have - p.place in
    let long = length_held buf p s in
    let rest = drop (length h + length c) buf in
    let new = h ++ (c ++ rest) in
    let front : take n new ≡ h = take_at h (c ++ rest) n long in
    let same : length new ≡ length buf = simp (length-append, length-drop) (omega arith) in
    let all : take (n + length c - 0) new ≡ h ++ c =
    ap (take (n + length c - 0)) (sym (append_assoc h c rest))
    ∙ take_at (h ++ c) rest (n + length c - 0) (omega (arith, length-append h c)) in
    record {
      buf' = new;
      p' =
          record { place = 0; have = n + length c; number = p.number; filled = 0; ended = eqb (length c) 0; done = false };
      filled = filled_is buf new new p (length c) s front same (omega arith) refl refl;
      bytes = ap (drop (length h)) all ∙ drop-append_seam h c;
      seen = refl;
      as_long = same;
    }
