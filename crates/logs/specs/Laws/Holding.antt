-- What a step's answer gives: its frames are in the room, and the lines written from them are the outcome's. Assumes nothing.
use Rattle.std.specs.Prelude.{ℕ, ◌≡◌, List, [], ◌∷◌, length}
use Rattle.std.proofs.Common.{ap, arith, length-take}
use Rattle.rules.specs.Sheet.{Frame, frames, AllNarrow, Outcome, bytes_in}
use Rattle.rules.proofs.Laws.Back.{narrow_front}
use Rattle.rules.proofs.Promises.Step.{ReadOut, frames_read}
use Rattle.logs.specs.Rule.Line.{lines}
use Rattle.logs.specs.Rule.Written.{Holds, Holding, lines_of}

-- frames that lie end to end are all there
frames_held : (l : List Frame) → AllNarrow l → Holds (length l) (frames l)
unfolding Holds
frames_held [] n = tt
frames_held (a ∷ l) n =
    let f = narrow_front a l n.0 in
    (f.present, rw f.past= (frames_held l n.1))

module _ {x : Outcome} {o o' : List ℕ} {r : ℕ} (w : ReadOut x o o' r) (n : AllNarrow x.actions) where
  pub answer_held : Holding r o'
  answer_held =
      record {
        inside = let m = w.bytes= in omega (arith, ap length w.front, length-take (bytes_in r) o');
        holds = rw (w.actions=, w.front) (frames_held x.actions n);
      }

  pub answer_lines_lem : (k : ℕ) → lines_of k r o' ≡ lines k x
  unfolding lines_of lines
  answer_lines_lem k = rw (w.number=, w.actions=, w.front, frames_read x.actions n)
