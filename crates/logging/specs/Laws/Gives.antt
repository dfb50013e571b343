-- A turn can give the m events that are ready. Assumes nothing.
use Rattle.std.specs.Prelude.{ℕ, ◌+◌, ◌*◌, ◌≤◌, Bool, true, ◌≡◌, refl, List, length}
use Rattle.std.proofs.Common.{sym, arith}
use Rattle.rules.specs.Sheet.{over}
use Rattle.rules.proofs.Laws.Over.{length_over}
use Rattle.logs.specs.Log.{joined, log_from, table_after}
use Rattle.logs.specs.Inner.{most_text, taken, ready, left}
use Rattle.reader.specs.Held.{Sound, held}
use Rattle.reader.specs.declared.place.Place.{Place}
use Rattle.logging.specs.Turn.{most_events, Gave, past, Turn}
use Rattle.logging.specs.Laws.Turn.{rest_is, turn_gave}
use Rattle.logging.specs.Laws.Run.{turn_after}
use Rattle.logging.specs.declared.give.Batch.{Batch}

-- a turn that gives them
pub record Gives (buf t b o : List ℕ) (p : Place) (m : ℕ) (last : Bool) : Type 0 where
  pub t' : List ℕ
  pub o' : List ℕ
  pub p' : Place
  pub turn : Turn buf t b o p buf t' o' p'
  pub rest : held buf p' ≡ left m (held buf p)
  pub ended= : p'.ended ≡ p.ended
  pub done= : p'.done ≡ last
  pub as_roomy : length o' ≡ length o

pub may_give : (buf t b o : List ℕ) (p : Place) {last : Bool} (m : ℕ) → Sound p (length buf) → most_text * most_events ≤ length o
    → ready most_events p.ended (held buf p) ≡ record { count = m; last = last } → (m ≡ 0 → last ≡ true)
    → Gives buf t b o p m last
unfolding held
may_give buf t b o p {last} m s roomy e some =
    let h = held buf p in
    let x = log_from p.number t b (taken m h) in
    let g : Batch =
    record {
      ready = record { count = m; last = last };
      served = record {
        cursor = record { place = length (joined (taken m h)); number = p.number + m };
        filled = length x;
      };
    } in
    let w : Gave h t b o p.number p.ended (table_after t b (taken m h)) (over o 0 x) g =
    record { ready= = sym e; many = record { table = refl; text = refl; next = refl; place = refl; number = refl } } in
    let turn = turn_gave buf p refl w s roomy some refl in
    record {
      t' = table_after t b (taken m h);
      o' = over o 0 x;
      p' = past p g;
      turn = turn;
      rest = rest_is buf p refl w s;
      ended= = refl;
      done= = refl;
      as_roomy = length_over o 0 x (omega (arith, (turn_after turn).fits));
    }
