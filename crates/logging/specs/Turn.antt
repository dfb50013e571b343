-- A turn of the reader: it gives the events that are ready in what is held of the stream to the kernel, and their text lies at
-- the front of the room; where none is ready it reads. Assumes nothing.
use Rattle.std.specs.Prelude.{ℕ, ◌+◌, ◌*◌, ◌≤◌, ◌<◌, Bool, true, false, ◌≡◌, List, length, take, drop}
use Rattle.logs.specs.Log.{joined, log_from, table_after}
use Rattle.logs.specs.Inner.{most_text, taken, ready, Many}
use Rattle.reader.specs.Held.{Sound, held, Filled}
use Rattle.reader.specs.declared.place.Place.{Place}
use Rattle.logging.specs.declared.give.Batch.{Batch}

-- a turn gives no more
abbrev pub most_events : ℕ
most_events = 60

-- no event has more bytes
abbrev pub most_bytes : ℕ
most_bytes = 4106

-- ---- what is asked

-- the buffer holds any event, the room takes a turn's text, and a turn's events can be counted
pub record Ample (p : Place) (buf o : List ℕ) : Type 0 where
  pub holds : most_bytes ≤ length buf
  pub roomy : most_text * most_events ≤ length o
  pub counted : p.number + most_events < 18446744073709551616

-- memory for every turn
pub record LogBuffers (buf o : List ℕ) : Type 0 where
  pub holds : most_bytes ≤ length buf
  pub roomy : most_text * most_events ≤ length o

-- ---- what is left

-- the events of s that are ready were given
pub record Gave (s t b o : List ℕ) (n : ℕ) (ended : Bool) (t' o' : List ℕ) (r : Batch) : Type 0 where
  pub ready= : r.ready ≡ ready most_events ended s
  pub many : Many s t b o n r.ready.count t' o' r.served.cursor r.served.filled

-- past the events that were given
abbrev pub past : Place → Batch → Place
past p g =
    record {
      place = p.place + g.served.cursor.place;
      have = p.have;
      number = g.served.cursor.number;
      filled = g.served.filled;
      ended = p.ended;
      done = g.ready.last;
    }

-- m events were given, all that were ready: one at least, or it is known that no more will come
pub record Went (buf t b o : List ℕ) (p : Place) (m : ℕ) (buf' t' o' : List ℕ) (p' : Place) : Type 0 where
  pub sound : Sound p' (length buf)
  pub few : m ≤ most_events
  pub some : m ≡ 0 → p'.done ≡ true
  pub was : ready most_events p.ended (held buf p) ≡ record { count = m; last = p'.done }
  pub rest : held buf' p' ≡ drop (length (joined (taken m (held buf p)))) (held buf p)
  pub table : t' ≡ table_after t b (taken m (held buf p))
  pub text : take p'.filled o' ≡ log_from p.number t b (taken m (held buf p))
  pub beyond : drop p'.filled o' ≡ drop p'.filled o
  pub fits : p'.filled ≤ length o
  pub number= : p'.number ≡ p.number + m
  pub ended= : p'.ended ≡ p.ended

pub data Turn (buf t b o : List ℕ) (p : Place) (buf' t' o' : List ℕ) (p' : Place) : Type 0 where
  gave : (m : ℕ) → Went buf t b o p m buf' t' o' p' → Turn buf t b o p buf' t' o' p'
  read : ready most_events p.ended (held buf p) ≡ record { count = 0; last = false } → length (held buf p) < most_bytes
      → t' ≡ t → o' ≡ o → Filled buf p buf' p' → Turn buf t b o p buf' t' o' p'
