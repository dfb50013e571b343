-- Events of a buffered stream, given to the kernel one after another: what each leaves of table, room and cursor. The cursor is
-- the place of the next frame and the number of events before it. Assumes nothing.
use Rattle.std.specs.Prelude.{ℕ, ◌+◌, ◌≤◌, ◌<◌, ◌≡◌, List, length, take, drop}
use Rattle.rules.specs.Sheet.{over}
use Rattle.logs.specs.Rule.Stream.{first_bytes, joined}
use Rattle.logs.specs.Rule.Line.{lines}
use Rattle.logs.specs.Rule.Log.{step, log_from, table_after}
use Rattle.logs.specs.Rule.Reading.{taken}
use Rattle.logs.specs.declared.cursor.Cursor.{Cursor}

-- no event has more text
abbrev pub most_text : ℕ
most_text = 8629

-- ---- one event

unfoldable pub event_at : List ℕ → ℕ → List ℕ
event_at s p = take (first_bytes (drop p s)) (drop p s)

-- moved past the frame
unfoldable pub moved_past : List ℕ → Cursor → Cursor
moved_past s c = record { place = c.place + first_bytes (drop c.place s); number = c.number + 1 }

-- what is asked: the cursor lies in the stream, one more event can be counted, and the room takes its text
pub record Room (s o : List ℕ) (c : Cursor) (filled : ℕ) : Type 0 where
  pub inside : c.place ≤ length s
  pub counted : c.number < 18446744073709551615
  pub roomy : filled + most_text ≤ length o

-- the event at the cursor was given: of stream s, table t, book b and room o
pub record One (s t b o : List ℕ) (c : Cursor) (filled : ℕ) (t' o' : List ℕ) (c' : Cursor) (filled' : ℕ) : Type 0 where
  pub table : t' ≡ (step t b (event_at s c.place)).table
  pub text : o' ≡ over o filled (lines (c.number + 1) (step t b (event_at s c.place)))
  pub next : filled' ≡ filled + length (lines (c.number + 1) (step t b (event_at s c.place)))
  pub moved : c' ≡ moved_past s c

-- ---- k events, from the front of the stream and of the room, after n others

pub record Many (s t b o : List ℕ) (n k : ℕ) (t' o' : List ℕ) (c' : Cursor) (filled' : ℕ) : Type 0 where
  pub table : t' ≡ table_after t b (taken k s)
  pub text : o' ≡ over o 0 (log_from n t b (taken k s))
  pub next : filled' ≡ length (log_from n t b (taken k s))
  pub place : c'.place ≡ length (joined (taken k s))
  pub number : c'.number ≡ n + k
