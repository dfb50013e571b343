-- What is promised of streams and of their readers, each promise with a sentence above it; the proofs are a line into Laws.
-- Assumes nothing.
use Rattle.std.specs.Prelude.{ℕ, ◌+◌, ◌<◌, ◌≡◌, Bool, true, false, ◌≢◌, List, [], ◌++◌, length, get_or}
use Rattle.std.proofs.Common.{sym, ap, ◌∙◌, arith}
use Rattle.terms.specs.Base.{Range}
use Rattle.fields.specs.Table.{table_bytes}
use Rattle.rules.specs.Sheet.{start_of}
use Rattle.logs.specs.Log.{events, joined, start_line, log_from, log_of, Reads}
use Rattle.logs.specs.Laws.Stream.{events_nil}
use Rattle.logs.specs.Laws.Parted as parts
use Rattle.logs.specs.Log.{Alone, Parted, Laid}
use Rattle.logs.specs.Laws.Laid.{parted_laid, parted_frames, parted_sized, frames_before, frames_all}
use Rattle.logs.proofs.Readers as readers
use Rattle.logs.proofs.Readers.{stream_log}
use Rattle.logs.specs.Laws.Reads.{log_started, log_refused}
use Rattle.logs.specs.Laws.Books.{unsound_log, no_book}
use Rattle.logs.specs.Laws.Serves as servers
use Rattle.logs.specs.Log.{Serves, ServesSome}

-- ---- the events of a stream

-- A stream is parted into its events as the document says: frames end to end, and one last event that is a head too large or is
-- cut short;
pub parted : (s : List ℕ) → Parted s (events s)
parted s = parts.parted s

-- and it can be parted in no other way.
pub parted_once : {s : List ℕ} {l : List (List ℕ)} → Parted s l → l ≡ events s
parted_once p = parts.parted_once p

-- The events read off a stream, laid end to end again, are the stream up to the end of its last event; bytes are left over only
-- behind a head whose size exceeds 4,096, and this head of ten bytes is then the last event.
pub laid : (s : List ℕ) → Laid s (events s)
laid s = parted_laid (parts.parted s)

-- Every event but the last is a frame, with all of its payload and no byte more.
pub frame_each : (s : List ℕ) (i : ℕ) → i + 1 < length (events s) → Alone (get_or (events s) i [])
frame_each s i h = parted_frames (parts.parted s) i h

-- Every event has one byte at least and 4,106 at most.
pub event_sized : (s : List ℕ) (i : ℕ) → i < length (events s) → Range 1 4106 (length (get_or (events s) i []))
event_sized s i h = parted_sized (parts.parted s) i h

-- An empty stream has no event.
pub nothing_read : events [] ≡ []
nothing_read = events_nil

-- Frames that are laid end to end are read as just those,
pub frames_read : (l : List (List ℕ)) → ((i : ℕ) → i < length l → Alone (get_or l i [])) → events (joined l) ≡ l
frames_read l h = frames_all l h

-- and what comes behind them as it would be without them.
pub frames_first : (l : List (List ℕ)) → ((i : ℕ) → i < length l → Alone (get_or l i [])) → (z : List ℕ)
    → events (joined l ++ z) ≡ l ++ events z
frames_first l h z = frames_before l h z

-- ---- the log of a stream that comes in chunks

-- What a reader has yet to say are the lines of the events of what it holds and of what is still to come.
pub reads_log : {b held : List ℕ} {ended : Bool} {n : ℕ} {t : List ℕ} {more : List (List ℕ)} {x : List ℕ}
    → Reads b held ended n t more x → (ended ≡ true → more ≡ []) → x ≡ log_from n t b (events (held ++ joined more))
reads_log r h = readers.reads_log r h

-- The log does not depend on how the stream was cut into chunks, nor on when the reader gave what was ready.
pub same_log : {b : List ℕ} {n : ℕ} {t : List ℕ} {cs ds : List (List ℕ)} {x y : List ℕ} → joined cs ≡ joined ds
    → Reads b [] false n t cs x → Reads b [] false n t ds y → x ≡ y
same_log {b} {n} {t} e r q = stream_log r ∙ ap (λ s. log_from n t b (events s)) e ∙ sym (stream_log q)

-- After a start that is done, it is the log of the book and the stream.
pub whole_log : (t : List ℕ) {b : List ℕ} {cs : List (List ℕ)} {x : List ℕ} → (start_of t b).number ≡ 0
    → Reads b [] false 0 (start_of t b).table cs x → x ≡ log_of t b (joined cs)
whole_log t {b} {cs} h r = stream_log r ∙ sym (log_started t b (joined cs) h)

-- After one that is refused, the log is one line.
pub refused_log : (t b s : List ℕ) → (start_of t b).number ≢ 0 → log_of t b s ≡ start_line (start_of t b).number
refused_log t b s h = log_refused t b s h

-- ---- the book

-- A book of more than 32,768 bytes is refused as unsound, whatever they are; so what the program holds of one, 32,769 bytes, is
-- refused as all of it would be.
pub long_book : (t b s : List ℕ) → length t ≡ table_bytes → 32768 < length b → log_of t b s ≡ start_line 6
long_book t b s l h = unsound_log t b s l (no_book b (λ k. omega arith))

-- So is an empty one, as which a missing book is read.
pub empty_book : (t s : List ℕ) → length t ≡ table_bytes → log_of t [] s ≡ start_line 6
empty_book t s l = unsound_log t [] s l (no_book [] (λ k. omega arith))

-- ---- to the end

pub record Done (b held : List ℕ) (n : ℕ) (t : List ℕ) (cs : List (List ℕ)) : Type 0 where
  pub text : List ℕ
  pub reads : Reads b held false n t cs text

-- Every stream, however it is cut, is read to its end.
pub reads_exist : (b held : List ℕ) (n : ℕ) (t : List ℕ) (cs : List (List ℕ)) → Done b held n t cs
reads_exist b held n t cs =
    let d = servers.serves_exist 1 b held n t cs (omega arith) in
    record { text = d.text; reads = readers.serves_reads d.way }

-- So it is by a reader that gives the kernel what is ready, k events at most at once, and reads on only where nothing is ready;
pub serves_exist : (k : ℕ) (b held : List ℕ) (n : ℕ) (t : List ℕ) (cs : List (List ℕ)) → 0 < k → ServesSome k b held false n t cs
serves_exist k b held n t cs h = servers.serves_exist k b held n t cs h

-- and such a reader is one of those above.
pub serves_reads : {k : ℕ} {b held : List ℕ} {ended : Bool} {n : ℕ} {t : List ℕ} {more : List (List ℕ)} {x : List ℕ}
    → Serves k b held ended n t more x → Reads b held ended n t more x
serves_reads r = readers.serves_reads r
