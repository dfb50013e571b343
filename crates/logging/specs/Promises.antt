-- What is promised of the program: its text is the log. Assumes nothing.
use Rattle.std.specs.Prelude.{ℕ, true, false, ◌≢◌, ◌≡◌, List, [], ◌++◌, take}
use Rattle.std.proofs.Common.{true≢false, sym, ap, ◌∙◌}
use Rattle.rules.specs.Sheet.{start_of}
use Rattle.logs.specs.Log.{events, joined, log_from, table_after, log_of, Reads}
use Rattle.logs.specs.Inner.{ready}
use Rattle.logs.proofs.Promises.{whole_log}
use Rattle.logs.specs.Laws.Stream.{joined_none}
use Rattle.logs.specs.Laws.Reads.{log_started}
use Rattle.logs.specs.Laws.Chunk.{joined_append}
use Rattle.logs.specs.declared.frame.Ready.{Ready}
use Rattle.reader.specs.Held.{held, Filled}
use Rattle.reader.specs.declared.place.Place.{Place}
use Rattle.logging.specs.Turn.{most_events, LogBuffers, Turn, gave, read}
use Rattle.logging.specs.Turns.{LogTurns, LogRun}
use Rattle.logging.specs.Begin.{Begun}
use Rattle.logging.specs.Laws.Begin.{begun_log}
use Rattle.logging.specs.Laws.Given as laws
use Rattle.logging.specs.Laws.Given.{given_log, given_all}
use Rattle.logging.specs.Streams.{later, LogGiven}
use Rattle.logging.specs.Laws.Reading as reading
use Rattle.logging.specs.Laws.Runs.{goes_all, runs_sized}
use Rattle.logging.specs.Streams.{SomeEach, SizedEach, LogGoes, LogRuns}

-- ---- a turn

-- Where nothing is ready a turn reads: none is idle.
pub turn_reads : {buf t b o : List ℕ} {p : Place} {buf' t' o' : List ℕ} {p' : Place} → Turn buf t b o p buf' t' o' p'
    → ready most_events p.ended (held buf p) ≡ record { count = 0; last = false } → Filled buf p buf' p'
turn_reads (gave m w) e =
    let none = ap (λ (r : Ready). r.count) (sym w.was ∙ e) in
    let on = ap (λ (r : Ready). r.last) (sym w.was ∙ e) in
    absurd (true≢false (sym (w.some none) ∙ on))
turn_reads (read none short same-table same-room f) e = f

-- ---- turns

-- Whether or not they came to the end, what turns said are the lines of the first events of what they read, and the table is
-- what these events leave; those that follow are the events of what is held and of what is still to come.
pub turns_give : {b buf t o : List ℕ} {cs : List (List ℕ)} {x buf' t' o' : List ℕ} {p' : Place}
    → LogTurns b buf t o cs x buf' t' o' p' → LogGiven b t cs x buf' t' p'
turns_give r = laws.turns_give r

-- So after a start that is done they are the front of the log, whatever z is still to come, and the lines of the events that
-- follow are the rest of it.
pub turns_log : (t : List ℕ) {b buf o : List ℕ} {cs : List (List ℕ)} {x buf' t' o' : List ℕ} {p' : Place}
    → (start_of t b).number ≡ 0 → LogTurns b buf (start_of t b).table o cs x buf' t' o' p' → (z : List ℕ)
    → (p'.ended ≡ true → z ≡ []) → log_of t b (joined cs ++ z) ≡ x ++ log_from p'.number t' b (later buf' p' z)
turns_log t {b} {cs = cs} h r z off = log_started t b (joined cs ++ z) h ∙ given_log (turns_give r) z off

-- A run reads its stream as a reader does, whatever chunks its reads brought.
pub turns_read : {b buf t o : List ℕ} {cs : List (List ℕ)} {x t' : List ℕ} → LogRun b buf t o cs x t' → Reads b [] false 0 t cs x
turns_read r = reading.turns_read r

-- ---- the program

-- After a start that is done, a run's text is the log of the book and of the stream, in whatever chunks it comes,
pub program_log : (t : List ℕ) {b buf o : List ℕ} {cs : List (List ℕ)} {x t' : List ℕ} → (start_of t b).number ≡ 0
    → LogRun b buf (start_of t b).table o cs x t' → x ≡ log_of t b (joined cs)
program_log t h r = whole_log t h (turns_read r)

-- and the table is what the events of the stream leave.
pub program_table : {t b buf o : List ℕ} {cs : List (List ℕ)} {x t' : List ℕ} → LogRun b buf t o cs x t'
    → t' ≡ table_after t b (events (joined cs))
program_table {t} {b} r =
    let g = turns_give r.turns in
    let all = given_all g r.done (joined r.unread) (λ e. ap joined (r.seen e) ∙ joined_none) in
    let s = ap joined r.all ∙ joined_append r.chunks r.unread in
    g.table ∙ ap (table_after t b) (sym all ∙ ap events (sym s))

-- After one that is refused, what stands at the front of the room is the log of the book and of any stream.
pub refused_start : {t b o t' o' : List ℕ} {n : ℕ} → Begun t b o t' o' n → (start_of t b).number ≢ 0 → (s : List ℕ)
    → take n o' ≡ log_of t b s
refused_start w h s = begun_log w h s

-- ---- to the end

-- Every stream, however it is cut, has a run: to its end, or up to a chunk that no read can bring, since the buffer has no room
-- for it beside what is held;
pub runs_go : {b buf t o : List ℕ} → LogBuffers buf o → (cs : List (List ℕ)) → SomeEach cs → LogGoes b buf t o cs
runs_go ample cs some = goes_all ample cs some

-- and one to its end where no chunk has more bytes than the buffer has beside the 4,105 of an event that may be held in part.
pub runs_exist : {b buf t o : List ℕ} → LogBuffers buf o → (cs : List (List ℕ)) → SizedEach buf cs → LogRuns b buf t o cs
runs_exist ample cs sized = runs_sized ample cs sized
