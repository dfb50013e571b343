-- The desk log, from a book and a stream to a text: document 01, "The desk log program". Assumes nothing.
use Rattle.std.specs.Prelude.{ℕ, ◌+◌, cond, List, [], ◌∷◌, ◌++◌, eqb}
use Rattle.rules.specs.Sheet.{Outcome, room_needed, step_of, start_of}
use Rattle.logs.specs.Rule.Stream.{events}
use Rattle.logs.specs.Rule.Line.{start_line, lines}

-- what the kernel makes of event e, of table t and book b
abbrev pub step : List ℕ → List ℕ → List ℕ → Outcome
step t b e = step_of room_needed t b e

-- the lines of events, after n others
unfoldable pub log_from : ℕ → List ℕ → List ℕ → List (List ℕ) → List ℕ
log_from n t b [] = []
log_from n t b (e ∷ l) = lines (n + 1) (step t b e) ++ log_from (n + 1) (step t b e).table b l

-- the table that they leave
unfoldable pub table_after : List ℕ → List ℕ → List (List ℕ) → List ℕ
table_after t b [] = t
table_after t b (e ∷ l) = table_after (step t b e).table b l

-- the whole log, of a book and a stream; t is what the table's memory held before the start
unfoldable pub log_of : List ℕ → List ℕ → List ℕ → List ℕ
log_of t b s =
    cond (eqb (start_of t b).number 0) (log_from 0 (start_of t b).table b (events s)) (start_line (start_of t b).number)
