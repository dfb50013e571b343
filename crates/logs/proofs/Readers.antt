-- A reader's log: however the stream is cut into chunks and whenever the reader gives what is ready, it is the log of the stream;
-- and a reader in the order of the program is one of these. It stands here and not in specs/ so that an edit of what a reader is,
-- in must-fail/, is refused by the theorem that it breaks. Assumes nothing.
use Rattle.std.specs.Prelude.{ℕ, suc, ◌+◌, ◌≡◌, refl, Bool, true, false, List, [], ◌++◌}
use Rattle.std.proofs.Common.{sym, ap, ◌∙◌, append_assoc}
use Rattle.std.proofs.lemmas.Bool.{false≢true}
use Rattle.logs.specs.Log.{events, joined, log_from, table_after, Reads, comes, ends, gives, stops}
use Rattle.logs.specs.Log.{Serves, reads, closes, serves, quits}
use Rattle.logs.specs.Inner.{taken, left}
use Rattle.logs.specs.Laws.Stream.{joined_none, joined_more}
use Rattle.logs.specs.Laws.Taken.{length_taken, ready_first, ready_all}
use Rattle.logs.specs.Laws.Reads.{log_append}

pub reads_log : {b held : List ℕ} {ended : Bool} {n : ℕ} {t : List ℕ} {more : List (List ℕ)} {x : List ℕ}
    → Reads b held ended n t more x → (ended ≡ true → more ≡ []) → x ≡ log_from n t b (events (held ++ joined more))
reads_log {b} (comes {held = held} {n = n} {t = t} {more = more} chunk r) f =
    let more= = append_assoc held chunk (joined more) ∙ ap (λ z. held ++ z) (sym (joined_more chunk more)) in
    reads_log r (λ e. absurd (false≢true e)) ∙ ap (λ s. log_from n t b (events s)) more=
reads_log (ends r) f = reads_log r (λ e. refl)
reads_log {b} (gives {held = held} {ended = ended} {n = n} {t = t} {more = more} k m e r) f =
    let z = joined more in
    let l = taken m held in
    let later = events (left m held ++ z) in
    ap (λ y. log_from n t b l ++ y)
    (reads_log r f ∙ ap (λ i. log_from (n + i) (table_after t b l) b later) (sym (length_taken m held)))
    ∙ sym (log_append n t b l later) ∙ ap (log_from n t b) (sym (ready_first k ended held z m e))
reads_log {b} (stops {held = held} {ended = ended} {n = n} {t = t} {more = more} k m e) f =
    ap (log_from n t b) (sym (ready_all k ended held (joined more) m e (λ h. ap joined (f h) ∙ joined_none)))

-- from the start: nothing is held
pub stream_log : {b : List ℕ} {n : ℕ} {t : List ℕ} {cs : List (List ℕ)} {x : List ℕ} → Reads b [] false n t cs x
    → x ≡ log_from n t b (events (joined cs))
stream_log r = reads_log r (λ e. absurd (false≢true e))

-- a reader in the order of the program is one
pub serves_reads : {k : ℕ} {b held : List ℕ} {ended : Bool} {n : ℕ} {t : List ℕ} {more : List (List ℕ)} {x : List ℕ}
    → Serves k b held ended n t more x → Reads b held ended n t more x
serves_reads (reads chunk e r) = comes chunk (serves_reads r)
serves_reads (closes e r) = ends (serves_reads r)
serves_reads {k} (serves m e r) = gives k (suc m) e (serves_reads r)
serves_reads {k} (quits m e) = stops k m e
