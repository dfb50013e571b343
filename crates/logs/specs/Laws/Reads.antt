-- Laws of a log by its events: of none, of one list after another, after a start that is done or refused. What a reader says is
-- proofs/Readers. Assumes nothing.
use Rattle.std.specs.Prelude.{ℕ, suc, ◌+◌, ◌≡◌, refl, ◌≢◌, List, [], ◌∷◌, ◌++◌, length}
use Rattle.std.proofs.Common.{sym, ap, ◌∙◌, append_assoc, add-zero, arith, eq-eqb, ne_eqb}
use Rattle.rules.specs.Sheet.{start_of}
use Rattle.logs.specs.Rule.Stream.{events}
use Rattle.logs.specs.Rule.Line.{start_line, lines}
use Rattle.logs.specs.Rule.Log.{step, log_from, table_after, log_of}

-- ---- the log of no events, and of one list after another

pub log_none : (n : ℕ) (t b : List ℕ) → log_from n t b [] ≡ []
unfolding log_from
log_none n t b = refl

pub table_none : (t b : List ℕ) → table_after t b [] ≡ t
unfolding table_after
table_none t b = refl

pub log_append : (n : ℕ) (t b : List ℕ) (l m : List (List ℕ))
    → log_from n t b (l ++ m) ≡ log_from n t b l ++ log_from (n + length l) (table_after t b l) b m
unfolding log_from table_after
log_append n t b [] m = ap (λ k. log_from k t b m) (sym (add-zero n))
log_append n t b (e ∷ l) m =
    let x = lines (n + 1) (step t b e) in
    let u = (step t b e).table in
    let k : n + 1 + length l ≡ n + suc (length l) = omega arith in
    ap (λ y. x ++ y) (log_append (n + 1) u b l m)
    ∙ sym (append_assoc x (log_from (n + 1) u b l) (log_from (n + 1 + length l) (table_after u b l) b m))
    ∙ ap (λ i. x ++ log_from (n + 1) u b l ++ log_from i (table_after u b l) b m) k

pub table_append : (t b : List ℕ) (l m : List (List ℕ)) → table_after t b (l ++ m) ≡ table_after (table_after t b l) b m
unfolding table_after
table_append t b [] m = refl
table_append t b (e ∷ l) m = table_append (step t b e).table b l m

-- ---- the log of a start that is done, and of one that is refused

pub log_started : (t b s : List ℕ) → (start_of t b).number ≡ 0 → log_of t b s ≡ log_from 0 (start_of t b).table b (events s)
unfolding log_of
log_started t b s h = rw (eq-eqb (start_of t b).number 0 h)

pub log_refused : (t b s : List ℕ) → (start_of t b).number ≢ 0 → log_of t b s ≡ start_line (start_of t b).number
unfolding log_of
log_refused t b s h = rw (ne_eqb (start_of t b).number 0 h)
