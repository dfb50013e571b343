-- A book of a length that no sound book has is refused, and the log is one line. Assumes nothing.
use Rattle.std.specs.Prelude.{ℕ, ◌≤◌, ◌<◌, ◌≡◌, true, ◌⊎◌, List, length}
use Rattle.std.proofs.Common.{ap, ◌∙◌, inl, inr, arith}
use Rattle.terms.specs.Names.{sound_book}
use Rattle.terms.specs.Laws.Book.{sound_parts}
use Rattle.fields.specs.Table.{table_bytes}
use Rattle.rules.specs.Sheet.{start_of}
use Rattle.rules.proofs.Laws.Start.{start_starts}
use Rattle.logs.specs.Rule.Line.{start_line}
use Rattle.logs.specs.Rule.Log.{log_of}
use Rattle.logs.specs.Laws.Reads.{log_refused}

-- of the numbers of a start, 6 is left
six : (n : ℕ) → (n ≡ 0) ⊎ ((n ≡ 2) ⊎ (n ≡ 6)) → (n ≡ 0 → ⊥) → (n ≡ 2 → ⊥) → n ≡ 6
six n (inl e) h k = absurd (h e)
six n (inr (inl e)) h k = absurd (k e)
six n (inr (inr e)) h k = e

pub unsound_log : (t b s : List ℕ) → length t ≡ table_bytes → (sound_book b ≡ true → ⊥) → log_of t b s ≡ start_line 6
unsound_log t b s l u =
    let w = start_starts t b in
    let n = six (start_of t b).number w.number= (λ z. u (w.book z)) (w.long l) in
    log_refused t b s (λ z. omega arith) ∙ ap start_line n

-- neither longer than 32,768 bytes nor shorter than 8
pub no_book : (b : List ℕ) → (length b ≤ 32768 → length b < 8) → sound_book b ≡ true → ⊥
no_book b h e =
    let r = (sound_parts b e).size in
    let low = r.low in
    let short = h r.high in
    omega arith
