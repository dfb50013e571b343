-- What each outcome of a step does to the numbers of processes: an open that finds none starts the next number, a close of a
-- process's last tab stops its number, and nothing else starts or stops any. Assumes nothing.
use Rattle.std.specs.Prelude.{ℕ, ◌+◌, ◌<◌, ◌≡◌, refl, true, List, drop}
use Rattle.std.proofs.Common.{arith}
use Rattle.fields.specs.Base.{one}
use Rattle.fields.specs.Table.{selected, last, view, sound_table, opened, picked, closed, marked}
use Rattle.fields.specs.declared.mark.Mark.TheVariants.{Cookie, Document}
use Rattle.rules.specs.Rule.Call.{is_frame, among}
use Rattle.rules.specs.Rule.Ids.{process_live}
use Rattle.rules.specs.Sheet.{Frame, Outcome}
use Rattle.rules.proofs.Laws.Happens.{Happens, nothing, joins, renews, selects, leaves, ends, types, points}
use Rattle.rules.specs.Rule.Desk.{process_at}
use Rattle.rules.proofs.Laws.Happens.{paints, sockets, fetches, stores, gets, denies, results, documents, refused_is}
use Rattle.rules.proofs.Laws.Happens.{at_live}
use Rattle.rules.proofs.Time.Rows.{SameRow, joined_last, joined_rows, renewed_rows, closed_heads, left_rows, RowsStay}
use Rattle.rules.proofs.Time.Rows.{picked_rows, marked_rows, unmarked_rows}
use Rattle.rules.proofs.Time.Moves.{Moves, rests, comes, goes, idle}
use Rattle.rules.proofs.Time.Running.{rows_same, renewed_turns, ended_turns}

-- above the last number given
abbrev pub ProcessAhead : List ℕ → ℕ → Type 0
ProcessAhead t n = view t last < n

abbrev pub ProcessMoves : List ℕ → List ℕ → List Frame → Type 0
ProcessMoves = Moves process_live ProcessAhead 3 4

later : (t u : List ℕ) → view u last ≡ view t last → (n : ℕ) → ProcessAhead u n → ProcessAhead t n
later t u e n h = omega arith

-- ---- outcome by outcome

module _ (t : List ℕ) (l : List Frame) (n : (i : ℕ) → among 5 i 3 l ≡ 0) (m : (i : ℕ) → among 5 i 4 l ≡ 0) where
  -- the table stays
  stays : ProcessMoves t t l
  stays = rests n m (λ i. refl) (λ i h. h)

  -- every row stays, and the last number
  same : (u : List ℕ) → ((p : ℕ) → SameRow t u p) → view u last ≡ view t last → ProcessMoves t u l
  same u w e = rests n m (rows_same t u w) (later t u e)

  quiet : (u : List ℕ) → RowsStay t u → ProcessMoves t u l
  quiet u w = same u w.rows w.heads.last=

pub process_moves : {t b e : List ℕ} {x : Outcome} → sound_table t ≡ true → Happens t b e x
    → ProcessMoves t x.table x.actions
unfolding among is_frame one
process_moves {t = t} z (nothing n h) = rw (refused_is n t) (idle process_live ProcessAhead 3 4 t)
process_moves {t = t} {e = e} {x = x} z (joins s o h) =
    let w = o.takes in
    let y = drop 10 e in
    same t x.actions (λ i. refl) (λ i. refl) (opened t s y) (joined_rows t s y w h) (joined_last t s y w h)
process_moves {t = t} {e = e} z (renews s o h) =
    let w = o.takes in
    let y = drop 10 e in
    let a = (renewed_rows t s y w h).last! in
    comes (view t last + 1) (λ i. omega arith) (λ i. refl) (renewed_turns t s y w h) (omega arith) (λ q. omega arith)
    (λ i q. omega arith)
process_moves {t = t} {x = x} z (selects s k i f h w) =
    quiet t x.actions (λ i. refl) (λ i. refl) (picked t s k) (picked_rows t s k (at_live z w))
process_moves {t = t} {x = x} z (leaves s i f h w y g) =
    same t x.actions (λ i. refl) (λ i. refl) (closed t s) (left_rows t s w g) (closed_heads t s w).last=
process_moves {t = t} z (ends s i f h w y g) =
    goes (process_at t s (view t (selected s))) (λ i. refl) (λ i. omega arith) (ended_turns t s w g)
    (later t (closed t s) (closed_heads t s w).last=)
process_moves {t = t} {x = x} z (types s i f _ _ w) = stays t x.actions (λ i. refl) (λ i. refl)
process_moves {t = t} {x = x} z (points s i f _ w) = stays t x.actions (λ i. refl) (λ i. refl)
process_moves {t = t} {x = x} z (paints i s k f _ w h) = stays t x.actions (λ i. refl) (λ i. refl)
process_moves {t = t} {x = x} z (sockets i s k f _ w h) = stays t x.actions (λ i. refl) (λ i. refl)
process_moves {t = t} {x = x} z (fetches i s k f w h g) =
    quiet t x.actions (λ i. refl) (λ i. refl) (marked t s k Document) (marked_rows t s k Document (at_live z w) g)
process_moves {t = t} {x = x} z (stores i s k f _ w h) = stays t x.actions (λ i. refl) (λ i. refl)
process_moves {t = t} {x = x} z (gets i s k f w h g) =
    quiet t x.actions (λ i. refl) (λ i. refl) (marked t s k Cookie) (marked_rows t s k Cookie (at_live z w) g)
process_moves {t = t} {x = x} z (denies tag i s k f w _) = stays t x.actions (λ i. refl) (λ i. refl)
process_moves {t = t} {x = x} z (results n i s k f _ w q g) =
    quiet t x.actions (λ i. refl) (λ i. refl) _ (unmarked_rows t s k _ (at_live z w))
process_moves {t = t} {x = x} z (documents i s k f _ w g) =
    quiet t x.actions (λ i. refl) (λ i. refl) _ (unmarked_rows t s k _ (at_live z w))
