-- What each outcome of a step does to the ids of tabs: an open starts one that was never given before, a close stops the
-- selected tab's, and nothing else starts or stops any. Assumes nothing.
use Rattle.std.specs.Prelude.{ℕ, ◌+◌, ◌≤◌, ◌<◌, ◌≡◌, refl, true, false, List, drop, eqb}
use Rattle.std.proofs.Common.{lt_of_le_of_lt, arith}
use Rattle.fields.specs.Base.{one}
use Rattle.fields.specs.Table.{opens, most_opens, view, seat_of_id, serial_of_id, sound_table, Openable, TabLive, opened, picked}
use Rattle.fields.specs.Table.{closed, waits, marked, unmarked}
use Rattle.fields.specs.declared.mark.Mark.{Mark}
use Rattle.fields.specs.declared.mark.Mark.TheVariants.{Cookie, Document}
use Rattle.fields.specs.Laws.Tab.{id_seat, id_serial}
use Rattle.fields.specs.Promises.{Grows, open_grows, close_grows, pick_grows, mark_grows, unmark_grows}
use Rattle.rules.specs.Rule.Call.{is_frame, among}
use Rattle.rules.specs.Rule.Ids.{tab_live}
use Rattle.rules.specs.Sheet.{Frame, Outcome, new_id}
use Rattle.rules.proofs.Laws.Happens.{Happens, nothing, joins, renews, selects, leaves, ends, types, points, paints}
use Rattle.rules.proofs.Laws.Happens.{sockets, fetches, stores, gets, denies, results, documents, refused_is, at_live}
use Rattle.rules.proofs.Time.Rows.{opened_heads}
use Rattle.rules.proofs.Time.Moves.{Moves, rests, comes, goes, idle}
use Rattle.rules.proofs.Time.Live.{picked_same, marked_same, unmarked_same, opened_flips, closed_flips}

-- the seat of this id has not yet come to its serial
abbrev pub TabAhead : List ℕ → ℕ → Type 0
TabAhead t i = view t (opens (seat_of_id i)) < serial_of_id i

abbrev pub TabMoves : List ℕ → List ℕ → List Frame → Type 0
TabMoves = Moves tab_live TabAhead 1 2

later : (t u : List ℕ) → Grows t u → (i : ℕ) → TabAhead u i → TabAhead t i
later t u g i h = lt_of_le_of_lt (g (seat_of_id i)) h

-- the next id of a seat is ahead, and no more when it is given
module _ (t : List ℕ) (s : ℕ) (x : List ℕ) (w : Openable t s x) where
  next_fits : view t (opens s) + 1 ≤ most_opens
  next_fits = let a = w.more in omega arith

  new_ahead : TabAhead t (new_id (view t) s)
  new_ahead = rw (id_seat s (view t (opens s) + 1) next_fits, id_serial s (view t (opens s) + 1) next_fits) (omega arith)

  new_given : TabAhead (opened t s x) (new_id (view t) s) → ⊥
  new_given h =
      let a = (opened_heads t s x w).opens! in
      let b : view (opened t s x) (opens s) < view t (opens s) + 1
      = rw (id_seat s (view t (opens s) + 1) next_fits, id_serial s (view t (opens s) + 1) next_fits) at h in
      omega arith

  begins : (l : List Frame) → ((i : ℕ) → among 5 i 1 l ≡ one (eqb (new_id (view t) s) i)) → ((i : ℕ) → among 5 i 2 l ≡ 0)
      → TabMoves t (opened t s x) l
  begins l n m =
      comes (new_id (view t) s) n m (opened_flips t s x w) new_ahead new_given (later t (opened t s x) (open_grows t s x w))

-- ---- outcome by outcome

module _ (t : List ℕ) (l : List Frame) (n : (i : ℕ) → among 5 i 1 l ≡ 0) (m : (i : ℕ) → among 5 i 2 l ≡ 0) where
  -- the table stays
  stays : TabMoves t t l
  stays = rests n m (λ i. refl) (λ i h. h)

  -- one tab is selected, or its marks change
  quiet : (u : List ℕ) → ((i : ℕ) → tab_live u i ≡ tab_live t i) → Grows t u → TabMoves t u l
  quiet u w g = rests n m w (later t u g)

  picks : (s k : ℕ) → TabLive t s k → TabMoves t (picked t s k) l
  picks s k w = quiet (picked t s k) (picked_same w) (pick_grows t s k w)

  marks : (s k : ℕ) (o : Mark) → TabLive t s k → waits (view t) s k o ≡ false → TabMoves t (marked t s k o) l
  marks s k o w h = quiet (marked t s k o) (marked_same o w h) (mark_grows t s k o w h)

  unmarks : (s k : ℕ) (o : Mark) → TabLive t s k → waits (view t) s k o ≡ true → TabMoves t (unmarked t s k o) l
  unmarks s k o w h = quiet (unmarked t s k o) (unmarked_same o w h) (unmark_grows t s k o w)

pub tab_moves : {t b e : List ℕ} {x : Outcome} → sound_table t ≡ true → Happens t b e x → TabMoves t x.table x.actions
unfolding among is_frame one
tab_moves {t = t} z (nothing n h) = rw (refused_is n t) (idle tab_live TabAhead 1 2 t)
tab_moves {t = t} {e = e} {x = x} z (joins s o h) =
    begins t s (drop 10 e) o.takes x.actions (λ i. omega arith) (λ i. refl)
tab_moves {t = t} {e = e} {x = x} z (renews s o h) =
    begins t s (drop 10 e) o.takes x.actions (λ i. omega arith) (λ i. refl)
tab_moves {t = t} {x = x} z (selects s k i f h w) = picks t x.actions (λ i. refl) (λ i. refl) s k (at_live z w)
tab_moves {t = t} z (leaves s i f h w y g) =
    goes i (λ i. refl) (λ i. omega arith) (closed_flips t s i w y) (later t (closed t s) (close_grows t s w))
tab_moves {t = t} z (ends s i f h w y g) =
    goes i (λ i. refl) (λ i. omega arith) (closed_flips t s i w y) (later t (closed t s) (close_grows t s w))
tab_moves {t = t} {x = x} z (types s i f _ _ w) = stays t x.actions (λ i. refl) (λ i. refl)
tab_moves {t = t} {x = x} z (points s i f _ w) = stays t x.actions (λ i. refl) (λ i. refl)
tab_moves {t = t} {x = x} z (paints i s k f _ w h) = stays t x.actions (λ i. refl) (λ i. refl)
tab_moves {t = t} {x = x} z (sockets i s k f _ w h) = stays t x.actions (λ i. refl) (λ i. refl)
tab_moves {t = t} {x = x} z (fetches i s k f w h g) = marks t x.actions (λ i. refl) (λ i. refl) s k Document (at_live z w) g
tab_moves {t = t} {x = x} z (stores i s k f _ w h) = stays t x.actions (λ i. refl) (λ i. refl)
tab_moves {t = t} {x = x} z (gets i s k f w h g) = marks t x.actions (λ i. refl) (λ i. refl) s k Cookie (at_live z w) g
tab_moves {t = t} {x = x} z (denies tag i s k f w _) = stays t x.actions (λ i. refl) (λ i. refl)
tab_moves {t = t} {x = x} z (results n i s k f _ w q g) =
    unmarks t x.actions (λ i. refl) (λ i. refl) s k _ (at_live z w) g
tab_moves {t = t} {x = x} z (documents i s k f _ w g) =
    unmarks t x.actions (λ i. refl) (λ i. refl) s k _ (at_live z w) g
