-- The clauses of demand 3 that follow from the table's being sound at every moment, and from its owners. Assumes nothing.
use Rattle.std.specs.Prelude.{ℕ, ◌≤◌, ◌<◌, ◌≡◌, ◌≢◌, List}
use Rattle.std.proofs.Common.{sym, ap, ◌∙◌, ⊎_elim, arith}
use Rattle.std.proofs.lemmas.Bool.{false≢true}
use Rattle.terms.specs.Names.{folded}
use Rattle.terms.specs.Laws.Order.{owner_apart}
use Rattle.fields.specs.Table.{owner, view}
use Rattle.fields.specs.Promises as table
use Rattle.fields.specs.Laws.Each.{same_or, less}
use Rattle.fields.specs.Laws.Rows.{Pair, pair_of}
use Rattle.fields.specs.Laws.There.{used_there}
use Rattle.fields.specs.Laws.Asked.{live_used}
use Rattle.fields.specs.Laws.Table.{SoundTable, table_facts}
use Rattle.rules.specs.Rule.Call.{Call}
use Rattle.rules.specs.Rule.History.{History}
use Rattle.rules.specs.Rule.Demand.{Hangs, Counts, Some, Apart, Room, Taken, Startable, BookAlone, Desks}
use Rattle.rules.specs.Sheet.{Outcome}
use Rattle.rules.proofs.Laws.Start.{start_starts}
use Rattle.rules.proofs.Laws.Happened.{step_happens}
use Rattle.rules.proofs.Laws.Happens.{Happens, nothing, joins, renews, selects, leaves, ends, types, points, paints}
use Rattle.rules.proofs.Laws.Happens.{sockets, fetches, stores, gets, denies, results, documents, refused_is}
use Rattle.rules.proofs.Time.Induct.{history_sound, history_book}
use Rattle.rules.proofs.Time.Owner.{tab_owner}

-- no outcome has the number 2
not_unsound : {t b e : List ℕ} {x : Outcome} → Happens t b e x → x.number ≢ 2
not_unsound {t = t} (nothing n h) = rw (refused_is n t) h
not_unsound (joins s w z) = λ q. omega arith
not_unsound (renews s w z) = λ q. omega arith
not_unsound (selects s k i fr ky a) = λ q. omega arith
not_unsound (leaves s i fr ky w a z) = λ q. omega arith
not_unsound (ends s i fr ky w a z) = λ q. omega arith
not_unsound (types s i fr _ _ a) = λ q. omega arith
not_unsound (points s i fr _ a) = λ q. omega arith
not_unsound (paints i s k fr _ a z) = λ q. omega arith
not_unsound (sockets i s k fr _ a z) = λ q. omega arith
not_unsound (fetches i s k fr a ok z) = λ q. omega arith
not_unsound (stores i s k fr _ a ok) = λ q. omega arith
not_unsound (gets i s k fr a ok z) = λ q. omega arith
not_unsound (denies tag i s k fr a _) = λ q. omega arith
not_unsound (results m i s k fr _ a z y) = λ q. omega arith
not_unsound (documents i s k fr _ a y) = λ q. omega arith

module _ {book : List ℕ} {cs : List Call} {t : List ℕ} (h : History book cs t) where
  facts : SoundTable t
  facts = table_facts t (history_sound h)

  -- ---- tabs

  pub tab_hangs : Hangs t
  tab_hangs s k l = live_used {s = s} {k = k} (record { sound = history_sound h; there = l })

  pub desks_apart : Desks book t
  desks_apart s r k j e n l m q =
      n
      (sym
      (owner_apart book s r (history_book h) e
      (sym (tab_owner h s k l) ∙ ap (λ (p : ℕ). view t (owner p)) q ∙ tab_owner h r j m)))

  -- ---- processes

  no_pair : (p q : ℕ) → 1 ≤ p → p < q → q ≤ 80 → Pair (view t) p q → ⊥
  no_pair p q a b d w = false≢true (sym (facts.shows.pairs_apart_lem p q a b d) ∙ pair_of (view t) p q w)

  pub pairs_apart_lem : Apart t
  pairs_apart_lem p q l m o x =
      let a = used_there t p l in
      let b = used_there t q m in
      ⊎_elim (λ (e : p ≡ q). e)
      (λ (n : p ≢ q).
      absurd
      (⊎_elim
      (λ (d : p < q).
      no_pair p q a.low d b.high (record { left = l; right = m; owners = o; folds = ap folded x }))
      (λ (d : q < p).
      no_pair q p b.low d a.high (record { left = m; right = l; owners = sym o; folds = ap folded (sym x) }))
      (less p q n)))
      (same_or p q)

  pub counts_true_lem : Counts t
  counts_true_lem p l = facts.shows.counts p (used_there t p l)

  pub some_tab : Some t
  some_tab p l = facts.shows.some_tab p (used_there t p l) l

  pub row_left : Room t
  row_left s r f = table.row_for_slot t s (record { sound = history_sound h; seat = r; slot = f })

  -- ---- calls

  pub step_takes : Taken t
  step_takes n b e = not_unsound (step_happens n t b e (history_sound h))

  pub start_takes : Startable t
  start_takes b = (start_starts t b).long facts.long

  -- a start that is refused has the number 6
  pub start_six : BookAlone t
  start_six b h =
      ⊎_elim (λ z. absurd (h z)) (λ e. ⊎_elim (λ z. absurd (start_takes b z)) (λ z. z) e) (start_starts t b).number=
