-- Every action of every call goes where it may: outcome by outcome, and then over a history. Assumes nothing.
use Rattle.std.specs.Prelude.{ℕ, ◌≡◌, refl, true, false, List, drop, eqb}
use Rattle.std.proofs.Common.{◌∙◌}
use Rattle.fields.specs.Table.{row, view, sound_table, marked}
use Rattle.fields.specs.declared.mark.Mark.TheVariants.{Cookie, Document}
use Rattle.fields.specs.Laws.Asked.{live_used}
use Rattle.rules.specs.Rule.Call.{step, start, table, actions, left, Every, none, more}
use Rattle.rules.specs.Rule.Ids.{tab_live, process_live, Addressed}
use Rattle.rules.specs.Sheet.{framed, Outcome}
use Rattle.rules.proofs.Laws.Happens.{Happens, nothing, joins, renews, selects, leaves, ends, types}
use Rattle.rules.specs.Rule.Desk.{process_at, TabAt}
use Rattle.rules.proofs.Laws.Happens.{points, paints, sockets, fetches, stores, gets, denies, results, documents}
use Rattle.rules.proofs.Laws.Happens.{refused_is, at_live}
use Rattle.rules.proofs.Time.Induct.{history_sound, Each}
use Rattle.rules.proofs.Time.Rows.{marked_rows}
use Rattle.rules.proofs.Time.Moves.{idle}
use Rattle.rules.proofs.Time.Live.{tab_live_lem, picked_same, marked_same, unmarked_same, opened_flips}
use Rattle.rules.proofs.Time.Running.{number_live, rows_same}
use Rattle.rules.proofs.Time.TabMoves.{TabAhead, tab_moves}
use Rattle.rules.proofs.Time.ProcessMoves.{ProcessAhead, process_moves}
use Rattle.rules.proofs.Time.Address.{To, screen, begun, tab, process, network, socket, host}
use Rattle.rules.proofs.Time.Address.{addressed_of}

-- the process of a live tab is live
process_live_lem : {t : List ℕ} {i s k : ℕ} → sound_table t ≡ true → TabAt t i s k → process_live t (process_at t s k) ≡ true
process_live_lem {t} {i} {s} {k} z w = number_live t (view t (row s k)) (process_at t s k) (live_used (at_live z w)) refl

-- an action to a live tab, where the live ids stay as they were
to_tab : {t u : List ℕ} {i s k tag : ℕ} {x : List ℕ} → TabAt t i s k → ((j : ℕ) → tab_live u j ≡ tab_live t j) → eqb tag 1 ≡ false
    → To t u (framed 2 i tag x)
to_tab {i = i} w same h = tab h (tab_live_lem w) (same i ∙ tab_live_lem w)

pub step_to : {t b e : List ℕ} {x : Outcome} → sound_table t ≡ true → Happens t b e x → Every (To t x.table) x.actions
step_to {t = t} z (nothing n h) = rw (refused_is n t) none
step_to {t = t} {e = e} z (joins s o h) =
    let w = opened_flips t s (drop 10 e) o.takes in
    more (host refl) (more (begun w.before w.after) (more screen none))
step_to {t = t} {e = e} z (renews s o h) =
    let w = opened_flips t s (drop 10 e) o.takes in
    more (host refl) (more (host refl) (more (begun w.before w.after) (more screen none)))
step_to z (selects s k i f h w) = more (to_tab w (picked_same (at_live z w)) refl) (more screen none)
step_to z (leaves s i f h w y g) = more (host refl) (more screen none)
step_to z (ends s i f h w y g) = more (host refl) (more (host refl) (more screen none))
step_to z (types s i f _ _ w) = more (to_tab w (λ j. refl) refl) none
step_to z (points s i f _ w) = more (to_tab w (λ j. refl) refl) none
step_to z (paints i s k f _ w h) = more screen none
step_to z (sockets i s k f _ w h) = more (socket (tab_live_lem w) (tab_live_lem w)) none
step_to z (fetches i s k f w h g) =
    more (network (tab_live_lem w) (marked_same Document (at_live z w) g i ∙ tab_live_lem w)) none
step_to z (stores i s k f _ w h) = more (process (process_live_lem z w) (process_live_lem z w)) none
step_to {t = t} z (gets i s k f w h g) =
    let same = rows_same t (marked t s k Cookie) (marked_rows t s k Cookie (at_live z w) g).rows in
    more (process (process_live_lem z w) (same (process_at t s k) ∙ process_live_lem z w)) none
step_to z (denies tag i s k f w _) = more (to_tab w (λ j. refl) refl) none
step_to z (results n i s k f _ w q g) = more (to_tab w (unmarked_same _ (at_live z w) g) refl) none
step_to z (documents i s k f _ w g) = more (to_tab w (unmarked_same _ (at_live z w) g) refl) none

pub addressed : Each (λ book earlier c. Addressed c)
unfolding table left actions
addressed =
    record {
      start! = λ {t = t} h b r.
          addressed_of (start t b r t) (idle tab_live TabAhead 1 2 t) (idle process_live ProcessAhead 3 4 t) none;
      step! = λ {t = t} {x = x} b e n r h w.
          let z = history_sound h in
          addressed_of (step t b e n r x.actions x.table) (tab_moves z w) (process_moves z w) (step_to z w);
    }
