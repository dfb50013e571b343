-- Over a history: no id of a tab and no number of a process is started twice, and what was started and not stopped is live, and
-- nothing else. Assumes nothing.
use Rattle.std.specs.Prelude.{ℕ, ◌≡◌, Bool, true, false, List}
use Rattle.terms.specs.Names.{sound_book}
use Rattle.fields.specs.Table.{sound_table, fresh}
use Rattle.rules.specs.Rule.Call.{Call, step, start, table, actions, left}
use Rattle.rules.specs.Rule.History.{History}
use Rattle.rules.specs.Rule.Ids.{tab_live, process_live}
use Rattle.rules.specs.Sheet.{Outcome}
use Rattle.rules.proofs.Laws.Happens.{Happens}
use Rattle.rules.proofs.Time.Induct.{history_sound, Kept, induct}
use Rattle.rules.proofs.Time.Moves.{Moves, idle, Fair, fair_first, fair_next}
use Rattle.rules.proofs.Time.Live.{fresh_dead}
use Rattle.rules.proofs.Time.Running.{fresh_idle}
use Rattle.rules.proofs.Time.TabMoves.{TabAhead, tab_moves}
use Rattle.rules.proofs.Time.ProcessMoves.{ProcessAhead, process_moves}

module _ (alive : List ℕ → ℕ → Bool) (ahead : List ℕ → ℕ → Type 0) (a b : ℕ) where
  fair_kept : ((book : List ℕ) → sound_book book ≡ true → (i : ℕ) → alive (fresh book) i ≡ false)
      → ((t b' e : List ℕ) (x : Outcome) → sound_table t ≡ true → Happens t b' e x
      → Moves alive ahead a b t x.table x.actions)
      → Kept (λ book cs t. Fair alive ahead a b cs t)
  unfolding table left actions
  fair_kept dead moves =
      record {
        fresh! = λ book z. fair_first alive ahead a b (fresh book) (dead book z);
        start! = λ {cs = cs} {t = t} h w b' r. fair_next alive ahead a b (start t b' r t) cs (idle alive ahead a b t) w;
        step! = λ {cs = cs} {t = t} {x = x} b' e n r h w y.
            fair_next alive ahead a b (step t b' e n r x.actions x.table) cs (moves t b' e x (history_sound h) y) w;
      }

abbrev pub TabsFair : List Call → List ℕ → Type 0
TabsFair = Fair tab_live TabAhead 1 2

abbrev pub ProcessesFair : List Call → List ℕ → Type 0
ProcessesFair = Fair process_live ProcessAhead 3 4

pub history_tabs : {book : List ℕ} {cs : List Call} {t : List ℕ} → History book cs t → TabsFair cs t
history_tabs h =
    induct (λ book cs t. TabsFair cs t) (fair_kept tab_live TabAhead 1 2 fresh_dead (λ t b e x z y. tab_moves z y)) h

pub history_processes : {book : List ℕ} {cs : List Call} {t : List ℕ} → History book cs t → ProcessesFair cs t
history_processes h =
    induct (λ book cs t. ProcessesFair cs t)
    (fair_kept process_live ProcessAhead 3 4 fresh_idle (λ t b e x z y. process_moves z y)) h
