-- Every stop names something started and not yet stopped, and every action goes to what is live. Assumes nothing.
use Rattle.std.specs.Prelude.{ℕ, ◌≡◌, true, List}
use Rattle.rules.specs.Rule.Call.{Call, table, actions, sends, times}
use Rattle.rules.specs.Rule.History.{History}
use Rattle.rules.specs.Rule.Ids.{tab_live, process_live, Addressed, Addresses, StopsOnce}
use Rattle.rules.proofs.Time.Induct.{Each, each_call}
use Rattle.rules.proofs.Time.Moves.{fair_live}
use Rattle.rules.proofs.Time.TabMoves.{TabAhead}
use Rattle.rules.proofs.Time.ProcessMoves.{ProcessAhead}
use Rattle.rules.proofs.Time.Stand.{history_tabs, history_processes}
use Rattle.rules.proofs.Time.Addressed.{addressed}

-- of one call
abbrev Once : ℕ → ℕ → List Call → Call → Type 0
Once a b earlier c = (i : ℕ) → sends 5 i b (actions c) ≡ true → (times 5 i a earlier ≡ 1) × (times 5 i b earlier ≡ 0)

tab_each : Each (λ book earlier c. Once 1 2 earlier c)
unfolding table
tab_each =
    record {
      start! = λ h b r i s.
          fair_live tab_live TabAhead 1 2 (history_tabs h) i ((addressed.start! h b r).stops_tab i s).0;
      step! = λ b e n r h w i s.
          fair_live tab_live TabAhead 1 2 (history_tabs h) i ((addressed.step! b e n r h w).stops_tab i s).0;
    }

process_each : Each (λ book earlier c. Once 3 4 earlier c)
unfolding table
process_each =
    record {
      start! = λ h b r i s.
          fair_live process_live ProcessAhead 3 4 (history_processes h) i ((addressed.start! h b r).stops_process i s).0;
      step! = λ b e n r h w i s.
          fair_live process_live ProcessAhead 3 4 (history_processes h) i ((addressed.step! b e n r h w).stops_process i s).0;
    }

pub tab_stops : {book : List ℕ} {cs : List Call} {t : List ℕ} → History book cs t → StopsOnce 1 2 cs
tab_stops h = each_call (λ book earlier c. Once 1 2 earlier c) tab_each h

pub process_stops : {book : List ℕ} {cs : List Call} {t : List ℕ} → History book cs t → StopsOnce 3 4 cs
process_stops h = each_call (λ book earlier c. Once 3 4 earlier c) process_each h

pub history_goes : {book : List ℕ} {cs : List Call} {t : List ℕ} → History book cs t → Addresses cs
history_goes h = each_call (λ book earlier c. Addressed c) addressed h
