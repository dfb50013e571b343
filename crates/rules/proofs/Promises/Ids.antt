-- Ids and answers, for every history. What each promise says stands under its name in Rule/Ids. Assumes nothing.
use Rattle.std.specs.Prelude.{ℕ, List}
use Rattle.rules.specs.Rule.Call.{Call}
use Rattle.rules.specs.Rule.History.{History}
use Rattle.rules.specs.Rule.Ids.{TabOnce, ProcessOnce, TabsStand, ProcessesStand, StopsOnce, Addresses, Ids, CookieDue}
use Rattle.rules.specs.Rule.Ids.{DocumentDue, Documents, Due}
use Rattle.rules.proofs.Time.Stand.{history_tabs, history_processes}
use Rattle.rules.proofs.Time.Ids as by-id
use Rattle.rules.proofs.Time.Waiting.{history_cookie, history_document}
use Rattle.rules.proofs.Time.Passed.{history_documents}

module _ {book : List ℕ} {cs : List Call} {t : List ℕ} (h : History book cs t) where
  -- ---- ids

  -- No tab id is started twice,
  pub tab_once : TabOnce cs
  tab_once = (history_tabs h).once

  -- and no process number;
  pub process_once : ProcessOnce cs
  process_once = (history_processes h).once

  -- what was started and not stopped is live, and nothing else is, of tabs
  pub tabs_stand : TabsStand cs t
  tabs_stand = (history_tabs h).stand

  -- and of processes;
  pub processes_stand : ProcessesStand cs t
  processes_stand = (history_processes h).stand

  -- every stop of a tab names one that was started and not yet stopped,
  pub tab_stops : StopsOnce 1 2 cs
  tab_stops = by-id.tab_stops h

  -- and every stop of a process;
  pub process_stops : StopsOnce 3 4 cs
  process_stops = by-id.process_stops h

  -- every action to a tab or a process goes to one that is live, before or after or both, as its kind has it.
  pub actions_go : Addresses cs
  actions_go = by-id.history_goes h

  pub ids : Ids cs t
  ids =
      record {
        tab_once = tab_once;
        process_once = process_once;
        tabs_stand = tabs_stand;
        processes_stand = processes_stand;
        tab_stops = tab_stops;
        process_stops = process_stops;
        goes = actions_go;
      }

  -- ---- answers

  -- A live tab waits for a cookie exactly if it has asked for one and has had none since,
  pub cookie_due : CookieDue cs t
  cookie_due = history_cookie h

  -- and for a document alike;
  pub document_due : DocumentDue cs t
  document_due = history_document h

  -- no document comes that was not asked for.
  pub documents_asked : Documents cs
  documents_asked = history_documents h

  pub answered : Due cs t
  answered = record { cookie = cookie_due; document = document_due; documents = documents_asked }
