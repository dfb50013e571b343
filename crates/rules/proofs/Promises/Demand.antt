-- Demand 3, for every history. What each clause says stands under its name in Rule/Demand. Assumes nothing.
use Rattle.std.specs.Prelude.{ℕ, List}
use Rattle.rules.specs.Rule.Call.{Call}
use Rattle.rules.specs.Rule.History.{History}
use Rattle.rules.specs.Rule.Demand.{Hangs, Suffix, Owner, Counts, Some, Apart, Room, Taken, Startable, BookAlone, Ways}
use Rattle.rules.specs.Rule.Demand.{Desks, Promised}
use Rattle.rules.proofs.Time.Suffix.{history_suffix}
use Rattle.rules.proofs.Time.Owner as by-owner
use Rattle.rules.proofs.Time.Passed.{history_way}
use Rattle.rules.proofs.Time.Demand as demand

module _ {book : List ℕ} {cs : List Call} {t : List ℕ} (h : History book cs t) where
  -- Each live tab hangs on a live cookie process,
  pub tab_hangs : Hangs t
  tab_hangs = demand.tab_hangs h

  -- whose suffix is the one typed when the tab was opened, in lower case,
  pub tab_suffix : Suffix cs t
  tab_suffix = history_suffix h

  -- and whose owner is the one the order form gives that desk.
  pub tab_owner : Owner book t
  tab_owner = by-owner.tab_owner h

  -- Each live process counts its tabs truly
  pub counts_true_lem : Counts t
  counts_true_lem = demand.counts_true_lem h

  -- and has one at least;
  pub some_tab : Some t
  some_tab = demand.some_tab h

  -- no two share owner and suffix.
  pub pairs_apart_lem : Apart t
  pairs_apart_lem = demand.pairs_apart_lem h

  -- An open never lacks a process row,
  pub row_left : Room t
  row_left = demand.row_left h

  -- no call ever refuses that table as unsound, step
  pub step_takes : Taken t
  step_takes = demand.step_takes h

  -- or start,
  pub start_takes : Startable t
  start_takes = demand.start_takes h

  -- (so a refused start has the number 6)
  pub start_six : BookAlone t
  start_six = demand.start_six h

  -- and each cookie request or result ever passed on went between a tab and a process of the same owner and suffix.
  pub cookies_way : Ways book cs
  cookies_way = history_way h

  -- Two desks, one of them separate, are never on one process.
  pub desks_apart : Desks book t
  desks_apart = demand.desks_apart h

  pub promised : Promised book cs t
  promised =
      record {
        hangs = tab_hangs;
        suffix = tab_suffix;
        owner= = tab_owner;
        counts = counts_true_lem;
        some = some_tab;
        apart = pairs_apart_lem;
        room = row_left;
        step_takes = step_takes;
        start_takes = start_takes;
        way = cookies_way;
        desks = desks_apart;
      }
