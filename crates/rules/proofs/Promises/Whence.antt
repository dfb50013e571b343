-- Whence every action came and who can change what, for every history. What each promise says stands under its name in
-- Rule/Whence and Rule/Own. Assumes nothing.
use Rattle.std.specs.Prelude.{ℕ, List}
use Rattle.rules.specs.Rule.Call.{Call}
use Rattle.rules.specs.Rule.History.{History}
use Rattle.rules.specs.Rule.Whence.{Whences, Lone}
use Rattle.rules.specs.Rule.Own.{OwnOpens, OwnCloses, OwnRecord}
use Rattle.rules.proofs.Time.Whence.{history_whence, history_lone}
use Rattle.rules.proofs.Time.Own.{history_own}

module _ {book : List ℕ} {cs : List Call} {t : List ℕ} (h : History book cs t) where
  -- Every action of every call came from the event that the document has for its kind, from a sender that was there, and carries
  -- what the document says, byte for byte;
  pub whence : Whences cs
  whence = history_whence h

  -- and no call gives two actions of one kind.
  pub each_alone : Lone cs
  each_alone = history_lone h

  -- A tab is started only by an open of the seat in its id,
  pub opened_own : OwnOpens cs
  opened_own = (history_own h).opens

  -- and stopped only by F12 of that seat;
  pub closed_own : OwnCloses cs
  closed_own = (history_own h).closes

  -- a seat's event changes neither another seat's record nor a live process row of another owner.
  pub record_own : OwnRecord cs
  record_own = (history_own h).record!
