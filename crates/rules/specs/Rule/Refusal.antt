-- Refusals, document 01, "Numbers given back": the number of each, with its line of that list. They are open (`abbrev`), as the
-- actions are. Assumes nothing.
use Rattle.std.specs.Prelude.{ℕ}
use Rattle.rules.specs.declared.verdict.Refusal.{Refusal}
use Rattle.rules.specs.declared.verdict.Refusal.TheVariants.{ShortRoom, BadTable, BadFrame, NoSender, BadKey}
use Rattle.rules.specs.declared.verdict.Refusal.TheVariants.{BadBook, BadSuffix, FullSeat, SpentSeat, NotAwaited}

abbrev pub number_of : Refusal → ℕ
-- "output room below 4,106 bytes"
number_of ShortRoom = 1
-- "table of another length, or unsound"
number_of BadTable = 2
-- "frame below 10 bytes, size over 4,096 or not the bytes present, unknown party or tag, payload that does not fit its tag"
number_of BadFrame = 3
-- "seat not let, tab or process not live, network id not 0"
number_of NoSender = 4
-- "a key code not named above"
number_of BadKey = 5
-- "open: unsound book"
number_of BadBook = 6
-- "open: suffix not acceptable"
number_of BadSuffix = 7
-- "open: ten tabs live"
number_of FullSeat = 8
-- "open: opens is 65,535"
number_of SpentSeat = 9
-- "result or document that no such tab waits for"
number_of NotAwaited = 10
