-- What leaves this crate of the definitions over time, shut as in Sheet. Assumes nothing.
pub use Rattle.rules.specs.Rule.Call.{Call, step, start, table, event, actions, left, Past, newest, older}
pub use Rattle.rules.specs.Rule.Call.{book, party_of, id_of, tag_of, payload_of, is_frame, Every, none, more, given, kinds_apart}
pub use Rattle.rules.specs.Rule.Call.{sends, carried, among, reaches, latest, times, typed, asks, pending}
pub use Rattle.rules.specs.Rule.History.{History, started, stepped, unstarted}
pub use Rattle.rules.specs.Rule.Demand.{Same, Requested, Returned, Way, Promised}
pub use Rattle.rules.specs.Rule.Quark.{Socketed, Stored, Retrieved, Requests, Painted, tab_named, control, Quark}
pub use Rattle.rules.specs.Rule.Ids.{is_at, tab_live, process_live, Addressed, Ids, Due}
pub use Rattle.rules.specs.Rule.Response.{StepMade, SameReply, Alike, SameChosen, SameSlot, SameClose, SameKey, SameOpen}
pub use Rattle.rules.specs.Rule.Response.{SameSeat, SameTab, SameResult, SameDocument, Both, BothLive, SameFor, Agree}
pub use Rattle.rules.specs.Rule.Response.{chosen_at, tab_chosen, Common, Whom, numbered, named, Seen, seen, SameSeen}
pub use Rattle.rules.specs.Rule.Whence.{Opening, Pressing, Pointing, Asking, storing, Denied, HangsOn, Bringing, Whence}
pub use Rattle.rules.specs.Rule.Own.{ByOpen, ByClose, Foreign, Anothers, Own}
