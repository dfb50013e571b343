-- What leaves this crate: the definitions of Rule under their names, shut. Assumes nothing.
pub use Rattle.rules.specs.Rule.Frame.{be, Frame, framed, head, bytes, frames, over, frame_at, frames_of, Narrow, AllNarrow}
pub use Rattle.rules.specs.Rule.Event.{part, seat_frame, tab_frame, event_frame, reading_of}
pub use Rattle.rules.specs.Rule.Fits.{FitsTag, key_sent, mouse_sent, open_sent, display_sent, socket_sent, url_sent}
pub use Rattle.rules.specs.Rule.Fits.{store_sent, retrieve_sent, result_sent, document_sent, ReadAs}
pub use Rattle.rules.specs.Rule.Action.{bar, paint, go, render, key, mouse, error, document, cookie, set, get, fetch}
pub use Rattle.rules.specs.Rule.Action.{start_tab, stop_tab, start_process, stop_process, open_socket}
pub use Rattle.rules.specs.Rule.Desk.{Desk, desk, desk_at, Change, stay, open_tab, select_tab, close_tab, set_mark, clear_mark}
pub use Rattle.rules.specs.Rule.Desk.{id_at, process_at, suffix_at, new_id, changed, Reply, refuse, reply}
pub use Rattle.rules.specs.Rule.Allow.{cookie_domain, socket_host, socket_allowed, is_url}
pub use Rattle.rules.specs.Rule.Seat.{acceptable, open_rule, select_rule, close_rule, pass_rule, plain, key_rule, seat_rule}
pub use Rattle.rules.specs.Rule.Tab.{display_rule, socket_rule, url_rule, store_rule, retrieve_rule, tab_rule}
pub use Rattle.rules.specs.Rule.Tab.{result_rule, document_rule}
pub use Rattle.rules.specs.Rule.Step.{Outcome, refused, made, event_rule, room_needed, step_of, start_of, packed, answer}
pub use Rattle.rules.specs.Rule.Step.{number_in, actions_in, bytes_in, Stepped, Started}
