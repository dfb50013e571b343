-- What an action has on its frame.
pub mod Action
