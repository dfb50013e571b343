-- What the proofs of the functions cite.
--   Moves  one turn of the loop that moves the unread rest
--   Fill   length_held: how much is held; filled_is: a read behind what is unread
--   Comes  may_come: what a read can bring
--   Past   outset_sound, sound_past, held_past: what is held at the beginning, and once some of it was given
pub mod Moves
pub mod Fill
pub mod Comes
pub mod Past
