-- The rule sheet, and what a promise of it says, in reading order. No code is here: the kernel is proved to do what Rule says, and
-- what follows from Rule is proved in proofs/.
--   Rule      the definitions, to be held beside document 01, demand 3 and the Quark paper
-- A reader has to believe Rule; the rest is proved. To the proofs in proofs/ its definitions are open. Sheet, History and Inner
-- pass them on shut, and the other crates name none but these, so that no other crate opens one.
--   Sheet, History  what the other crates cite
--   Inner           what the kernel's own contracts cite besides
--   Held            what its functions ask of their callers, and what they leave
pub mod Rule
pub mod Held
pub mod Sheet
pub mod History
pub mod Inner
