-- Demand 3, clause by clause in its own words. `book` is the order book that the history was started from, `cs` are its calls and
-- `t` is the table now. Assumes nothing.
use Rattle.std.specs.Prelude.{ℕ, ◌≤◌, ◌<◌, ◌≡◌, true, ◌≢◌, List, ◌++◌}
use Rattle.terms.specs.Names.{folded, is_separate, orders, letting_of, options_of, owner_by}
use Rattle.terms.specs.Base.{Range}
use Rattle.fields.specs.Table.{row, owner, tabs, view, seat_of_id, live, used, name_of, pointing, free_process, live_tabs}
use Rattle.rules.specs.Rule.Call.{Call, event, actions, Past, party_of, id_of, Every, given, latest, times, typed}
use Rattle.rules.specs.Rule.Call.{pending}
use Rattle.rules.specs.Sheet.{be, Frame, step_of, start_of}
use Rattle.rules.specs.Rule.Desk.{id_at}

-- Each live tab hangs on exactly one live cookie process (`Apart` has the "one"),
abbrev pub Hangs : List ℕ → Type 0
Hangs t = (s k : ℕ) → live (view t) s k ≡ true → used (view t) (view t (row s k)) ≡ true

-- whose suffix is the one typed when the tab was opened, in lower case,
abbrev pub Suffix : List Call → List ℕ → Type 0
Suffix cs t =
    (s k : ℕ) → live (view t) s k ≡ true → name_of (view t) (view t (row s k)) ≡ folded (typed cs (id_at t s k))

-- and whose owner is the one the order form gives that desk.
abbrev pub Owner : List ℕ → List ℕ → Type 0
Owner book t = (s k : ℕ) → live (view t) s k ≡ true → view t (owner (view t (row s k))) ≡ owner_by book s

-- Each live process counts its tabs truly
abbrev pub Counts : List ℕ → Type 0
Counts t = (p : ℕ) → used (view t) p ≡ true → view t (tabs p) ≡ pointing (view t) p

-- and has one at least;
abbrev pub Some : List ℕ → Type 0
Some t = (p : ℕ) → used (view t) p ≡ true → 1 ≤ view t (tabs p)

-- no two share owner and suffix.
abbrev pub Apart : List ℕ → Type 0
Apart t =
    (p q : ℕ) → used (view t) p ≡ true → used (view t) q ≡ true → view t (owner p) ≡ view t (owner q)
    → name_of (view t) p ≡ name_of (view t) q → p ≡ q

-- So an open never lacks a process row: while a seat has a free slot, one is free;
abbrev pub Room : List ℕ → Type 0
Room t = (s : ℕ) → Range 1 8 s → live_tabs (view t) s < 10 → free_process (view t) ≢ 0

-- no call ever refuses that table as unsound, neither a step with any room, book and event, nor a start with any book;
abbrev pub Taken : List ℕ → Type 0
Taken t = (room : ℕ) (b e : List ℕ) → (step_of room t b e).number ≢ 2

abbrev pub Startable : List ℕ → Type 0
Startable t = (b : List ℕ) → (start_of t b).number ≢ 2

-- (so that a start which is refused has the number 6: its book is unsound)
abbrev pub BookAlone : List ℕ → Type 0
BookAlone t = (b : List ℕ) → (start_of t b).number ≢ 0 → (start_of t b).number ≡ 6

-- and each cookie request or result ever passed on went between a tab and a process of that same owner and suffix. As the host was
-- told: process n was started for the owner that the order form gives the desk of tab i, and for the suffix typed for that tab, in
-- lower case; and both were started once and not stopped.
pub record Same (book : List ℕ) (cs : List Call) (i n : ℕ) : Type 0 where
  pub told : latest 5 n 3 cs ≡ be 1 (owner_by book (seat_of_id i)) ++ folded (typed cs i)
  pub process : (times 5 n 3 cs ≡ 1) × (times 5 n 4 cs ≡ 0)
  pub tab : (times 5 i 1 cs ≡ 1) × (times 5 i 2 cs ≡ 0)

-- A request, set or get, goes from the tab that sent it to such a process;
pub record Requested (book : List ℕ) (earlier : List Call) (c : Call) (a : Frame) : Type 0 where
  pub by_tab : party_of (event c) ≡ 2
  pub same : Same book earlier (id_of (event c)) a.id

-- a result comes from such a process, which sent it, to a tab that asked and has had none since.
pub record Returned (book : List ℕ) (earlier : List Call) (c : Call) (a : Frame) : Type 0 where
  pub by_process : party_of (event c) ≡ 3
  pub same : Same book earlier a.id (id_of (event c))
  pub asked : pending 5 3 7 earlier a.id ≡ true

pub record Way (book : List ℕ) (earlier : List Call) (c : Call) : Type 0 where
  pub sets : Every (Requested book earlier c) (given 3 1 (actions c))
  pub gets : Every (Requested book earlier c) (given 3 2 (actions c))
  pub results : Every (Returned book earlier c) (given 2 7 (actions c))

abbrev pub Ways : List ℕ → List Call → Type 0
Ways book cs = (c : Call) (earlier : List Call) → Past c earlier cs → Way book earlier c

-- And the freight forwarder's case: desks that differ, one of which is separate, are never on one process.
abbrev pub Desks : List ℕ → List ℕ → Type 0
Desks book t =
    (s r k j : ℕ) → is_separate (options_of (letting_of s (orders book))) ≡ true → r ≢ s → live (view t) s k ≡ true
    → live (view t) r j ≡ true → view t (row s k) ≢ view t (row r j)

-- All of it.
pub record Promised (book : List ℕ) (cs : List Call) (t : List ℕ) : Type 0 where
  pub hangs : Hangs t
  pub suffix : Suffix cs t
  pub owner= : Owner book t
  pub counts : Counts t
  pub some : Some t
  pub apart : Apart t
  pub room : Room t
  pub step_takes : Taken t
  pub start_takes : Startable t
  pub way : Ways book cs
  pub desks : Desks book t
