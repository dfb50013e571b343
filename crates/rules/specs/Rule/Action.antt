-- Actions, document 01, "Frames", the second table: a line for each, in its order. "Payloads not named are empty." They are
-- open (`abbrev`): each is a line of that table, and a seal would only add an equation for it. Assumes nothing.
use Rattle.std.specs.Prelude.{ℕ, List, [], ◌++◌, length}
use Rattle.terms.specs.Names.{folded}
use Rattle.rules.specs.Rule.Frame.{be, Frame, framed}

-- ---- to 1, a seat's screen

abbrev pub bar : ℕ → List ℕ → Frame
bar s x = framed 1 s 1 x

abbrev pub paint : ℕ → List ℕ → Frame
paint s x = framed 1 s 2 x

-- ---- to 2, a tab

abbrev pub go : ℕ → List ℕ → Frame
go i x = framed 2 i 1 x

abbrev pub render : ℕ → Frame
render i = framed 2 i 2 []

abbrev pub key : ℕ → ℕ → Frame
key i k = framed 2 i 3 (be 1 k)

abbrev pub mouse : ℕ → List ℕ → Frame
mouse i x = framed 2 i 4 x

abbrev pub error : ℕ → Frame
error i = framed 2 i 5 []

abbrev pub document : ℕ → List ℕ → Frame
document i x = framed 2 i 6 x

abbrev pub cookie : ℕ → List ℕ → Frame
cookie i x = framed 2 i 7 x

-- ---- to 3, a process

-- "the store payload, domain folded"
abbrev pub set : ℕ → List ℕ → List ℕ → Frame
set n domain x = framed 3 n 1 (be 1 (length domain) ++ (folded domain ++ x))

-- "tab id, folded domain"
abbrev pub get : ℕ → ℕ → List ℕ → Frame
get n i domain = framed 3 n 2 (be 4 i ++ folded domain)

-- ---- to 4, the network

abbrev pub fetch : ℕ → List ℕ → Frame
fetch i u = framed 4 i 1 u

-- ---- to 5, the host

abbrev pub start_tab : ℕ → Frame
start_tab i = framed 5 i 1 []

abbrev pub stop_tab : ℕ → Frame
stop_tab i = framed 5 i 2 []

-- "owner byte, suffix"
abbrev pub start_process : ℕ → ℕ → List ℕ → Frame
start_process n owner x = framed 5 n 3 (be 1 owner ++ x)

abbrev pub stop_process : ℕ → Frame
stop_process n = framed 5 n 4 []

-- "port, folded host"
abbrev pub open_socket : ℕ → ℕ → List ℕ → Frame
open_socket i port host = framed 5 i 5 (be 2 port ++ folded host)
