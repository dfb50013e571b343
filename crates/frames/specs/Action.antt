-- Party and tag of an action, document 01, "Frames", the second table, in its order. They are open (`abbrev`), so that the frame of
-- an action that is named is the line of that table. Assumes nothing.
use Rattle.std.specs.Prelude.{ℕ}
use Rattle.frames.specs.declared.action.Action.{Action}
use Rattle.frames.specs.declared.action.Action.TheVariants.{Bar, Paint, Go, Render, Key, Mouse, Error, Document, Cookie, Set, Get}
use Rattle.frames.specs.declared.action.Action.TheVariants.{Fetch, StartTab, StopTab, StartProcess, StopProcess, OpenSocket}

-- "1 seat screen", "2 tab", "3 process", "4 network", "5 host"
abbrev pub party_of : Action → ℕ
party_of Bar = 1
party_of Paint = 1
party_of Go = 2
party_of Render = 2
party_of Key = 2
party_of Mouse = 2
party_of Error = 2
party_of Document = 2
party_of Cookie = 2
party_of Set = 3
party_of Get = 3
party_of Fetch = 4
party_of StartTab = 5
party_of StopTab = 5
party_of StartProcess = 5
party_of StopProcess = 5
party_of OpenSocket = 5

abbrev pub tag_of : Action → ℕ
-- "1 bar: suffix or empty; 2 paint: the 12 bytes"
tag_of Bar = 1
tag_of Paint = 2
-- "1 go: suffix; 2 render; 3 key: the byte; 4 mouse: x, y; 5 error; 6 document: body; 7 cookie: cookie"
tag_of Go = 1
tag_of Render = 2
tag_of Key = 3
tag_of Mouse = 4
tag_of Error = 5
tag_of Document = 6
tag_of Cookie = 7
-- "1 set: the store payload, domain folded; 2 get: tab id, folded domain"
tag_of Set = 1
tag_of Get = 2
-- "1 fetch: URL"
tag_of Fetch = 1
-- "1 start tab; 2 stop tab; 3 start process: owner byte, suffix; 4 stop process; 5 open socket: port, folded host"
tag_of StartTab = 1
tag_of StopTab = 2
tag_of StartProcess = 3
tag_of StopProcess = 4
tag_of OpenSocket = 5
