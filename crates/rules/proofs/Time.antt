-- What holds of every history, by induction over its calls: the promises rest on it.
--   Induct        induct, each_call: induction over a history; history_sound, history_book
--   Rows          what becomes of the process rows at each update
--   Same          for Tabs: what stays where a field does; an open and a close, whichever way they go
--   Tabs          what becomes of the tabs
--   Marks         a mark set, or cleared
-- Demand 3:
--   Suffix        history_suffix: the typed suffix; inside_typed
--   Owner         history_owner, tab_owner: the order form's owner
--   Process       history_process: what a process was started for
--   Pending       what a call does to what is due to a tab
--   Told          what a table tells of what is due, and how every update goes on telling it
--   Waiting       history_cookie, history_document: what a tab waits for
--   Demand        the other clauses
-- The Quark paper:
--   Bar           history_bar: what a seat's bar shows
--   State         history_state, history_keys: what an event leaves alone
--   Response      came: a step that was made is what the rules give; response, response_table, response_book
--   Apart         non_interference
-- Ids and answers:
--   Moves         what starting and stopping ids comes to, tabs' and processes' alike
--   Live          live tabs by their ids, and which are live after each update
--   Running       live processes by their numbers, and which are live after each update
--   TabMoves      tab_moves: what each outcome does to the ids of tabs
--   ProcessMoves  process_moves: what it does to the numbers of processes
--   Stand         history_tabs, history_processes: started once, and live until stopped
--   Address       where each kind of action may go
--   Addressed     addressed: every action goes there
--   Ids           tab_stops, process_stops: every stop names something started and not yet stopped
-- What calls pass on, whence it came, and who can change what:
--   Hung          a tab and the process that it hangs on, as the host was told
--   Passed        history_way, history_cookies, history_sockets, history_display, history_documents
--   Whence        history_whence, history_lone
--   Another       what an update leaves alone
--   Own           history_own
-- The worked history:
--   Forwarder       first_open: the desks that have opened no tab yet, and the first open of each
--   ForwarderTab    own_first, own_opened: desk 1's tab
--   ForwarderSteps  stores, gets, fetches, results, documents, closes: what comes of it
--   ForwarderFacts  its bytes, and what its tables tell
pub mod Induct
pub mod Rows
pub mod Same
pub mod Tabs
pub mod Marks
pub mod Suffix
pub mod Owner
pub mod Process
pub mod Pending
pub mod Told
pub mod Waiting
pub mod Demand
pub mod Bar
pub mod State
pub mod Response
pub mod Apart
pub mod Moves
pub mod Live
pub mod Running
pub mod TabMoves
pub mod ProcessMoves
pub mod Stand
pub mod Address
pub mod Addressed
pub mod Ids
pub mod Hung
pub mod Passed
pub mod Another
pub mod Own
pub mod Whence
pub mod Forwarder
pub mod ForwarderTab
pub mod ForwarderSteps
pub mod ForwarderFacts
