-- What follows from the definitions, for this crate and every layer above. To be cited first:
--   Table    table_facts, facts_table: a sound table and the facts of what it shows
--   Sound    the record of those facts, a field for each clause; live and free rows
--   There    live_there, used_there: what is live has a seat, a slot, a row
--   Asked    what the functions ask of their callers, from soundness and a test
--   Find     what a look-up of a slot or a process row gives, and that it finds what is there
--   Tab      tab_of_lem, tab_found: ids and the tabs they name
--   First    first_left, first_slot: a seat without tabs
--   Fresh    fresh_tenant, fresh_options, fresh_fields, fresh_sound
--   Opened   opened_joins, opened_renews: every field after an open; opened_sound
--   Closed   closed_leaves, closed_ends: every field after a close; closed_sound
--   Waited   every field after a selection and after a mark; picked_sound, marked_sound, unmarked_sound
--   Marks    mark_set, mark_gone: one mark leaves the other
--   Room     room: a free slot leaves a free process row; what fits
--   Cover    form_covers, view_ext: no byte of a table is left out, and a table of bytes is what it shows
-- Each, Sum, Lowest, Bits, Series and Few are laws of the words in Base; Chains says `each` and `lowest` of the iterators' `all`
-- and `find`. View, Layout, Form and Cover are the bytes; with Can and Tab they are the laws that know the layout. Clause, Facts and
-- Holds prove that the test of soundness and the record agree, GoodParts and Good that the code's way is the document's; Letters
-- tells a name by the 64 letters of its room. Seats, Rows, Points and Links prove once that a change of one tab row and one process
-- row keeps a table sound; Still, Open, Make, Renew, Close, Leave, End and Quiet are the changes. Write and Can say that a table
-- shows what was written; Blank and Ordered lead to Fresh.
pub mod Each
pub mod Sum
pub mod Lowest
pub mod Bits
pub mod Series
pub mod Few
pub mod Chains
pub mod View
pub mod Layout
pub mod Form
pub mod Cover
pub mod Sound
pub mod Clause
pub mod Letters
pub mod Facts
pub mod Holds
pub mod GoodParts
pub mod Good
pub mod There
pub mod Write
pub mod Seats
pub mod Rows
pub mod Points
pub mod Links
pub mod Still
pub mod Open
pub mod Make
pub mod Renew
pub mod Close
pub mod Leave
pub mod End
pub mod Quiet
pub mod Find
pub mod Tab
pub mod Room
pub mod Table
pub mod Asked
pub mod Can
pub mod Blank
pub mod Ordered
pub mod Fresh
pub mod First
pub mod Opened
pub mod Closed
pub mod Waited
pub mod Marks
