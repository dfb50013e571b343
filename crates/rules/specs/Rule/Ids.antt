-- Ids and answers over time: no id is started twice, what is stopped was live, actions go to what is live, and nothing comes that
-- was not asked for. `cs` are the calls of a history and `t` is its table now. Assumes nothing.
use Rattle.std.specs.Prelude.{ℕ, ◌+◌, ◌≤◌, ◌≡◌, Bool, true, false, not, ◌≢◌, List, eqb, Option, Some, None}
use Rattle.fields.specs.Base.{one}
use Rattle.fields.specs.Table.{view, live, tab_of, process_of, waits}
use Rattle.fields.specs.declared.place.Place.{Place}
use Rattle.fields.specs.declared.mark.Mark.TheVariants.{Cookie, Document}
use Rattle.rules.specs.Rule.Call.{Call, table, actions, left, Past, Every, given, sends, times, pending}
use Rattle.rules.specs.Rule.Desk.{id_at}

-- ---- live

-- whether the tab of an id, the process of a number, is live in a table
unfoldable pub is_at : Option Place → Bool
is_at None = false
is_at (Some p) = true

unfoldable pub tab_live : List ℕ → ℕ → Bool
tab_live t i = is_at (tab_of (view t) i)

unfoldable pub process_live : List ℕ → ℕ → Bool
process_live t n = not (eqb (process_of (view t) n) 0)

-- live before and after a call; after it and not before; before it and not after
abbrev pub Through : (List ℕ → ℕ → Bool) → Call → ℕ → Type 0
Through alive c i = (alive (table c) i ≡ true) × (alive (left c) i ≡ true)

abbrev pub Begins : (List ℕ → ℕ → Bool) → Call → ℕ → Type 0
Begins alive c i = (alive (table c) i ≡ false) × (alive (left c) i ≡ true)

abbrev pub Stops : (List ℕ → ℕ → Bool) → Call → ℕ → Type 0
Stops alive c i = (alive (table c) i ≡ true) × (alive (left c) i ≡ false)

-- ---- ids

-- No tab id is started twice, and no process number.
abbrev pub TabOnce : List Call → Type 0
TabOnce cs = (i : ℕ) → times 5 i 1 cs ≤ 1

abbrev pub ProcessOnce : List Call → Type 0
ProcessOnce cs = (n : ℕ) → times 5 n 3 cs ≤ 1

-- What was started and not stopped is live, and nothing else is.
abbrev pub TabsStand : List Call → List ℕ → Type 0
TabsStand cs t = (i : ℕ) → times 5 i 1 cs ≡ times 5 i 2 cs + one (tab_live t i)

abbrev pub ProcessesStand : List Call → List ℕ → Type 0
ProcessesStand cs t = (n : ℕ) → times 5 n 3 cs ≡ times 5 n 4 cs + one (process_live t n)

-- Every stop names something that was started and not yet stopped: begun by an action of tag `start`, stopped by one of tag `stop`.
abbrev pub StopsOnce : ℕ → ℕ → List Call → Type 0
StopsOnce start stop cs =
    (c : Call) (earlier : List Call) → Past c earlier cs → (i : ℕ) → sends 5 i stop (actions c) ≡ true
    → (times 5 i start earlier ≡ 1) × (times 5 i stop earlier ≡ 0)

-- To whom an action may go, kind by kind.
pub record Addressed (c : Call) : Type 0 where
  -- go: to the tab that begins; every other action to a tab, a fetch and a socket: to one that is live before and after
  pub go : (i : ℕ) → sends 2 i 1 (actions c) ≡ true → Begins tab_live c i
  pub tab : (i tag : ℕ) → tag ≢ 1 → sends 2 i tag (actions c) ≡ true → Through tab_live c i
  pub fetch : (i tag : ℕ) → sends 4 i tag (actions c) ≡ true → Through tab_live c i
  pub socket : (i : ℕ) → sends 5 i 5 (actions c) ≡ true → Through tab_live c i
  -- set and get: to a process that is live before and after
  pub process : (n tag : ℕ) → sends 3 n tag (actions c) ≡ true → Through process_live c n
  -- start and stop
  pub starts_tab : (i : ℕ) → sends 5 i 1 (actions c) ≡ true → Begins tab_live c i
  pub stops_tab : (i : ℕ) → sends 5 i 2 (actions c) ≡ true → Stops tab_live c i
  pub starts_process : (n : ℕ) → sends 5 n 3 (actions c) ≡ true → Begins process_live c n
  pub stops_process : (n : ℕ) → sends 5 n 4 (actions c) ≡ true → Stops process_live c n

abbrev pub Addresses : List Call → Type 0
Addresses cs = (c : Call) (earlier : List Call) → Past c earlier cs → Addressed c

pub record Ids (cs : List Call) (t : List ℕ) : Type 0 where
  pub tab_once : TabOnce cs
  pub process_once : ProcessOnce cs
  pub tabs_stand : TabsStand cs t
  pub processes_stand : ProcessesStand cs t
  pub tab_stops : StopsOnce 1 2 cs
  pub process_stops : StopsOnce 3 4 cs
  pub goes : Addresses cs

-- ---- answers

-- A live tab waits for a cookie exactly if it has asked for one and has had none since, and for a document alike.
abbrev pub CookieDue : List Call → List ℕ → Type 0
CookieDue cs t = (s k : ℕ) → live (view t) s k ≡ true → waits (view t) s k Cookie ≡ pending 5 3 7 cs (id_at t s k)

abbrev pub DocumentDue : List Call → List ℕ → Type 0
DocumentDue cs t = (s k : ℕ) → live (view t) s k ≡ true → waits (view t) s k Document ≡ pending 3 4 6 cs (id_at t s k)

-- No document comes that was not asked for. (For cookies demand 3 has it.)
abbrev pub Documents : List Call → Type 0
Documents cs =
    (c : Call) (earlier : List Call) → Past c earlier cs
    → Every (λ a. pending 3 4 6 earlier a.id ≡ true) (given 2 6 (actions c))

pub record Due (cs : List Call) (t : List ℕ) : Type 0 where
  pub cookie : CookieDue cs t
  pub document : DocumentDue cs t
  pub documents : Documents cs
