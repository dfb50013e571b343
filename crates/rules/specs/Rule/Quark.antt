-- What the Quark paper promises of its kernel (sections 3.6 and 5.5), in our terms. `cs` are the calls of a history and `t` is its
-- table now. Assumes nothing.
use Rattle.std.specs.Prelude.{ℕ, ◌≡◌, Bool, true, false, ◌&&◌, ◌||◌, cond, ◌≢◌, List, [], ◌++◌, length, get_or, eqb}
use Rattle.terms.specs.Base.{within}
use Rattle.terms.specs.Names.{folded, is_name, under, num}
use Rattle.fields.specs.Table.{Field, selected, waiting, view}
use Rattle.rules.specs.Rule.Call.{Call, table, event, actions, left, Past, party_of, id_of, tag_of, Every, given, latest}
use Rattle.rules.specs.Rule.Call.{typed}
use Rattle.rules.specs.Sheet.{be, Frame}
use Rattle.rules.specs.Rule.Desk.{id_at, TabAt}

-- Domain bar: what a seat's screen was last sent to show is what was typed for its selected tab, in lower case. Where none
-- is selected it is empty, or none was ever sent.
abbrev pub Bar : List Call → List ℕ → Type 0
Bar cs t =
    (s : ℕ)
    → latest 1 s 1 cs ≡ cond (eqb (view t (selected s)) 0) [] (folded (typed cs (id_at t s (view t (selected s)))))

-- No socket out of the suffix: each is opened for the tab that asked, to a host that is a name under what was typed for that tab.
pub record Socketed (earlier : List Call) (c : Call) (a : Frame) : Type 0 where
  pub port : ℕ
  pub host : List ℕ
  pub carries : a.payload ≡ be 2 port ++ folded host
  pub by_tab : party_of (event c) ≡ 2
  pub by : id_of (event c) ≡ a.id
  pub name : is_name host ≡ true
  pub inside : under host (typed earlier a.id) ≡ true

abbrev pub Sockets : List Call → Type 0
Sockets cs =
    (c : Call) (earlier : List Call) → Past c earlier cs → Every (Socketed earlier c) (given 5 5 (actions c))

-- No cookie out of the suffix: what a process is asked to keep, or to give, is for a name under what was typed for the tab that
-- sent the request, and a request to give names that tab.
pub record Stored (earlier : List Call) (c : Call) (a : Frame) : Type 0 where
  pub domain : List ℕ
  pub cookie : List ℕ
  pub carries : a.payload ≡ be 1 (length domain) ++ (folded domain ++ cookie)
  pub name : is_name domain ≡ true
  pub inside : under domain (typed earlier (id_of (event c))) ≡ true

pub record Retrieved (earlier : List Call) (c : Call) (a : Frame) : Type 0 where
  pub domain : List ℕ
  pub carries : a.payload ≡ be 4 (id_of (event c)) ++ folded domain
  pub name : is_name domain ≡ true
  pub inside : under domain (typed earlier (id_of (event c))) ≡ true

pub record Requests (earlier : List Call) (c : Call) : Type 0 where
  pub stores : Every (Stored earlier c) (given 3 1 (actions c))
  pub retrieves : Every (Retrieved earlier c) (given 3 2 (actions c))

abbrev pub Cookies : List Call → Type 0
Cookies cs = (c : Call) (earlier : List Call) → Past c earlier cs → Requests earlier c

-- Display: what is painted on a seat's screen was sent by the tab that is selected there.
pub record Painted (c : Call) (a : Frame) : Type 0 where
  pub by_tab : party_of (event c) ≡ 2
  pub chosen : view (table c) (selected a.id) ≢ 0
  pub by : id_of (event c) ≡ id_at (table c) a.id (view (table c) (selected a.id))

abbrev pub Display : List Call → Type 0
Display cs = (c : Call) (earlier : List Call) → Past c earlier cs → Every (Painted c) (given 1 2 (actions c))

-- State integrity: a call whose event is not a seat's changes no field but what the tab waits for that the event names, by its
-- sender or by the first 4 bytes of a result or document;
unfoldable pub tab_named : List ℕ → ℕ
tab_named e = cond (eqb (party_of e) 2) (id_of e) (num e 10 4)

abbrev pub State : List Call → Type 0
State cs =
    (c : Call) (earlier : List Call) → Past c earlier cs → party_of (event c) ≢ 1 → (f : Field)
    → ((s k : ℕ) → TabAt (table c) (tab_named (event c)) s k → f ≢ waiting s k) → view (left c) f ≡ view (table c) f

-- one whose event is a seat's, but no "control key" (F1 to F10, the open in the place of F11, F12), changes nothing.
unfoldable pub control : List ℕ → Bool
control e = eqb (tag_of e) 3 || (eqb (tag_of e) 1 && (within 14 23 (get_or e 10 0) || eqb (get_or e 10 0) 25))

abbrev pub Keys : List Call → Type 0
Keys cs =
    (c : Call) (earlier : List Call) → Past c earlier cs → party_of (event c) ≡ 1 → control (event c) ≡ false
    → left c ≡ table c

-- All of it, but what speaks of two histories (Response).
pub record Quark (cs : List Call) (t : List ℕ) : Type 0 where
  pub bar : Bar cs t
  pub sockets : Sockets cs
  pub cookies : Cookies cs
  pub display : Display cs
  pub state : State cs
  pub keys : Keys cs
