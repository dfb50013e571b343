-- Whence an action came: for each kind of action of document 01's second table, the event that it answers, who sent that event by
-- the table lent to the call, and every byte that it carries. t is that table, b the book lent, e the event's bytes. That no
-- action came otherwise is promised of every history. Assumes nothing.
use Rattle.std.specs.Prelude.{ℕ, ◌+◌, ◌<◌, ◌≡◌, true, false, not, ◌&&◌, ◌≢◌, List, [], ◌++◌, length}
use Rattle.terms.specs.Base.{Bytes}
use Rattle.terms.specs.Names.{folded, sound_book}
use Rattle.fields.specs.Table.{tenant, selected, opens, row, tabs, last, most_opens, view, used, owner_at, process_with}
use Rattle.fields.specs.Table.{live_tabs, waits}
use Rattle.fields.specs.declared.mark.Mark.TheVariants.{Cookie, Document}
use Rattle.rules.specs.Rule.Frame.{be, Frame, framed, bytes}
use Rattle.rules.specs.Rule.Desk.{process_at, suffix_at, new_id, TabAt}
use Rattle.rules.specs.Rule.Allow.{cookie_domain, socket_allowed, is_url}
use Rattle.rules.specs.Rule.Seat.{acceptable, plain}
use Rattle.rules.specs.Rule.Call.{Call, table, book, event, actions, Past, Every, kinds_apart}

-- ---- from a seat that is let

-- it opened x, and the book, the tabs and the opens allow it
pub record Opening (t b e : List ℕ) (s : ℕ) (x : List ℕ) : Type 0 where
  pub event= : e ≡ bytes (framed 1 s 3 x)
  pub is_let : view t (tenant s) ≢ 0
  pub book : sound_book b ≡ true
  pub suffix : acceptable b x ≡ true
  pub few : live_tabs (view t) s < 10
  pub fresh : view t (opens s) < most_opens

-- it pressed a key, or moved its mouse, and tab i is the one in slot k
pub record Pressing (t e : List ℕ) (s code k i : ℕ) : Type 0 where
  pub event= : e ≡ bytes (framed 1 s 1 (be 1 code))
  pub is_let : view t (tenant s) ≢ 0
  pub tab : TabAt t i s k

pub record Pointing (t e : List ℕ) (s : ℕ) (x : List ℕ) (k i : ℕ) : Type 0 where
  pub event= : e ≡ bytes (framed 1 s 2 x)
  pub four : length x ≡ 4
  pub is_let : view t (tenant s) ≢ 0
  pub tab : TabAt t i s k

-- ---- from a live tab: i, in slot k of seat s

pub record Asking (t e : List ℕ) (i s k tag : ℕ) (x : List ℕ) : Type 0 where
  pub event= : e ≡ bytes (framed 2 i tag x)
  pub tab : TabAt t i s k

-- a store's payload
abbrev pub storing : List ℕ → List ℕ → List ℕ
storing domain x = be 1 (length domain) ++ (domain ++ x)

-- it was denied what it asked for
pub data Denied (t e : List ℕ) (i s k : ℕ) : Type 0 where
  no_socket : (port : ℕ) (host : List ℕ) → Asking t e i s k 2 (be 2 port ++ host) → port < 65536
      → socket_allowed port host (suffix_at t s k) ≡ false → Denied t e i s k
  no_url : (u : List ℕ) → Asking t e i s k 3 u → is_url u && not (waits (view t) s k Document) ≡ false → Denied t e i s k
  no_store : (domain x : List ℕ) → Asking t e i s k 4 (storing domain x) → length domain < 256
      → cookie_domain domain (suffix_at t s k) ≡ false → Denied t e i s k
  no_retrieve : (domain : List ℕ) → Asking t e i s k 5 domain
      → cookie_domain domain (suffix_at t s k) && not (waits (view t) s k Cookie) ≡ false → Denied t e i s k

-- ---- from a live process, or the network, to a live tab

-- the process of number n is live, and the tab in slot k of seat s hangs on it
pub record HangsOn (t : List ℕ) (s k n : ℕ) : Type 0 where
  pub used= : used (view t) (view t (row s k)) ≡ true
  pub number= : process_at t s k ≡ n

pub record Bringing (t e : List ℕ) (party n i s k : ℕ) (x : List ℕ) : Type 0 where
  pub event= : e ≡ bytes (framed party n 1 (be 4 i ++ x))
  pub tab : TabAt t i s k

-- ---- every kind of action

pub data Whence (t b e : List ℕ) : Frame → Type 0 where
  -- to 1, a seat's screen: the suffix typed, the suffix of the tab that F1 to F10 selects, or nothing after F12
  bar_opened : (s : ℕ) (x : List ℕ) → Opening t b e s x → Whence t b e (framed 1 s 1 (folded x))
  bar_selected : (s k i : ℕ) → Pressing t e s (k + 13) k i → Whence t b e (framed 1 s 1 (suffix_at t s k))
  bar_closed : (s i : ℕ) → Pressing t e s 25 (view t (selected s)) i → Whence t b e (framed 1 s 1 [])
  -- and what the selected tab displays
  paint : (i s k : ℕ) (x : List ℕ) → Asking t e i s k 1 x → length x ≡ 12 → view t (selected s) ≡ k
      → Whence t b e (framed 1 s 2 x)
  -- to 2, a tab: what was typed for a new one; F1 to F10 for the one selected; keys and mouse for the seat's selected one
  go : (s : ℕ) (x : List ℕ) → Opening t b e s x → Whence t b e (framed 2 (new_id (view t) s) 1 (folded x))
  render : (s k i : ℕ) → Pressing t e s (k + 13) k i → Whence t b e (framed 2 i 2 [])
  key : (s code i : ℕ) → Pressing t e s code (view t (selected s)) i → plain code ≡ true
      → Whence t b e (framed 2 i 3 (be 1 code))
  mouse : (s : ℕ) (x : List ℕ) (i : ℕ) → Pointing t e s x (view t (selected s)) i → Whence t b e (framed 2 i 4 x)
  -- an error for the tab that was denied, what the network brings for it, and what the process that it hangs on gives
  error : (i s k : ℕ) → Denied t e i s k → Whence t b e (framed 2 i 5 [])
  document : (i s k : ℕ) (x : List ℕ) → Bringing t e 4 0 i s k x → waits (view t) s k Document ≡ true
      → Whence t b e (framed 2 i 6 x)
  cookie : (n i s k : ℕ) (x : List ℕ) → Bringing t e 3 n i s k x → HangsOn t s k n → waits (view t) s k Cookie ≡ true
      → Whence t b e (framed 2 i 7 x)
  -- to 3, the process that the tab hangs on: the domain folded, the cookie as it came
  set : (n i s k : ℕ) (domain x : List ℕ) → Asking t e i s k 4 (storing domain x) → HangsOn t s k n
      → cookie_domain domain (suffix_at t s k) ≡ true
      → Whence t b e (framed 3 n 1 (be 1 (length domain) ++ (folded domain ++ x)))
  get : (n i s k : ℕ) (domain : List ℕ) → Asking t e i s k 5 domain → HangsOn t s k n
      → cookie_domain domain (suffix_at t s k) ≡ true → waits (view t) s k Cookie ≡ false
      → Whence t b e (framed 3 n 2 (be 4 i ++ folded domain))
  -- to 4, the network
  fetch : (i s k : ℕ) (u : List ℕ) → Asking t e i s k 3 u → is_url u ≡ true → waits (view t) s k Document ≡ false
      → Whence t b e (framed 4 i 1 u)
  -- to 5, the host: a process is started only where the owner has none of this suffix, and stopped with its last tab
  starts_tab : (s : ℕ) (x : List ℕ) → Opening t b e s x → Whence t b e (framed 5 (new_id (view t) s) 1 [])
  stops_tab : (s i : ℕ) → Pressing t e s 25 (view t (selected s)) i → Whence t b e (framed 5 i 2 [])
  starts_process : (s : ℕ) (x : List ℕ) → Opening t b e s x → process_with (view t) (owner_at (view t) s) x ≡ 0
      → Whence t b e (framed 5 (view t last + 1) 3 (be 1 (owner_at (view t) s) ++ folded x))
  stops_process : (s i n : ℕ) → Pressing t e s 25 (view t (selected s)) i → HangsOn t s (view t (selected s)) n
      → view t (tabs (view t (row s (view t (selected s))))) ≡ 1 → Whence t b e (framed 5 n 4 [])
  socket : (i s k port : ℕ) (host : List ℕ) → Asking t e i s k 2 (be 2 port ++ host) → port < 65536
      → socket_allowed port host (suffix_at t s k) ≡ true → Whence t b e (framed 5 i 5 (be 2 port ++ folded host))

-- ---- in every history

-- Every action of every call came so. (An event is bytes: what the calls are lent is nothing else.)
abbrev pub Whences : List Call → Type 0
Whences cs =
    (c : Call) (earlier : List Call) → Past c earlier cs → Bytes (event c)
    → Every (Whence (table c) (book c) (event c)) (actions c)

-- No call gives two actions of one kind.
abbrev pub Lone : List Call → Type 0
Lone cs = (c : Call) (earlier : List Call) → Past c earlier cs → kinds_apart (actions c) ≡ true
