-- What a rule sees and what it answers. A rule looks at one seat's desk; it answers a number, actions, and what becomes of the
-- seat's tabs. Assumes nothing.
use Rattle.std.specs.Prelude.{ℕ, ◌+◌, ◌≡◌, Bool, true, List, [], eqb, Some}
use Rattle.fields.specs.Table.{View, view, selected, opens, serial, row, number, tabs, last, most_opens, tab_id, live, owner_at}
use Rattle.fields.specs.Table.{name_of, placed, tab_of, process_with, live_tabs, waits, opened, picked, closed, marked, unmarked}
use Rattle.fields.specs.declared.mark.Mark.{Mark}
use Rattle.rules.specs.Rule.Frame.{Frame}

-- ---- tabs of a table

-- of the tab in slot k of seat s: its id, its process's number and its process's suffix
abbrev pub id_at : List ℕ → ℕ → ℕ → ℕ
id_at t s k = tab_id s (view t (serial s k))

abbrev pub process_at : List ℕ → ℕ → ℕ → ℕ
process_at t s k = view t (number (view t (row s k)))

abbrev pub suffix_at : List ℕ → ℕ → ℕ → List ℕ
suffix_at t s k = name_of (view t) (view t (row s k))

-- the tab of an id is the live one in slot k of seat s
pub record TabAt (t : List ℕ) (i s k : ℕ) : Type 0 where
  pub place : tab_of (view t) i ≡ Some (placed s k)
  pub there : live (view t) s k ≡ true
  pub id : id_at t s k ≡ i

-- "opens + 1 becomes the serial": the id that the next tab of a seat gets
abbrev pub new_id : View → ℕ → ℕ
new_id v s = tab_id s (v (opens s) + 1)

-- ---- a desk

pub record Desk : Type 0 where
  pub seat : ℕ
  pub owner : ℕ
  -- the selected slot, 0 for none
  pub chosen : ℕ
  -- how many tabs are live, whether the seat has opened as many as it can, and the id that the next one gets
  pub tab_count : ℕ
  pub spent : Bool
  pub next_id : ℕ
  -- of the tab in a slot: whether it is live, its id, what it waits for, and its process's suffix and number
  pub live : ℕ → Bool
  pub id : ℕ → ℕ
  pub waits : ℕ → Mark → Bool
  pub suffix : ℕ → List ℕ
  pub process : ℕ → ℕ
  -- "if it was the last tab" of its process
  pub last_tab : ℕ → Bool
  -- "If no live process has this owner and suffix"
  pub new : List ℕ → Bool
  -- "last number + 1"
  pub next : ℕ

-- the desk of a seat of a table
unfoldable pub desk : View → ℕ → Desk
desk v s =
    record {
      seat = s;
      owner = owner_at v s;
      chosen = v (selected s);
      tab_count = live_tabs v s;
      spent = eqb (v (opens s)) most_opens;
      next_id = new_id v s;
      live = λ k. live v s k;
      id = λ k. tab_id s (v (serial s k));
      waits = λ k m. waits v s k m;
      suffix = λ k. name_of v (v (row s k));
      process = λ k. v (number (v (row s k)));
      last_tab = λ k. eqb (v (tabs (v (row s k)))) 1;
      new = λ x. eqb (process_with v (owner_at v s) x) 0;
      next = v last + 1;
    }

abbrev pub desk_at : List ℕ → ℕ → Desk
desk_at t s = desk (view t) s

-- ---- a reply

-- what becomes of a seat's tabs: nothing; a tab with this suffix; the tab in this slot is selected; the selected one is
-- closed; the tab in this slot waits from now on, or no more
pub data Change : Type 0 where
  stay : Change
  open_tab : List ℕ → Change
  select_tab : ℕ → Change
  close_tab : Change
  set_mark clear_mark : ℕ → Mark → Change

unfoldable pub changed : List ℕ → ℕ → Change → List ℕ
changed t s stay = t
changed t s (open_tab x) = opened t s x
changed t s (select_tab k) = picked t s k
changed t s close_tab = closed t s
changed t s (set_mark k m) = marked t s k m
changed t s (clear_mark k m) = unmarked t s k m

pub record Reply : Type 0 where
  pub number : ℕ
  pub actions : List Frame
  pub change : Change

-- "A refusal reports both counts 0" and changes nothing
unfoldable pub refuse : ℕ → Reply
refuse n = record { number = n; actions = []; change = stay }

-- "0 is done"
unfoldable pub reply : List Frame → Change → Reply
reply l c = record { number = 0; actions = l; change = c }
