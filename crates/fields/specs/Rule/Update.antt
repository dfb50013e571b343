-- What the rules do to a table, document 01, "Rules of a step": each update is the fields it writes, in order. They are said of a
-- sound table and of a seat, tab or suffix as Asked has it. Assumes nothing.
use Rattle.std.specs.Prelude.{ℕ, zero, suc, ◌+◌, ◌-◌, ◌^◌, Bool, ◌||◌, cond, List, [], ◌∷◌, eqb, length, get_or}
use Rattle.terms.specs.Names.{folded}
use Rattle.fields.specs.Rule.View.{View, Field, selected, opens, slots, serial, row, waiting, number, owner, tabs, size}
use Rattle.fields.specs.Rule.View.{letter, last}
use Rattle.fields.specs.Rule.Layout.{view, write}
use Rattle.fields.specs.Rule.Word.{owner_at}
use Rattle.fields.specs.Rule.Find.{process_with, free_slot, free_process}
use Rattle.fields.specs.declared.mark.Mark.{Mark}
use Rattle.fields.specs.declared.mark.Mark.TheVariants.{Cookie, Document}

infix 68 ◌≔◌
-- a number for a field, or a name for a process row's 64 bytes
pub data Write : Type 0 where
  ◌≔◌ : Field → ℕ → Write
  name_of_row : ℕ → List ℕ → Write

-- "name in 64 bytes zero-filled": the first n of them written
unfoldable pub spelled : List ℕ → ℕ → List ℕ → ℕ → List ℕ
spelled t p name zero = t
spelled t p name (suc n) = write (spelled t p name n) (letter p (suc n)) (get_or name n 0)

unfoldable pub writes : List ℕ → List Write → List ℕ
writes t [] = t
writes t ((f ≔ x) ∷ ws) = writes (write t f x) ws
writes t (name_of_row p name ∷ ws) = writes (spelled t p name 64) ws

-- ---- open

-- "The tab row names that process row, with nothing waiting; opens, map and tab count follow"; "opens + 1 becomes the serial;
-- the tab is selected"
unfoldable pub hanging : View → ℕ → ℕ → ℕ → List Write
hanging v s k p =
    serial s k ≔ (v (opens s) + 1)
    ∷ row s k ≔ p
    ∷ waiting s k ≔ 0
    ∷ selected s ≔ k
    ∷ opens s ≔ (v (opens s) + 1)
    ∷ slots s ≔ (v (slots s) + 2 ^ (k - 1))
    ∷ tabs p ≔ (v (tabs p) + 1)
    ∷ []

unfoldable pub hung : List ℕ → ℕ → ℕ → ℕ → List ℕ
hung t s k p = writes t (hanging (view t) s k p)

-- ".. gets last number + 1 (the new last number), the owner and the folded suffix"
unfoldable pub making : View → ℕ → ℕ → List ℕ → List Write
making v p o suffix =
    number p ≔ (v last + 1)
    ∷ owner p ≔ o
    ∷ size p ≔ length suffix
    ∷ name_of_row p (folded suffix)
    ∷ last ≔ (v last + 1)
    ∷ []

unfoldable pub row_made : List ℕ → ℕ → ℕ → List ℕ → List ℕ
row_made t p o suffix = writes t (making (view t) p o suffix)

-- "If no live process has this owner and suffix, the lowest free process row gets .."; p is the row of the process that has, or 0
unfoldable pub opened_at : List ℕ → ℕ → ℕ → List ℕ → List ℕ
opened_at t s p suffix =
    cond (eqb p 0)
    (hung (row_made t (free_process (view t)) (owner_at (view t) s) suffix) s (free_slot (view t) s) (free_process (view t)))
    (hung t s (free_slot (view t) s) p)

unfoldable pub opened : List ℕ → ℕ → List ℕ → List ℕ
opened t s suffix = opened_at t s (process_with (view t) (owner_at (view t) s) suffix) suffix

-- ---- select, close

unfoldable pub picked : List ℕ → ℕ → ℕ → List ℕ
picked t s k = write t (selected s) k

-- "selection 0; the tab row and its map bit are cleared, the tab count falls by 1"
unfoldable pub unhanging : View → ℕ → ℕ → ℕ → List Write
unhanging v s k p =
    serial s k ≔ 0
    ∷ row s k ≔ 0
    ∷ waiting s k ≔ 0
    ∷ selected s ≔ 0
    ∷ slots s ≔ (v (slots s) - 2 ^ (k - 1))
    ∷ tabs p ≔ (v (tabs p) - 1)
    ∷ []

unfoldable pub unhung : List ℕ → ℕ → ℕ → ℕ → List ℕ
unhung t s k p = writes t (unhanging (view t) s k p)

unfoldable pub clearing : ℕ → List Write
clearing p = number p ≔ 0 ∷ owner p ≔ 0 ∷ tabs p ≔ 0 ∷ size p ≔ 0 ∷ name_of_row p [] ∷ []

unfoldable pub cleared : List ℕ → ℕ → List ℕ
cleared t p = writes t (clearing p)

-- ".. and a process row left without tabs is cleared": the tab in slot k hangs on row p
unfoldable pub closed_at : List ℕ → ℕ → ℕ → ℕ → List ℕ
closed_at t s k p = cond (eqb (view t (tabs p)) 1) (cleared (unhung t s k p) p) (unhung t s k p)

-- the selected tab is closed
unfoldable pub closed : List ℕ → ℕ → List ℕ
closed t s = closed_at t s (view t (selected s)) (view t (row s (view t (selected s))))

-- ---- waiting: "1 = cookie, 2 = document, 3 = both"

unfoldable pub weight : Mark → ℕ
weight Cookie = 1
weight Document = 2

unfoldable pub waits : View → ℕ → ℕ → Mark → Bool
waits v s k Cookie = eqb (v (waiting s k)) 1 || eqb (v (waiting s k)) 3
waits v s k Document = eqb (v (waiting s k)) 2 || eqb (v (waiting s k)) 3

unfoldable pub marked : List ℕ → ℕ → ℕ → Mark → List ℕ
marked t s k m = write t (waiting s k) (view t (waiting s k) + weight m)

unfoldable pub unmarked : List ℕ → ℕ → ℕ → Mark → List ℕ
unmarked t s k m = write t (waiting s k) (view t (waiting s k) - weight m)
