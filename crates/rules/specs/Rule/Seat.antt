-- The rules for what a seat sends, document 01, "Rules of a step": open, keys, mouse. Assumes nothing.
use Rattle.std.specs.Prelude.{ℕ, ◌-◌, Bool, not, ◌&&◌, ◌||◌, cond, List, [], ◌∷◌, ◌++◌, eqb}
use Rattle.terms.specs.Base.{within, alike}
use Rattle.terms.specs.Names.{folded, sound_book, suffix_of}
use Rattle.rules.specs.Rule.Frame.{Frame}
use Rattle.rules.specs.Rule.Event.{part}
use Rattle.rules.specs.Rule.Action.{bar, go, render, key, mouse, start_tab, stop_tab, start_process, stop_process}
use Rattle.rules.specs.Rule.Desk.{Desk, Reply, refuse, reply, stay, open_tab, select_tab, close_tab}
use Rattle.rules.specs.declared.event.SeatMessage.{SeatMessage}
use Rattle.rules.specs.declared.event.SeatMessage.TheVariants.{Key, Mouse, Open}

-- an action, or none
unfoldable pub only : Bool → Frame → List Frame
only t a = cond t (a ∷ []) []

-- ---- open

-- "The suffix must be such that its own suffix under the book is all of it."
unfoldable pub acceptable : List ℕ → List ℕ → Bool
acceptable b x = eqb (suffix_of x b).why 0 && alike (suffix_of x b).part x

-- "Actions: start process (only then), start tab, go, bar": i is the new tab's id
unfoldable pub open_actions : Desk → ℕ → List ℕ → List Frame
open_actions d i x =
    only (d.new x) (start_process d.next d.owner (folded x))
    ++ (start_tab i ∷ go i (folded x) ∷ bar d.seat (folded x) ∷ [])

-- refusals 6 to 9 in their order; "opens + 1 becomes the serial"
unfoldable pub open_rule : Desk → List ℕ → List ℕ → Reply
open_rule d b x =
    cond (not (sound_book b)) (refuse 6)
    (cond (not (acceptable b x)) (refuse 7)
    (cond (eqb d.tab_count 10) (refuse 8)
    (cond d.spent (refuse 9)
    (reply (open_actions d d.next_id x) (open_tab x)))))

-- ---- keys and mouse

-- "Key 14 to 23 (F1 to F10): a live slot is selected, with render and bar, even if already selected; otherwise no action."
unfoldable pub select_rule : Desk → ℕ → Reply
select_rule d k = cond (d.live k) (reply (render (d.id k) ∷ bar d.seat (d.suffix k) ∷ []) (select_tab k)) (reply [] stay)

-- "stop tab, stop process if it was the last tab, empty bar": of the tab in slot k
unfoldable pub close_actions : Desk → ℕ → List Frame
close_actions d k = stop_tab (d.id k) ∷ (only (d.last_tab k) (stop_process (d.process k)) ++ (bar d.seat [] ∷ []))

-- "Key 25 (F12): .. no action if none is selected."
unfoldable pub close_rule : Desk → Reply
close_rule d = cond (eqb d.chosen 0) (reply [] stay) (reply (close_actions d d.chosen) close_tab)

-- ".. go to the selected tab ..; none selected, no action": what goes to a tab of an id
unfoldable pub pass_rule : Desk → (ℕ → Frame) → Reply
pass_rule d a = cond (eqb d.chosen 0) (reply [] stay) (reply (a (d.id d.chosen) ∷ []) stay)

-- "Keys 8, 9, 10, 13, 32 to 126"
unfoldable pub plain : ℕ → Bool
plain k = within 8 10 k || eqb k 13 || within 32 126 k

-- 5: "a key code not named above"
unfoldable pub key_rule : Desk → ℕ → Reply
key_rule d k =
    cond (within 14 23 k) (select_rule d (k - 13))
    (cond (eqb k 25) (close_rule d)
    (cond (plain k) (pass_rule d (λ i. key i k)) (refuse 5)))

-- ---- a seat's message, its bytes being in e

unfoldable pub seat_rule : Desk → List ℕ → List ℕ → SeatMessage → Reply
seat_rule d b e (Key k) = key_rule d k
seat_rule d b e (Mouse p) = pass_rule d (λ i. mouse i (part e p))
seat_rule d b e (Open x) = open_rule d b (part e x)
