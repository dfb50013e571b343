-- What is read of an event lies in its bytes: a part that a line names is a part of the payload. Assumes nothing.
use Rattle.std.specs.Prelude.{◌≡◌, List, ℕ, ◌+◌, ◌≤◌, length, get_or, Some}
use Rattle.std.proofs.Common.{arith}
use Rattle.terms.specs.Base.{Bytes}
use Rattle.terms.specs.Laws.Num.{num_lt}
use Rattle.rules.specs.Rule.Event.{rest, field, delivered, reading_of}
use Rattle.rules.specs.Held.{PartIn, StoreIn, EventIn}
use Rattle.rules.specs.declared.event.Event.{Event}
use Rattle.rules.proofs.Laws.Line.{Sized, Line, key, mouse, opening, display, socket, url, store, retrieve, result}
use Rattle.rules.proofs.Laws.Line.{document, read_line}

pub rest_in : (e : List ℕ) (j : ℕ) → Sized e → 10 + j ≤ length e → PartIn e (rest e j)
unfolding rest
rest_in e j w h = (omega arith, omega arith)

store_in : (e : List ℕ) → Bytes e → Sized e → 11 + get_or e 10 0 ≤ length e
    → StoreIn e (field 1 (get_or e 10 0)) (rest e (1 + get_or e 10 0))
unfolding rest field
store_in e g w h =
    let n = g 10 in
    record { domain_in = (omega arith, omega arith); cookie_in = (omega arith, omega arith); both = omega arith; short = n }

socket_in : (e : List ℕ) → Sized e → 12 ≤ length e → 2 + (rest e 2).len ≤ 4096
unfolding rest
socket_in e w h = omega arith

line_in : (e : List ℕ) → Bytes e → {v : Event} → Line e v → EventIn e v
unfolding delivered
line_in e g (key h l) = tt
line_in e g (mouse h l) = rest_in e 0 h.sized h.sized.long
line_in e g (opening h) = rest_in e 0 h.sized h.sized.long
line_in e g (display h l) = rest_in e 0 h.sized h.sized.long
line_in e g (socket h l) = (rest_in e 2 h.sized l, socket_in e h.sized l, num_lt e 10 2 g)
line_in e g (url h) = rest_in e 0 h.sized h.sized.long
line_in e g (store h l) = store_in e g h.sized l
line_in e g (retrieve h) = rest_in e 0 h.sized h.sized.long
line_in e g (result h l) = rest_in e 4 h.sized l
line_in e g (document h l) = rest_in e 4 h.sized l

-- an event that is read lies in its bytes
pub reading_in : (e : List ℕ) (v : Event) → Bytes e → reading_of e ≡ Some v → EventIn e v
reading_in e v g h = line_in e g (read_line e v h)
