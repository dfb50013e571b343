-- Orders, document 01, "Order book": what an order says, which orders are sound, a seat's letting and its owner.
-- Assumes nothing.
use Rattle.std.specs.Prelude.{Option, Some, None, ℕ, ◌+◌, ◌%◌, Bool, ◌&&◌, cond, List, [], ◌∷◌, leb, ltb, eqb}
use Rattle.terms.specs.Base.{within, every, rising}
use Rattle.terms.specs.declared.order.Order.{Order}
use Rattle.terms.specs.declared.order.Letting.{Letting}

-- "separate 0 or 1": the third byte of an order, and the second of a seat record, are options; the largest legal value
abbrev pub most_options : ℕ
most_options = 1

unfoldable pub legal_options : ℕ → Bool
legal_options x = leb x most_options

-- bit 0 of the options says separate
unfoldable pub is_separate : ℕ → Bool
is_separate x = eqb (x % 2) 1

-- "seats 1 to 8 ..; tenants 1 to 99; separate 0 or 1"
unfoldable pub is_order : Order → Bool
is_order o = within 1 8 o.seat && within 1 99 o.tenant && legal_options o.options

-- "seats .. strictly rising"
unfoldable pub seat_before : Order → Order → Bool
seat_before o p = ltb o.seat p.seat

unfoldable pub sound_orders : List Order → Bool
sound_orders os = every is_order os && rising seat_before os

-- what some orders say of a seat: how it is let, or that it is not
unfoldable pub letting_of : ℕ → List Order → Option Letting
letting_of s [] = None
letting_of s (o ∷ os) = cond (eqb o.seat s) (Some (record { tenant = o.tenant; options = o.options })) (letting_of s os)

-- the document's values for each case: "tenant (0 = not let, the whole record zero), separate"
unfoldable pub tenant_of : Option Letting → ℕ
tenant_of None = 0
tenant_of (Some l) = l.tenant

unfoldable pub options_of : Option Letting → ℕ
options_of None = 0
options_of (Some l) = l.options

-- "A seat's owner is 100 + seat if separate is 1, otherwise its tenant"
unfoldable pub owner_of : ℕ → ℕ → ℕ → ℕ
owner_of seat tenant options = cond (is_separate options) (100 + seat) tenant
