-- The order book's bytes, document 01, "Order book": the trailer, the orders and the listed names as lists, soundness.
-- Soundness and every reading speak of the decoded lists, not of offsets. Assumes nothing.
use Rattle.std.specs.Prelude.{ℕ, zero, suc, ◌+◌, ◌*◌, ◌-◌, Bool, ◌&&◌, List, [], ◌∷◌, length, get_or, take, drop, eqb}
use Rattle.terms.specs.Base.{within}
use Rattle.terms.specs.Rule.Num.{num}
use Rattle.terms.specs.Rule.Order.{sound_orders, letting_of, tenant_of, options_of, owner_of}
use Rattle.terms.specs.Rule.Listed.{sound_names}
use Rattle.terms.specs.declared.order.Order.{Order}

-- "the last 8 bytes", "Orders of 3 bytes": how many bytes a trailer and an order have; each is its number everywhere
abbrev pub trailer_size : ℕ
trailer_size = 8

abbrev pub order_size : ℕ
order_size = 3

-- "the trailer, which is the last 8 bytes": where it begins, and its fields in their order
unfoldable pub trailer : List ℕ → ℕ
trailer b = length b - trailer_size

unfoldable pub orders_at : List ℕ → ℕ
orders_at b = num b (trailer b) 2

unfoldable pub orders_count : List ℕ → ℕ
orders_count b = get_or b (trailer b + 2) 0

unfoldable pub book_form : List ℕ → ℕ
book_form b = get_or b (trailer b + 3) 0

unfoldable pub names_at : List ℕ → ℕ
names_at b = num b (trailer b + 4) 2

unfoldable pub names_count : List ℕ → ℕ
names_count b = num b (trailer b + 6) 2

-- "Orders of 3 bytes (seat, tenant, separate)", the last being its options: the order at a place, and the k orders from a place on
unfoldable pub order_at : List ℕ → ℕ → Order
order_at b at = record { seat = get_or b at 0; tenant = get_or b (at + 1) 0; options = get_or b (at + 2) 0 }

unfoldable pub orders_from : List ℕ → ℕ → ℕ → List Order
orders_from b at zero = []
orders_from b at (suc k) = order_at b at ∷ orders_from b (at + order_size) k

-- "listed names (length byte, folded name ..)": the name at a place, and the place after it
unfoldable pub name_at : List ℕ → ℕ → List ℕ
name_at b at = take (get_or b at 0) (drop (at + 1) b)

unfoldable pub next_at : List ℕ → ℕ → ℕ
next_at b at = at + 1 + get_or b at 0

-- the k names from a place on, and the place after them
unfoldable pub names_from : List ℕ → ℕ → ℕ → List (List ℕ)
names_from b at zero = []
names_from b at (suc k) = name_at b at ∷ names_from b (next_at b at) k

unfoldable pub end_from : List ℕ → ℕ → ℕ → ℕ
end_from b at zero = at
end_from b at (suc k) = end_from b (next_at b at) k

-- a book's orders, and its listed names
unfoldable pub orders : List ℕ → List Order
orders b = orders_from b 0 (orders_count b)

unfoldable pub listed : List ℕ → List (List ℕ)
listed b = names_from b (names_at b) (names_count b)

-- "zero (1)": this byte says a book's form, and there is one
unfoldable pub legal_form : ℕ → Bool
legal_form x = eqb x 0

-- "parts adjoin with no gap": the names begin where the orders end, and end where the next part begins
unfoldable pub adjoins : List ℕ → ℕ → Bool
adjoins b until = eqb (names_at b) (order_size * orders_count b) && eqb (end_from b (names_at b) (names_count b)) until

-- "8 to 32,768 bytes; any other length is unsound"; "offset of orders (2 bytes, 0)"; and "Sound: ..", the trailer behind the names
unfoldable pub sound_book : List ℕ → Bool
sound_book b =
    within 8 32768 (length b) && eqb (orders_at b) 0 && legal_form (book_form b) && adjoins b (trailer b)
    && sound_orders (orders b) && sound_names (listed b)

-- whose cookies a seat has, as a book orders it; 0 for a seat that is not let
unfoldable pub owner_by : List ℕ → ℕ → ℕ
owner_by b s = owner_of s (tenant_of (letting_of s (orders b))) (options_of (letting_of s (orders b)))
