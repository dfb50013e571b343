-- Equations and steps that src/order.rt and names/src/orders.rt go by. Assumes nothing.
use Rattle.std.specs.Prelude.{Option, Some, None, ◌≡◌, refl, Bool, true, ◌&&◌, cond, List, [], ◌∷◌, ℕ, suc, ◌+◌, ◌*◌, ◌-◌, ◌%◌, ◌≤◌, ◌<◌, get_or, leb, ltb, eqb, zero}
use Rattle.std.proofs.Common.{arith, lt-ltb, ◌∙◌, eq-eqb, ne_eqb}
use Rattle.terms.specs.Base.{within, every, rising}
use Rattle.terms.specs.Rule.Order.{most_options, legal_options, is_separate, is_order, seat_before, sound_orders, letting_of, owner_of}
use Rattle.terms.specs.Rule.Book.{order_size, order_at, orders_from}
use Rattle.terms.specs.Laws.Order.{order_parts}
use Rattle.terms.specs.Laws.Lists.{rising_step, rising_bottom}
use Rattle.terms.specs.declared.order.Order.{Order}
use Rattle.terms.specs.declared.order.Letting.{Letting}

pub legal_options_is : (x : ℕ) → legal_options x ≡ leb x most_options
unfolding legal_options
legal_options_is x = refl

pub separate_is : (x : ℕ) → is_separate x ≡ eqb (x % 2) 1
unfolding is_separate
separate_is x = refl

pub owner_is : (seat tenant options : ℕ) → owner_of seat tenant options ≡ cond (is_separate options) (100 + seat) tenant
unfolding owner_of
owner_is seat tenant options = refl

pub order_is : (o : Order) → is_order o ≡ within 1 8 o.seat && within 1 99 o.tenant && legal_options o.options
unfolding is_order
order_is o = refl

pub order_at_is : (b : List ℕ) (at : ℕ)
    → order_at b at ≡ record { seat = get_or b at 0; tenant = get_or b (at + 1) 0; options = get_or b (at + 2) 0 }
unfolding order_at
order_at_is b at = refl

-- ---- the orders that are left after the first i

orders_more : (b : List ℕ) (i n : ℕ) → i < n
    → orders_from b (order_size * i) (n - i) ≡ order_at b (order_size * i) ∷ orders_from b (order_size * (i + 1)) (n - (i + 1))
unfolding orders_from
orders_more b i n h =
    let k : n - i ≡ suc (n - (i + 1)) = omega arith in
    let a : order_size * (i + 1) ≡ order_size * i + order_size = omega arith in
    rw (k, a)

orders_end : (b : List ℕ) (i n : ℕ) → n ≤ i → orders_from b (order_size * i) (n - i) ≡ []
unfolding orders_from
orders_end b i n h = let k : n - i ≡ 0 = omega arith in rw k

-- they are sound after an order of a seat
after : ℕ → Order
after s = record { seat = s; tenant = 0; options = 0 }

pub chain : List ℕ → ℕ → ℕ → ℕ → Bool
chain b s i n =
    every is_order (orders_from b (order_size * i) (n - i)) && rising seat_before (after s ∷ orders_from b (order_size * i) (n - i))

seat_above : (o : Order) → is_order o ≡ true → seat_before (after 0) o ≡ true
unfolding seat_before after
seat_above o e = let l = (order_parts o e).seat.low in lt-ltb 0 o.seat (omega arith)

pub chain_start : (b : List ℕ) (n : ℕ) → sound_orders (orders_from b 0 n) ≡ chain b 0 0 n
unfolding sound_orders chain
chain_start b n = let e : n - 0 ≡ n = omega arith in rw e (rising_bottom is_order seat_before (after 0) seat_above (orders_from b 0 n))

-- only the seat of the order before counts
after_seat : (o : Order) (os : List Order) → rising seat_before (o ∷ os) ≡ rising seat_before (after o.seat ∷ os)
unfolding rising seat_before after
after_seat o [] = refl
after_seat o (p ∷ os) = refl

pub chain_more : (b : List ℕ) (s i n : ℕ) → i < n
    → chain b s i n
    ≡ is_order (order_at b (order_size * i)) && ltb s (order_at b (order_size * i)).seat
    && chain b (order_at b (order_size * i)).seat (i + 1) n
unfolding chain seat_before after
chain_more b s i n h =
    let o = order_at b (order_size * i) in
    let os = orders_from b (order_size * (i + 1)) (n - (i + 1)) in
    rw (orders_more b i n h, ← after_seat o os) (rising_step is_order seat_before (after s) o os)

pub chain_end : (b : List ℕ) (s i n : ℕ) → n ≤ i → chain b s i n ≡ true
unfolding chain every rising
chain_end b s i n h = rw (orders_end b i n h)

pub ruleset chained = (chain_start, chain_more, chain_end)

-- what they say of a seat
pub said : List ℕ → ℕ → ℕ → ℕ → Option Letting
said b seat i n = letting_of seat (orders_from b (order_size * i) (n - i))

pub said_start : (b : List ℕ) (seat n : ℕ) → letting_of seat (orders_from b 0 n) ≡ said b seat 0 n
unfolding said
said_start b seat n = let e : n - 0 ≡ n = omega arith in rw e

pub said_more : (b : List ℕ) (seat i n : ℕ) → i < n
    → said b seat i n
    ≡ cond (eqb (order_at b (order_size * i)).seat seat)
    (Some (record { tenant = (order_at b (order_size * i)).tenant; options = (order_at b (order_size * i)).options }))
    (said b seat (i + 1) n)
unfolding said letting_of
said_more b seat i n h = rw (orders_more b i n h)

pub said_end : (b : List ℕ) (seat i n : ℕ) → n ≤ i → said b seat i n ≡ None
unfolding said letting_of
said_end b seat i n h = rw (orders_end b i n h)

pub ruleset saying = (said_start, said_more, said_end)

-- ---- what the k orders from a place on say of a seat

pub letting_step : (b : List ℕ) (seat at k : ℕ) → 0 < k
    → letting_of seat (orders_from b at k)
    ≡ cond (eqb (order_at b at).seat seat) (Some (record { tenant = (order_at b at).tenant; options = (order_at b at).options }))
    (letting_of seat (orders_from b (at + order_size) (k - 1)))
unfolding letting_of orders_from
letting_step b seat at zero h = absurd (omega arith)
letting_step b seat at (suc k) h = let e : suc k - 1 ≡ k = omega arith in rw e

-- the first of them, once it is read, is the seat's, or is passed by
pub letting_found : (b : List ℕ) (seat at k : ℕ) {o : Order} → 0 < k → o ≡ order_at b at → o.seat ≡ seat
    → letting_of seat (orders_from b at k) ≡ Some (record { tenant = o.tenant; options = o.options })
letting_found b seat at k {o} h e q = letting_step b seat at k h ∙ rw (← e, eq-eqb o.seat seat q)

pub letting_passed : (b : List ℕ) (seat at k : ℕ) {o : Order} → 0 < k → o ≡ order_at b at → (o.seat ≡ seat → ⊥)
    → letting_of seat (orders_from b at k) ≡ letting_of seat (orders_from b (at + order_size) (k - 1))
letting_passed b seat at k {o} h e n = letting_step b seat at k h ∙ rw (← e, ne_eqb o.seat seat n)

pub letting_end : (b : List ℕ) (seat at k : ℕ) → k ≤ 0 → letting_of seat (orders_from b at k) ≡ None
unfolding letting_of orders_from
letting_end b seat at zero h = refl
letting_end b seat at (suc k) h = absurd (omega arith)
