-- The definitions of events/src/lib.rt as the code asks them. Assumes nothing.
use Rattle.std.specs.Prelude.{◌≡◌, refl, true, cond, ◌&&◌, List, ℕ, ◌+◌, ◌-◌, ◌≤◌, length, get_or, eqb, leb, Some, None}
use borrow.Author.Tests.{leb-true}
use Rattle.terms.specs.Laws.Bools.{and_left}
use Rattle.terms.specs.Names.{num}
use Rattle.rules.specs.Rule.Event.{sized, rest, field, when, from_seat, from_tab, delivered, sent_by, reading_of}
use Rattle.rules.specs.declared.event.SeatMessage.TheVariants.{Key, Mouse, Open}
use Rattle.rules.specs.declared.event.TabMessage.TheVariants.{Display, Socket, Url, Store, Retrieve}
use Rattle.rules.specs.declared.event.Event.TheVariants.{Seat, Tab, Process, Network}

-- ---- the size

pub sized_is : (e : List ℕ) → sized e ≡ leb 10 (length e) && leb (num e 6 4) 4096 && eqb (num e 6 4) (length e - 10)
unfolding sized
sized_is e = refl

-- sized bytes have a head
pub sized_head : (e : List ℕ) → sized e ≡ true → 10 ≤ length e
unfolding sized
sized_head e h =
    let a = leb 10 (length e) in
    let b = leb (num e 6 4) 4096 in
    leb-true 10 (length e) (and_left a b (and_left (a && b) (eqb (num e 6 4) (length e - 10)) h))

-- ---- parts

pub rest_is : (e : List ℕ) (j : ℕ) → rest e j ≡ record { at = 10 + j; len = length e - (10 + j) }
unfolding rest
rest_is e j = refl

pub delivered_is : (e : List ℕ) → delivered e ≡ record { tab = num e 10 4; body = rest e 4 }
unfolding delivered
delivered_is e = refl

-- ---- an event

pub seat_is : (e : List ℕ) (n s tag : ℕ)
    → from_seat e n s tag
    ≡ cond (eqb tag 1) (cond (eqb n 1) (Some (Seat s (Key (get_or e 10 0)))) None)
    (cond (eqb tag 2) (cond (eqb n 4) (Some (Seat s (Mouse (rest e 0)))) None)
    (cond (eqb tag 3) (Some (Seat s (Open (rest e 0)))) None))
unfolding from_seat when
seat_is e n s tag = refl

pub tab_is : (e : List ℕ) (n i tag : ℕ)
    → from_tab e n i tag
    ≡ cond (eqb tag 1) (cond (eqb n 12) (Some (Tab i (Display (rest e 0)))) None)
    (cond (eqb tag 2) (from_tab e n i 2)
    (cond (eqb tag 3) (Some (Tab i (Url (rest e 0))))
    (cond (eqb tag 4) (from_tab e n i 4) (cond (eqb tag 5) (Some (Tab i (Retrieve (rest e 0)))) None))))
unfolding from_tab when
tab_is e n i tag = refl

pub socket_is : (e : List ℕ) (n i : ℕ)
    → from_tab e n i 2 ≡ cond (leb 2 n) (Some (Tab i (Socket (num e 10 2) (rest e 2)))) None
unfolding from_tab when
socket_is e n i = refl

pub store_is : (e : List ℕ) (n i : ℕ)
    → from_tab e n i 4
    ≡ cond (leb (1 + get_or e 10 0) n)
    (Some (Tab i (Store (record { at = 11; len = get_or e 10 0 }) (rest e (1 + get_or e 10 0))))) None
unfolding from_tab when field
store_is e n i = refl

pub sent_is : (e : List ℕ) (n party i tag : ℕ)
    → sent_by e n party i tag
    ≡ cond (eqb party 1) (from_seat e n i tag)
    (cond (eqb party 2) (from_tab e n i tag)
    (cond (eqb party 3) (cond (eqb tag 1 && leb 4 n) (Some (Process i (delivered e))) None)
    (cond (eqb party 4) (cond (eqb tag 1 && leb 4 n) (Some (Network i (delivered e))) None) None)))
unfolding sent_by when
sent_is e n party i tag = refl

pub reading_is : (e : List ℕ)
    → reading_of e ≡ cond (sized e) (sent_by e (length e - 10) (get_or e 0 0) (num e 1 4) (get_or e 5 0)) None
unfolding reading_of
reading_is e = refl
