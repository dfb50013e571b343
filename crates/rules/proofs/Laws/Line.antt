-- An event that is read is a line of the document's table of events: its head is whole, its party and tag are the line's, and
-- its payload fits. Assumes nothing.
use Rattle.std.specs.Prelude.{◌≡◌, Bool, true, ◌&&◌, List, ℕ, ◌+◌, ◌-◌, ◌≤◌, length, eqb, leb, Option, Some, None}
use Rattle.std.proofs.Common.{subst, arith, leb-true, eqb-true}
use Rattle.std.proofs.Math.ListN.{get_or}
use Rattle.terms.specs.Laws.Bools.{and_left, and_right}
use Rattle.terms.specs.Names.{num}
use Rattle.rules.specs.Rule.Event.{sized, rest, field, when, from_seat, from_tab, delivered, sent_by, reading_of}
use Rattle.rules.specs.declared.event.Event.{Event}
use Rattle.rules.specs.declared.event.Event.TheVariants.{Seat, Tab, Process, Network}
use Rattle.rules.specs.declared.event.SeatMessage.TheVariants.{Key, Mouse, Open}
use Rattle.rules.specs.declared.event.TabMessage.TheVariants.{Display, Socket, Url, Store, Retrieve}
use Rattle.rules.proofs.Laws.Cases.{either}

-- ---- the head

-- 10 bytes of head and at most 4,096 of payload, as many as the size says
pub record Sized (e : List ℕ) : Type 0 where
  pub long : 10 ≤ length e
  pub small : length e ≤ 4106
  pub present : num e 6 4 ≡ length e - 10

pub record Head (e : List ℕ) (party tag : ℕ) : Type 0 where
  pub sized : Sized e
  pub party= : get_or e 0 0 ≡ party
  pub tag= : get_or e 5 0 ≡ tag

pub sized_facts : (e : List ℕ) → sized e ≡ true → Sized e
unfolding sized
sized_facts e h =
    let a = leb 10 (length e) in
    let b = leb (num e 6 4) 4096 in
    let d = eqb (num e 6 4) (length e - 10) in
    let f = and_left (a && b) d h in
    let long = leb-true 10 (length e) (and_left a b f) in
    let fits = leb-true (num e 6 4) 4096 (and_right a b f) in
    let there = eqb-true (num e 6 4) (length e - 10) (and_right (a && b) d h) in
    record { long = long; small = omega arith; present = there }

-- ---- the lines

pub data Line (e : List ℕ) : Event → Type 0 where
  key : Head e 1 1 → length e ≡ 11 → Line e (Seat (num e 1 4) (Key (get_or e 10 0)))
  mouse : Head e 1 2 → length e ≡ 14 → Line e (Seat (num e 1 4) (Mouse (rest e 0)))
  opening : Head e 1 3 → Line e (Seat (num e 1 4) (Open (rest e 0)))
  display : Head e 2 1 → length e ≡ 22 → Line e (Tab (num e 1 4) (Display (rest e 0)))
  socket : Head e 2 2 → 12 ≤ length e → Line e (Tab (num e 1 4) (Socket (num e 10 2) (rest e 2)))
  url : Head e 2 3 → Line e (Tab (num e 1 4) (Url (rest e 0)))
  store : Head e 2 4 → 11 + get_or e 10 0 ≤ length e
      → Line e (Tab (num e 1 4) (Store (field 1 (get_or e 10 0)) (rest e (1 + get_or e 10 0))))
  retrieve : Head e 2 5 → Line e (Tab (num e 1 4) (Retrieve (rest e 0)))
  result : Head e 3 1 → 14 ≤ length e → Line e (Process (num e 1 4) (delivered e))
  document : Head e 4 1 → 14 ≤ length e → Line e (Network (num e 1 4) (delivered e))

-- what a reading gives is a line
abbrev Lined : List ℕ → Option Event → Type 0
Lined e (Some v) = Line e v
Lined e None = Unit {0}

when_lined : (e : List ℕ) (fits : Bool) (v : Event) → (fits ≡ true → Line e v) → Lined e (when fits v)
unfolding when
when_lined e fits v f = either (Lined e) fits (Some v) None f (λ _. tt)

module _ (e : List ℕ) (w : Sized e) where
  head : (p t : ℕ) → get_or e 0 0 ≡ p → eqb (get_or e 5 0) t ≡ true → Head e p t
  head p t h k = record { sized = w; party= = h; tag= = eqb-true (get_or e 5 0) t k }

  exact : (n m : ℕ) → eqb (length e - 10) n ≡ true → m ≡ 10 + n → length e ≡ m
  exact n m h k = let a = eqb-true (length e - 10) n h in omega arith

  least : (n m : ℕ) → leb n (length e - 10) ≡ true → m ≡ 10 + n → m ≤ length e
  least n m h k = let a = leb-true n (length e - 10) h in omega arith

  from_seat_lem : get_or e 0 0 ≡ 1 → Lined e (from_seat e (length e - 10) (num e 1 4) (get_or e 5 0))
  unfolding from_seat
  from_seat_lem p =
      let tag = get_or e 5 0 in
      either (Lined e) (eqb tag 1) _ _
      (λ h. when_lined e _ _ (λ l. key (head 1 1 p h) (exact 1 11 l (omega arith))))
      (λ _. either (Lined e) (eqb tag 2) _ _
      (λ h. when_lined e _ _ (λ l. mouse (head 1 2 p h) (exact 4 14 l (omega arith))))
      (λ _. either (Lined e) (eqb tag 3) _ _ (λ h. opening (head 1 3 p h)) (λ _. tt)))

  from_a_tab : get_or e 0 0 ≡ 2 → Lined e (from_tab e (length e - 10) (num e 1 4) (get_or e 5 0))
  unfolding from_tab
  from_a_tab p =
      let tag = get_or e 5 0 in
      let n = get_or e 10 0 in
      either (Lined e) (eqb tag 1) _ _
      (λ h. when_lined e _ _ (λ l. display (head 2 1 p h) (exact 12 22 l (omega arith))))
      (λ _. either (Lined e) (eqb tag 2) _ _
      (λ h. when_lined e _ _ (λ l. socket (head 2 2 p h) (least 2 12 l (omega arith))))
      (λ _. either (Lined e) (eqb tag 3) _ _ (λ h. url (head 2 3 p h))
      (λ _. either (Lined e) (eqb tag 4) _ _
      (λ h. when_lined e _ _ (λ l. store (head 2 4 p h) (least (1 + n) (11 + n) l (omega arith))))
      (λ _. either (Lined e) (eqb tag 5) _ _ (λ h. retrieve (head 2 5 p h)) (λ _. tt)))))

  -- a result's or a document's tag, and 4 bytes at least
  fit : (p : ℕ) → get_or e 0 0 ≡ p → eqb (get_or e 5 0) 1 && leb 4 (length e - 10) ≡ true → (Head e p 1) × (14 ≤ length e)
  fit p h k =
      let a = eqb (get_or e 5 0) 1 in
      let b = leb 4 (length e - 10) in
      (head p 1 h (and_left a b k), least 4 14 (and_right a b k) (omega arith))

  sent : Lined e (sent_by e (length e - 10) (get_or e 0 0) (num e 1 4) (get_or e 5 0))
  unfolding sent_by
  sent =
      let party = get_or e 0 0 in
      either (Lined e) (eqb party 1) _ _ (λ h. from_seat_lem (eqb-true party 1 h))
      (λ _. either (Lined e) (eqb party 2) _ _ (λ h. from_a_tab (eqb-true party 2 h))
      (λ _. either (Lined e) (eqb party 3) _ _
      (λ h. when_lined e _ _ (λ l. let f = fit 3 (eqb-true party 3 h) l in result f.0 f.1))
      (λ _. either (Lined e) (eqb party 4) _ _
      (λ h. when_lined e _ _ (λ l. let f = fit 4 (eqb-true party 4 h) l in document f.0 f.1)) (λ _. tt))))

read_lined : (e : List ℕ) → Lined e (reading_of e)
unfolding reading_of
read_lined e = either (Lined e) (sized e) _ _ (λ h. sent e (sized_facts e h)) (λ _. tt)

pub read_line : (e : List ℕ) (v : Event) → reading_of e ≡ Some v → Line e v
read_line e v h = subst (Lined e) h (read_lined e)
