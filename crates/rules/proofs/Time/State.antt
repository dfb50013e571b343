-- What an event leaves alone: one that is not a seat's changes nothing but what the tab that it names waits for, and one of a seat
-- that is no control key changes nothing. Assumes nothing.
use Rattle.std.specs.Prelude.{ℕ, ◌+◌, ◌≤◌, ◌≡◌, refl, Bool, true, false, ◌≢◌, List, get_or}
use Rattle.std.proofs.Common.{sym, ap₂, ◌∙◌, ⊎_elim, arith, eq-eqb, ne_eqb}
use Rattle.std.proofs.lemmas.Bool.{false≢true}
use Rattle.terms.specs.Base.{Range}
use Rattle.terms.specs.Laws.Bools.{within_in}
use Rattle.fields.specs.Table.{View, Field, tenant, options, selected, seat_zero, opens, slots, serial, row, waiting, number}
use Rattle.fields.specs.Table.{owner, tabs, size, row_zero, letter, seats_at, rows_at, last, view, sound_table, waits}
use Rattle.fields.specs.Table.{marked, unmarked}
use Rattle.fields.specs.declared.mark.Mark.{Mark}
use Rattle.fields.specs.declared.mark.Mark.TheVariants.{Cookie, Document}
use Rattle.fields.specs.Laws.Each.{at_or}
use Rattle.fields.specs.Laws.Quiet.{Quiet}
use Rattle.fields.specs.Laws.There.{live_there}
use Rattle.fields.specs.Laws.Waited.{marked_quiet, marked_selected, unmarked_quiet, unmarked_selected}
use Rattle.rules.specs.Rule.Call.{Call, step, table, event, left, party_of, id_of, tag_of}
use Rattle.rules.specs.Rule.History.{History}
use Rattle.rules.specs.Rule.Quark.{Keys, State, tab_named, control}
use Rattle.rules.specs.Rule.Desk.{TabAt}
use Rattle.rules.specs.Sheet.{Outcome}
use Rattle.rules.proofs.Laws.Happens.{From, Code, Brings, Happens, nothing, joins, renews, selects, leaves, ends, types, points, paints}
use Rattle.rules.proofs.Laws.Happens.{sockets, fetches, stores, gets, denies, results, documents, refused_is, at_live}
use Rattle.rules.proofs.Time.Induct.{each_call, history_sound}
use Rattle.rules.proofs.Time.Same.{everywhere, here_or}

-- ---- only a mark

module _ (v u : View) (s k : ℕ) (w : Quiet v u s k) (chosen : (r : ℕ) → u (selected r) ≡ v (selected r)) where
  quiet_rest : (f : Field) → f ≢ waiting s k → u f ≡ v f
  quiet_rest (tenant r) n = w.rest.tenant= r
  quiet_rest (options r) n = w.rest.options= r
  quiet_rest (selected r) n = chosen r
  quiet_rest (seat_zero r) n = w.rest.seat_zero= r
  quiet_rest (opens r) n = at_or (λ x. u (opens x) ≡ v (opens x)) r s w.opens= (w.rest.opens= r)
  quiet_rest (slots r) n = at_or (λ x. u (slots x) ≡ v (slots x)) r s w.slots= (w.rest.slots= r)
  quiet_rest (serial r j) n =
      everywhere (λ (x y : ℕ). u (serial x y)) (λ x y. v (serial x y)) w.serial= w.rest.serial= r j
  quiet_rest (row r j) n = everywhere (λ (x y : ℕ). u (row x y)) (λ x y. v (row x y)) w.row= w.rest.row= r j
  quiet_rest (waiting r j) n =
      ⊎_elim (λ q. absurd (n (ap₂ waiting q.0 q.1))) (λ o. w.rest.waiting= r j o) (here_or r j s k)
  quiet_rest (number p) n = (w.rows.same p).number=
  quiet_rest (owner p) n = (w.rows.same p).owner=
  quiet_rest (tabs p) n = w.tabs= p
  quiet_rest (size p) n = (w.rows.same p).size=
  quiet_rest (row_zero p) n = w.rows.row_zero= p
  quiet_rest (letter p j) n = (w.rows.same p).letter= j
  quiet_rest seats_at n = w.rows.offsets.seats_at=
  quiet_rest rows_at n = w.rows.offsets.rows_at=
  quiet_rest last n = w.rows.last=

-- every field but the mark of the tab of an id is as it was
abbrev OnlyMark : List ℕ → List ℕ → ℕ → Type 0
OnlyMark t u i = (f : Field) → ((s k : ℕ) → TabAt t i s k → f ≢ waiting s k) → view u f ≡ view t f

module _ {t : List ℕ} {i s k : ℕ} (m : Mark) (sound : sound_table t ≡ true) (a : TabAt t i s k) where
  marked_only : waits (view t) s k m ≡ false → OnlyMark t (marked t s k m) i
  marked_only e f n =
      let w = at_live sound a in
      quiet_rest (view t) (view (marked t s k m)) s k (marked_quiet t s k w m e) (marked_selected t s k w m e) f (n s k a)

  unmarked_only : OnlyMark t (unmarked t s k m) i
  unmarked_only f n =
      let w = at_live sound a in
      quiet_rest (view t) (view (unmarked t s k m)) s k (unmarked_quiet t s k w m) (unmarked_selected t s k w m) f (n s k a)

-- ---- an event that is not a seat's

abbrev Waits : Call → Type 0
Waits c = party_of (event c) ≢ 1 → OnlyMark (table c) (left c) (tab_named (event c))

-- the tab that an event names: its sender, and the one that a result or document is for
from_a_tab : {e : List ℕ} {tag i : ℕ} → From e 2 tag i → tab_named e ≡ i
unfolding tab_named party_of id_of
from_a_tab {e} f = rw (eq-eqb (get_or e 0 0) 2 f.head.party=) f.id

to_tab : {e : List ℕ} {party n i : ℕ} → From e party 1 n → party ≢ 2 → Brings e i → tab_named e ≡ i
unfolding tab_named party_of id_of
to_tab {e} f h w = rw (ne_eqb (get_or e 0 0) 2 (λ q. h (sym f.head.party= ∙ q))) w.tab

waits_step : {t : List ℕ} (b e : List ℕ) (n r : ℕ) {x : Outcome} → sound_table t ≡ true → Happens t b e x
    → Waits (step t b e n r x.actions x.table)
unfolding event table left party_of
waits_step {t} b e n r h (nothing m _) = rw (refused_is m t) (λ p g w. refl)
waits_step b e n r h (joins s w _) = λ p. absurd (p w.from.head.party=)
waits_step b e n r h (renews s w _) = λ p. absurd (p w.from.head.party=)
waits_step b e n r h (selects s k i f _ _) = λ p. absurd (p f.head.party=)
waits_step b e n r h (leaves s i f _ _ _ _) = λ p. absurd (p f.head.party=)
waits_step b e n r h (ends s i f _ _ _ _) = λ p. absurd (p f.head.party=)
waits_step b e n r h (types s i _ _ _ _) = λ p g w. refl
waits_step b e n r h (points s i _ _ _) = λ p g w. refl
waits_step b e n r h (paints i s k _ _ _ _) = λ p g w. refl
waits_step b e n r h (sockets i s k _ _ _ _) = λ p g w. refl
waits_step b e n r h (fetches i s k f a _ w) = λ p. rw (from_a_tab f) (marked_only Document h a w)
waits_step b e n r h (stores i s k _ _ _ _) = λ p g w. refl
waits_step b e n r h (gets i s k f a _ w) = λ p. rw (from_a_tab f) (marked_only Cookie h a w)
waits_step b e n r h (denies tag i s k _ _ _) = λ p g w. refl
waits_step b e n r h (results q i s k f to a _ _) = λ p. rw (to_tab f (λ z. omega arith) to) (unmarked_only _ h a)
waits_step b e n r h (documents i s k f to a _) = λ p. rw (to_tab f (λ z. omega arith) to) (unmarked_only _ h a)

pub history_state : {book : List ℕ} {cs : List Call} {t : List ℕ} → History book cs t → State cs
unfolding table left
history_state =
    each_call (λ book cs c. Waits c)
    (record { start! = λ h b r p f w. refl; step! = λ b e n r h x. waits_step b e n r (history_sound h) x })

-- ---- an event of a seat that is no control key

abbrev Keeps : Call → Type 0
Keeps c = party_of (event c) ≡ 1 → control (event c) ≡ false → left c ≡ table c

module _ {e : List ℕ} {s : ℕ} where
  -- an open is a control key, and so are the keys that select and close
  open_control : From e 1 3 s → control e ≡ true
  unfolding control tag_of
  open_control f = rw (eq-eqb (get_or e 5 0) 3 f.head.tag=)

  select_control : {k : ℕ} → From e 1 1 s → Code e (k + 13) → Range 1 10 k → control e ≡ true
  unfolding control tag_of
  select_control f c l =
      let q = c.is in
      let low = l.low in
      let high = l.high in
      rw (f.head.tag=, within_in 14 23 (get_or e 10 0) (omega arith) (omega arith))

  close_control : From e 1 1 s → Code e 25 → control e ≡ true
  unfolding control tag_of
  close_control f c = rw (f.head.tag=, c.is)

no_control : {A : Type 0} {a : Bool} → a ≡ false → a ≡ true → A
no_control c d = absurd (false≢true (sym c ∙ d))

-- the event is not a seat's
no_seat : {A : Type 0} {e : List ℕ} {party tag i : ℕ} → From e party tag i → 2 ≤ party → get_or e 0 0 ≡ 1 → A
no_seat f h p = absurd (let q = f.head.party= in omega arith)

keeps_step : {t : List ℕ} (b e : List ℕ) (n r : ℕ) {x : Outcome} → Happens t b e x
    → Keeps (step t b e n r x.actions x.table)
unfolding event table left party_of
keeps_step {t} b e n r (nothing m _) = rw (refused_is m t) (λ p c. refl)
keeps_step b e n r (joins s w _) = λ p c. no_control c (open_control w.from)
keeps_step b e n r (renews s w _) = λ p c. no_control c (open_control w.from)
keeps_step {t} b e n r (selects s k i f q a) = λ p c.
    no_control c (select_control f q (live_there t s k a.there).1)
keeps_step b e n r (leaves s i f q _ _ _) = λ p c. no_control c (close_control f q)
keeps_step b e n r (ends s i f q _ _ _) = λ p c. no_control c (close_control f q)
keeps_step b e n r (types s i _ _ _ _) = λ p c. refl
keeps_step b e n r (points s i _ _ _) = λ p c. refl
keeps_step b e n r (paints i s k _ _ _ _) = λ p c. refl
keeps_step b e n r (sockets i s k _ _ _ _) = λ p c. refl
keeps_step b e n r (fetches i s k f _ _ _) = λ p c. no_seat f (omega arith) p
keeps_step b e n r (stores i s k _ _ _ _) = λ p c. refl
keeps_step b e n r (gets i s k f _ _ _) = λ p c. no_seat f (omega arith) p
keeps_step b e n r (denies tag i s k _ _ _) = λ p c. refl
keeps_step b e n r (results q i s k f _ _ _ _) = λ p c. no_seat f (omega arith) p
keeps_step b e n r (documents i s k f _ _ _) = λ p c. no_seat f (omega arith) p

pub history_keys : {book : List ℕ} {cs : List Call} {t : List ℕ} → History book cs t → Keys cs
unfolding table left
history_keys =
    each_call (λ book cs c. Keeps c)
    (record { start! = λ h b r p c. refl; step! = λ b e n r h x. keeps_step b e n r x })
