-- A tab is started and stopped by its own seat alone, and what a seat's event leaves alone. Assumes nothing.
use Rattle.std.specs.Prelude.{ℕ, ◌+◌, ◌≡◌, ◌≢◌, List, [], get_or}
use Rattle.std.proofs.Math.Path.{refl, sym}
use Rattle.std.proofs.Common.{ap, ◌∙◌, arith}
use Rattle.fields.specs.Table.{opens, serial}
use Rattle.fields.specs.Table.{view, seat_of_id}
use Rattle.fields.specs.Table.{Openable}
use Rattle.fields.specs.Laws.Asked.{live_serial}
use Rattle.fields.specs.Laws.Tab.{id_seat}
use Rattle.rules.specs.Rule.Call.{Call, step, start, table, event, actions, left, party_of, id_of, tag_of, Every, none, more}
use Rattle.rules.specs.Rule.Call.{given}
use Rattle.rules.specs.Rule.History.{History}
use Rattle.rules.specs.Rule.Own.{ByOpen, ByClose, Own}
use Rattle.rules.specs.Rule.Desk.{new_id, TabAt}
use Rattle.rules.specs.Sheet.{Frame, Outcome, start_tab, stop_tab}
use Rattle.rules.proofs.Laws.Happens.{From, Code, Opens, Happens, nothing, joins, renews, selects, leaves, ends, types, points}
use Rattle.rules.proofs.Laws.Happens.{paints, sockets, fetches, stores, gets, denies, results, documents, refused_is, at_live}
use Rattle.rules.proofs.Time.Induct.{Each, each_call, history_sound}
use Rattle.rules.proofs.Time.Another.{Kept, joined_own, renewed_own, left_own, ended_own, picked_own}

-- ---- outcome by outcome

record OwnCall (c : Call) : Type 0 where
  starts : Every (ByOpen c) (given 5 1 (actions c))
  stops : Every (ByClose c) (given 5 2 (actions c))
  kept : party_of (event c) ≡ 1 → Kept (table c) (left c) (id_of (event c))

-- another party's event
no_seat : {A : Type 0} {e : List ℕ} {party tag i : ℕ} → From e party tag i → party ≢ 1 → get_or e 0 0 ≡ 1 → A
no_seat f h p = absurd (h (sym f.head.party= ∙ p))

module _ {book : List ℕ} {cs : List Call} {t : List ℕ} (h : History book cs t) where
  -- an id's seat
  new_seat : {s : ℕ} {x : List ℕ} → Openable t s x → seat_of_id (new_id (view t) s) ≡ s
  new_seat {s} w = let more = w.more in id_seat s (view t (opens s) + 1) (omega arith)

  tab_seat : {i s k : ℕ} → TabAt t i s k → seat_of_id i ≡ s
  tab_seat {s = s} {k = k} a =
      ap seat_of_id (sym a.id) ∙ id_seat s (view t (serial s k)) (live_serial (at_live (history_sound h) a))

  by_open : {s : ℕ} (b e : List ℕ) (n r : ℕ) (l : List Frame) (u : List ℕ) → Opens t b e s
      → ByOpen (step t b e n r l u) (start_tab (new_id (view t) s))
  unfolding event party_of id_of tag_of
  by_open b e n r l u w =
      record { by_seat = w.from.head.party=; opens = w.from.head.tag=; own = w.from.id ∙ sym (new_seat w.takes) }

  by_close : {s i k : ℕ} (b e : List ℕ) (n r : ℕ) (l : List Frame) (u : List ℕ) → From e 1 1 s → Code e 25 → TabAt t i s k
      → ByClose (step t b e n r l u) (stop_tab i)
  unfolding event party_of id_of tag_of
  by_close b e n r l u f c a =
      record { by_seat = f.head.party=; key = f.head.tag=; f12 = c.is; own = f.id ∙ sym (tab_seat a) }

  quiet : (c : Call) → given 5 1 (actions c) ≡ [] → given 5 2 (actions c) ≡ []
      → (party_of (event c) ≡ 1 → Kept (table c) (left c) (id_of (event c))) → OwnCall c
  quiet c a b k = record { starts = rw a none; stops = rw b none; kept = k }

  happens : (b e : List ℕ) (n r : ℕ) {x : Outcome} → Happens t b e x → OwnCall (step t b e n r x.actions x.table)
  unfolding given table event actions left party_of id_of
  happens b e n r (nothing m z) = rw (refused_is m t) (quiet _ refl refl (λ p f y. refl))
  happens b e n r (joins s w z) =
      record { starts = more (by_open b e n r _ _ w) none; stops = none; kept = λ p. rw w.from.id (joined_own w.takes z) }
  happens b e n r (renews s w z) =
      record { starts = more (by_open b e n r _ _ w) none; stops = none; kept = λ p. rw w.from.id (renewed_own w.takes z) }
  happens b e n r (selects s k i f c a) =
      quiet _ refl refl (λ p. rw f.id (picked_own (at_live (history_sound h) a)))
  happens b e n r (leaves s i f c w a z) =
      record { starts = none; stops = more (by_close b e n r _ _ f c a) none; kept = λ p. rw f.id (left_own w z) }
  happens b e n r (ends s i f c w a z) =
      record { starts = none; stops = more (by_close b e n r _ _ f c a) none; kept = λ p. rw f.id (ended_own w z) }
  happens b e n r (types s i f _ _ a) = quiet _ refl refl (λ p g y. refl)
  happens b e n r (points s i f _ a) = quiet _ refl refl (λ p g y. refl)
  happens b e n r (paints i s k f _ a z) = quiet _ refl refl (λ p g y. refl)
  happens b e n r (sockets i s k f _ a z) = quiet _ refl refl (λ p g y. refl)
  happens b e n r (fetches i s k f a ok z) = quiet _ refl refl (no_seat f (λ z. omega arith))
  happens b e n r (stores i s k f _ a ok) = quiet _ refl refl (λ p g y. refl)
  happens b e n r (gets i s k f a ok z) = quiet _ refl refl (no_seat f (λ z. omega arith))
  happens b e n r (denies tag i s k f a d) = quiet _ refl refl (λ p g y. refl)
  happens b e n r (results m i s k f _ a z y) = quiet _ refl refl (no_seat f (λ z. omega arith))
  happens b e n r (documents i s k f _ a y) = quiet _ refl refl (no_seat f (λ z. omega arith))

each : Each (λ (book : List ℕ) (earlier : List Call) (c : Call). OwnCall c)
unfolding given actions table left
each =
    record {
      start! = λ {t = t} h b r. quiet h (start t b r t) refl refl (λ p f y. refl);
      step! = λ b e n r h w. happens h b e n r w;
    }

pub history_own : {book : List ℕ} {cs : List Call} {t : List ℕ} → History book cs t → Own cs
history_own h =
    let w = each_call (λ book earlier c. OwnCall c) each h in
    record {
      opens = λ c earlier p. (w c earlier p).starts;
      closes = λ c earlier p. (w c earlier p).stops;
      record! = λ c earlier p. (w c earlier p).kept;
    }
