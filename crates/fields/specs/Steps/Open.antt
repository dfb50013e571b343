-- An open as the code makes it. k is the free slot, p the row that is found, q the row that is made. Assumes nothing.
use Rattle.std.specs.Prelude.{◌≡◌, refl, true, ◌≢◌, List, ℕ, length}
use Rattle.std.proofs.Common.{sym, ap, ap₂, ◌∙◌, subst, arith, ne_eqb}
use Rattle.std.specs.Option.{is_some}
use Rattle.terms.specs.Base.{Range, if_any}
use Rattle.fields.specs.Laws.Lowest.{some_any}
use Rattle.fields.specs.Rule.Layout.{most_opens, view}
use Rattle.fields.specs.Rule.Word.{owner_at}
use Rattle.fields.specs.Rule.Find.{process_with, free_slot, free_process}
use Rattle.fields.specs.Rule.Asked.{Openable}
use Rattle.fields.specs.Rule.Update.{hung, row_made, opened_at, opened}
use Rattle.fields.specs.Held.{Hangable, Makable}
use Rattle.fields.specs.Laws.Find.{free_slot_lem, free_process_lem, process_with_lem}
use Rattle.fields.specs.Laws.Room.{room, last_next, tabs_le_80}
use Rattle.fields.specs.Laws.Table.{table_facts}
use Rattle.fields.specs.Laws.Can.{map_lt, numbers_enough}
use Rattle.fields.specs.Laws.Make.{made_fields}
use Rattle.fields.specs.Laws.Opened.{mid_view, mid_long}

slot_in : {t : List ℕ} {s k : ℕ} {suffix : List ℕ} → Openable t s suffix → k ≡ free_slot (view t) s → Range 1 10 k
slot_in {t} {s} w e = subst (Range 1 10) (sym e) (free_slot_lem (view t) s w.slot).slot

-- ---- on the row that is found

pub join_hangs : {t : List ℕ} {s k p : ℕ} {suffix : List ℕ} → Openable t s suffix → k ≡ free_slot (view t) s
    → p ≡ process_with (view t) (owner_at (view t) s) suffix → p ≢ 0 → Hangable t s k p
join_hangs {t} {s} {k} {p} {suffix} w e f h =
    let x = table_facts t w.sound in
    let r : Range 1 80 p = subst (Range 1 80) (sym f) (process_with_lem (view t) (owner_at (view t) s) suffix (λ z. h (f ∙ z))).row in
    record {
      long = x.long;
      seat = w.seat;
      slot = slot_in w e;
      row = r;
      more = w.more;
      map = map_lt (view t) s x.shows w.seat;
      few = tabs_le_80 most_opens (view t) p x.shows r;
    }

pub open_joins : (t : List ℕ) {u : List ℕ} (s : ℕ) {k p : ℕ} (suffix : List ℕ) → k ≡ free_slot (view t) s
    → p ≡ process_with (view t) (owner_at (view t) s) suffix → p ≢ 0 → u ≡ hung t s k p → u ≡ opened t s suffix
unfolding opened opened_at
open_joins t s {k} {p} suffix e f h q = q ∙ sym (rw (sym e, sym f, ne_eqb p 0 h))

-- ---- on a row that is made

free_in : {t : List ℕ} {s q : ℕ} {suffix : List ℕ} → Openable t s suffix → q ≡ free_process (view t) → Range 1 80 q
free_in {t} {s} w e =
    let x = table_facts t w.sound in
    subst (Range 1 80) (sym e) (free_process_lem (view t) (room most_opens (view t) s x.shows w.seat w.slot)).row

pub free_some : {t : List ℕ} {s : ℕ} {suffix : List ℕ} → Openable t s suffix → is_some (if_any (free_process (view t))) ≡ true
free_some {t} w =
    let r : Range 1 80 (free_process (view t)) = free_in w refl in
    rw (← some_any (free_process (view t)) r.low)

pub new_makes : {t : List ℕ} {s q : ℕ} {suffix : List ℕ} → Openable t s suffix → q ≡ free_process (view t) → Makable t q suffix
new_makes {t} {s} w e =
    let x = table_facts t w.sound in
    let a = last_next most_opens (view t) x.shows in
    let b = numbers_enough in
    record { long = x.long; row = free_in w e; next = omega arith; short = w.long.high }

pub new_hangs : {t u : List ℕ} {s k q o : ℕ} {suffix : List ℕ} → Openable t s suffix → k ≡ free_slot (view t) s
    → process_with (view t) (owner_at (view t) s) suffix ≡ 0 → q ≡ free_process (view t) → o ≡ owner_at (view t) s
    → u ≡ row_made t q o suffix → Hangable u s k q
new_hangs {t} {u} {s} {k} {q} {o} {suffix} w e none g h i =
    let x = table_facts t w.sound in
    let same : u ≡ row_made t (free_process (view t)) (owner_at (view t) s) suffix = i ∙ ap₂ (λ (a b : ℕ). row_made t a b suffix) g h in
    let m = made_fields (view t) (free_process (view t)) (owner_at (view t) s) suffix in
    let shows = ap view same ∙ mid_view t s suffix w none in
    let r = free_in w g in
    record {
      long = ap length same ∙ mid_long t s suffix w none;
      seat = w.seat;
      slot = slot_in w e;
      row = r;
      more = rw shows (let a = m.seats.opens= s in let b = w.more in omega arith);
      map = rw shows (let a = m.seats.slots= s in let b = map_lt (view t) s x.shows w.seat in omega arith);
      few = rw shows (let a = m.tabs= q in let b = tabs_le_80 most_opens (view t) q x.shows r in omega arith);
    }

pub open_renews : (t : List ℕ) {u v : List ℕ} (s : ℕ) {k q o : ℕ} (suffix : List ℕ) → k ≡ free_slot (view t) s
    → process_with (view t) (owner_at (view t) s) suffix ≡ 0 → q ≡ free_process (view t) → o ≡ owner_at (view t) s
    → u ≡ row_made t q o suffix → v ≡ hung u s k q → v ≡ opened t s suffix
unfolding opened opened_at
open_renews t s {k} {q} {o} suffix e z g h i j =
    j ∙ ap (λ (x : List ℕ). hung x s k q) i ∙ sym (rw (sym e, z, sym g, sym h))
