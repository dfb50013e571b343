-- What an update leaves alone: every field that is another's, as its seat sees it. Assumes nothing.
use Rattle.std.specs.Prelude.{ℕ, ◌≡◌, ◌≢◌, List}
use Rattle.std.proofs.Common.{sym, subst, ◌∙◌, inl}
use Rattle.std.proofs.lemmas.Bool.{false≢true}
use Rattle.fields.specs.Table.{View, Field, tenant, options, selected, seat_zero, opens, slots, serial, row, waiting, number}
use Rattle.fields.specs.Table.{owner, tabs, size, row_zero, letter, seats_at, rows_at, last, view}
use Rattle.fields.specs.Table.{owner_at, process_with, Openable, Closable, opened, picked, closed}
use Rattle.fields.specs.Table.{TabLive}
use Rattle.fields.specs.Promises.{row_for_slot}
use Rattle.fields.specs.Laws.Asked.{open_slot, selected_tab}
use Rattle.fields.specs.Laws.Table.{table_facts}
use Rattle.fields.specs.Laws.There.{live_there}
use Rattle.fields.specs.Laws.Find.{process_with_lem, free_process_lem}
use Rattle.fields.specs.Laws.Seats.{Changed}
use Rattle.fields.specs.Laws.Rows.{KeptRow}
use Rattle.fields.specs.Laws.Still.{Offsets}
use Rattle.fields.specs.Laws.Opened.{opened_joins, opened_renews}
use Rattle.fields.specs.Laws.Closed.{closed_leaves, closed_ends}
use Rattle.fields.specs.Laws.Waited.{picked_quiet}
use Rattle.rules.specs.Rule.Own.{Foreign, Anothers}

-- ---- an update of one seat and one process row

record Local (v u : View) (s k p : ℕ) : Type 0 where
  seats : Changed v u s k
  others : (q : ℕ) → q ≢ p → KeptRow v u q
  tabs= : (q : ℕ) → q ≢ p → u (tabs q) ≡ v (tabs q)
  row_zero= : (q : ℕ) → u (row_zero q) ≡ v (row_zero q)
  offsets : Offsets v u

module _ {v u : View} {s k p : ℕ} (w : Local v u s k p) (own : Foreign v s p → ⊥) where
  other : {q : ℕ} → Foreign v s q → q ≢ p
  other h e = own (subst (Foreign v s) e h)

  local_own : (f : Field) → Anothers v s f → u f ≡ v f
  unfolding Anothers
  local_own (tenant r) n = w.seats.tenant= r
  local_own (options r) n = w.seats.options= r
  local_own (selected r) n = w.seats.selected= r n
  local_own (seat_zero r) n = w.seats.seat_zero= r
  local_own (opens r) n = w.seats.opens= r n
  local_own (slots r) n = w.seats.slots= r n
  local_own (serial r j) n = w.seats.serial= r j (inl n)
  local_own (row r j) n = w.seats.row= r j (inl n)
  local_own (waiting r j) n = w.seats.waiting= r j (inl n)
  local_own (number q) h = (w.others q (other h)).number=
  local_own (owner q) h = (w.others q (other h)).owner=
  local_own (tabs q) h = w.tabs= q (other h)
  local_own (size q) h = (w.others q (other h)).size=
  local_own (row_zero q) h = w.row_zero= q
  local_own (letter q j) h = (w.others q (other h)).letter= j
  local_own seats_at h = w.offsets.seats_at=
  local_own rows_at h = w.offsets.rows_at=
  local_own last h = absurd h

-- every field that is another's is as it was
abbrev pub Kept : List ℕ → List ℕ → ℕ → Type 0
Kept t u s = (f : Field) → Anothers (view t) s f → view u f ≡ view t f

module _ {t : List ℕ} {s : ℕ} where
  pub joined_own : {x : List ℕ} → Openable t s x → process_with (view t) (owner_at (view t) s) x ≢ 0 → Kept t (opened t s x) s
  joined_own {x} w h =
      let a = opened_joins t s x w h in
      local_own
      (record {
        seats = a.rest;
        others = λ q n. a.rows.same q;
        tabs= = a.tabs=;
        row_zero= = a.rows.row_zero=;
        offsets = a.rows.offsets;
      })
      (λ y. y.other (process_with_lem (view t) (owner_at (view t) s) x h).own)

  pub renewed_own : {x : List ℕ} → Openable t s x → process_with (view t) (owner_at (view t) s) x ≡ 0 → Kept t (opened t s x) s
  renewed_own {x} w z =
      let a = opened_renews t s x w z in
      local_own
      (record {
        seats = a.rest;
        others = a.others;
        tabs= = a.tabs=;
        row_zero= = a.row_zero=;
        offsets = a.offsets;
      })
      (λ y. false≢true (sym (free_process_lem (view t) (row_for_slot t s (open_slot w))).free ∙ y.there))

  -- the process row of a live tab is its seat's owner's
  row_own : {k : ℕ} → TabLive t s k → Foreign (view t) s (view t (row s k)) → ⊥
  row_own {k} w y =
      let r = live_there t s k w.there in
      y.other ((table_facts t w.sound).shows.tabs_hang s k r.0 r.1 w.there).own

  pub left_own : (w : Closable t s) → view t (tabs (view t (row s (view t (selected s))))) ≢ 1 → Kept t (closed t s) s
  left_own w h =
      let a = closed_leaves t s w h in
      local_own
      (record {
        seats = a.rest;
        others = λ q n. a.rows.same q;
        tabs= = a.tabs=;
        row_zero= = a.rows.row_zero=;
        offsets = a.rows.offsets;
      })
      (row_own (selected_tab w))

  pub ended_own : (w : Closable t s) → view t (tabs (view t (row s (view t (selected s))))) ≡ 1 → Kept t (closed t s) s
  ended_own w z =
      let a = closed_ends t s w z in
      local_own
      (record { seats = a.rest; others = a.others; tabs= = a.tabs=; row_zero= = a.row_zero=; offsets = a.offsets })
      (row_own (selected_tab w))

  pub picked_own : {k : ℕ} → TabLive t s k → Kept t (picked t s k) s
  picked_own {k} w =
      let a = picked_quiet t s k w in
      local_own
      (record {
        seats = a.rest;
        others = λ q n. a.rows.same q;
        tabs= = λ q n. a.tabs= q;
        row_zero= = a.rows.row_zero=;
        offsets = a.rows.offsets;
      })
      (row_own w)
