-- The table after a tab is selected or a waiting mark is set or cleared: every field of it, and that it is sound. Assumes nothing.
use Rattle.std.specs.Prelude.{◌≡◌, true, false, ◌≢◌, List, ℕ, ◌+◌, ◌-◌, ◌≤◌, eqb}
use Rattle.std.proofs.Math.Path.{refl, ap}
use Rattle.std.proofs.Common.{◌∙◌}
use native.Mathlib.Omega.{arith}
use borrow.Author.Tests.{eqb-false}
use Rattle.terms.specs.Laws.Bools.{or_fails}
use Rattle.terms.specs.Base.{Range}
use Rattle.fields.specs.Rule.View.{View, selected, row, waiting}
use Rattle.fields.specs.Rule.Layout.{most_opens, view, write}
use Rattle.fields.specs.Rule.Sound.{sound_table}
use Rattle.fields.specs.Rule.Word.{live}
use Rattle.fields.specs.Rule.Asked.{TabLive}
use Rattle.fields.specs.Rule.Update.{picked, weight, waits, marked, unmarked}
use Rattle.fields.specs.declared.mark.Mark.{Mark}
use Rattle.fields.specs.declared.mark.Mark.TheVariants.{Cookie, Document}
use Rattle.fields.specs.Change.{change}
use Rattle.fields.specs.Laws.There.{live_there, used_there}
use Rattle.fields.specs.Laws.Write.{length_write, view_write}
use Rattle.fields.specs.Laws.Table.{SoundTable, table_facts, facts_table, offsets_same}
use Rattle.fields.specs.Laws.Can.{can_pick, can_wait}
use Rattle.fields.specs.Laws.Quiet.{Quiet, picked_fields, picked_selected, picked_waiting, waiting_fields}
use Rattle.fields.specs.Laws.Quiet.{waiting_selected, waiting_waiting, quiet_sound}

module _ (t : List ℕ) (s k : ℕ) (w : TabLive t s k) where
  abbrev v : View
  v = view t

  sounds : SoundTable t
  sounds = table_facts t w.sound

  seat : Range 1 8 s
  seat = (live_there t s k w.there).0

  slot : Range 1 10 k
  slot = (live_there t s k w.there).1

  row_in : Range 1 80 (v (row s k))
  row_in = used_there t (v (row s k)) (sounds.shows.tabs_hang s k seat slot w.there).live_row

  -- ---- selected

  pub picked_view : view (picked t s k) ≡ change v (selected s) k
  unfolding picked
  picked_view = let a = can_pick seat slot.high in view_write t (selected s) k sounds.long a.0 a.1

  pub picked_quiet : Quiet v (view (picked t s k)) s k
  picked_quiet = rw picked_view (picked_fields v s k k)

  pub picked_selects : view (picked t s k) (selected s) ≡ k
  picked_selects = rw picked_view (picked_selected v s k k)

  pub picked_waits : view (picked t s k) (waiting s k) ≡ v (waiting s k)
  picked_waits = rw picked_view (picked_waiting v s k k)

  pub picked_sound : sound_table (picked t s k) ≡ true
  unfolding picked
  picked_sound =
      let u = change v (selected s) k in
      facts_table (picked t s k)
      (record {
        long = length_write t (selected s) k ∙ sounds.long;
        offsets = rw picked_view (offsets_same v u (picked_fields v s k k).rows.offsets sounds.offsets);
        shows =
            rw picked_view
            (quiet_sound most_opens v u s k (v (row s k)) sounds.shows (picked_fields v s k k) seat slot w.there row_in refl
            (let x = picked_selected v s k k in let y = slot.high in omega arith)
            (λ h. ap (live v s) (picked_selected v s k k) ∙ w.there)
            (let x = picked_waiting v s k k in let y = sounds.shows.waits s k seat slot in omega arith));
      })

  -- ---- a mark of at most 3

  module _ (x : ℕ) (small : x ≤ 3) where
    waiting_view : view (write t (waiting s k) x) ≡ change v (waiting s k) x
    waiting_view = let a = can_wait seat slot small in view_write t (waiting s k) x sounds.long a.0 a.1

    waiting_quiet : Quiet v (view (write t (waiting s k) x)) s k
    waiting_quiet = rw waiting_view (waiting_fields v s k x)

    waiting_is : view (write t (waiting s k) x) (waiting s k) ≡ x
    waiting_is = rw waiting_view (waiting_waiting v s k x)

    waiting_picks : (r : ℕ) → view (write t (waiting s k) x) (selected r) ≡ v (selected r)
    waiting_picks r = rw waiting_view (waiting_selected v s k x r)

    waiting_sound : sound_table (write t (waiting s k) x) ≡ true
    waiting_sound =
        let u = change v (waiting s k) x in
        let e = waiting_selected v s k x s in
        facts_table (write t (waiting s k) x)
        (record {
          long = length_write t (waiting s k) x ∙ sounds.long;
          offsets = rw waiting_view (offsets_same v u (waiting_fields v s k x).rows.offsets sounds.offsets);
          shows =
              rw waiting_view
              (quiet_sound most_opens v u s k (v (row s k)) sounds.shows (waiting_fields v s k x) seat slot w.there row_in refl
              (let y = sounds.shows.selections s seat in omega arith)
              (λ h. ap (live v s) e ∙ sounds.shows.selected_live s seat (λ z. h (e ∙ z)))
              (let y = waiting_waiting v s k x in omega arith));
        })

  waits3 : v (waiting s k) ≤ 3
  waits3 = sounds.shows.waits s k seat slot

  -- ---- a mark set that was not, a mark cleared that was

  mark_fits : (m : Mark) → waits v s k m ≡ false → v (waiting s k) + weight m ≤ 3
  unfolding waits weight
  mark_fits Cookie e =
      let f = or_fails (eqb (v (waiting s k)) 1) (eqb (v (waiting s k)) 3) e in
      let a = eqb-false (v (waiting s k)) 3 f.1 in
      let b = waits3 in
      at_most_two (v (waiting s k)) b a
    where
      at_most_two : (x : ℕ) → x ≤ 3 → x ≢ 3 → x + 1 ≤ 3
      at_most_two x h n = omega arith
  mark_fits Document e =
      let f = or_fails (eqb (v (waiting s k)) 2) (eqb (v (waiting s k)) 3) e in
      let a = eqb-false (v (waiting s k)) 2 f.0 in
      let d = eqb-false (v (waiting s k)) 3 f.1 in
      let b = waits3 in
      at_most_one (v (waiting s k)) b a d
    where
      at_most_one : (x : ℕ) → x ≤ 3 → x ≢ 2 → x ≢ 3 → x + 2 ≤ 3
      at_most_one x h n o = omega arith

  unmark_fits : (m : Mark) → v (waiting s k) - weight m ≤ 3
  unmark_fits m = let b = waits3 in omega arith

  module _ (m : Mark) (fresh : waits v s k m ≡ false) where
    pub marked_quiet : Quiet v (view (marked t s k m)) s k
    unfolding marked
    marked_quiet = waiting_quiet (v (waiting s k) + weight m) (mark_fits m fresh)

    pub marked_is : view (marked t s k m) (waiting s k) ≡ v (waiting s k) + weight m
    unfolding marked
    marked_is = waiting_is (v (waiting s k) + weight m) (mark_fits m fresh)

    pub marked_selected : (r : ℕ) → view (marked t s k m) (selected r) ≡ v (selected r)
    unfolding marked
    marked_selected = waiting_picks (v (waiting s k) + weight m) (mark_fits m fresh)

    pub marked_sound : sound_table (marked t s k m) ≡ true
    unfolding marked
    marked_sound = waiting_sound (v (waiting s k) + weight m) (mark_fits m fresh)

  module _ (m : Mark) where
    pub unmarked_quiet : Quiet v (view (unmarked t s k m)) s k
    unfolding unmarked
    unmarked_quiet = waiting_quiet (v (waiting s k) - weight m) (unmark_fits m)

    pub unmarked_is : view (unmarked t s k m) (waiting s k) ≡ v (waiting s k) - weight m
    unfolding unmarked
    unmarked_is = waiting_is (v (waiting s k) - weight m) (unmark_fits m)

    pub unmarked_selected : (r : ℕ) → view (unmarked t s k m) (selected r) ≡ v (selected r)
    unfolding unmarked
    unmarked_selected = waiting_picks (v (waiting s k) - weight m) (unmark_fits m)

    pub unmarked_sound : sound_table (unmarked t s k m) ≡ true
    unfolding unmarked
    unmarked_sound = waiting_sound (v (waiting s k) - weight m) (unmark_fits m)
