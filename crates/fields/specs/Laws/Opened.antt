-- The table after an open: every field of it, and that it is sound. Assumes nothing.
use Rattle.std.specs.Prelude.{◌≡◌, true, ◌≢◌, List, ℕ, ◌+◌, ◌-◌, ◌^◌}
use Rattle.std.proofs.Math.Path.{refl, ap}
use Rattle.std.proofs.Common.{◌∙◌, ⊎_elim, arith, eq-eqb, ne_eqb}
use Rattle.std.proofs.Math.ListN.{length}
use Rattle.fields.specs.Rule.View.{View}
use Rattle.fields.specs.Rule.Layout.{table_bytes, most_opens, view}
use Rattle.fields.specs.Rule.Sound.{sound_table}
use Rattle.fields.specs.Rule.Word.{owner_at}
use Rattle.fields.specs.Rule.Find.{process_with, free_slot, free_process}
use Rattle.fields.specs.Rule.Asked.{Openable}
use Rattle.fields.specs.Rule.Update.{hanging, making, hung, row_made, opened_at, opened}
use Rattle.fields.specs.Change.{changes}
use Rattle.fields.specs.Laws.Each.{same_or}
use Rattle.fields.specs.Laws.Find.{FreeSlot, FreeRow, With, free_slot_lem, free_process_lem, process_with_lem, process_without}
use Rattle.fields.specs.Laws.Room.{room, tabs_le_80}
use Rattle.fields.specs.Laws.Write.{length_writes, view_writes}
use Rattle.fields.specs.Laws.Table.{SoundTable, table_facts, facts_table, offsets_same}
use Rattle.fields.specs.Laws.Can.{map_lt, owner_lt, can_hang, can_make}
use Rattle.fields.specs.Laws.Still.{offsets_then}
use Rattle.fields.specs.Laws.Open.{Hung, hung_fields, open_changed, join_sound}
use Rattle.fields.specs.Laws.Make.{Made, made_fields}
use Rattle.fields.specs.Laws.Renew.{Renewed, new_others, name_now, new_sound}

module _ (t : List ℕ) (s : ℕ) (suffix : List ℕ) (w : Openable t s suffix) where
  abbrev v : View
  v = view t

  abbrev k : ℕ
  k = free_slot (view t) s

  abbrev o : ℕ
  o = owner_at (view t) s

  abbrev p : ℕ
  p = process_with (view t) (owner_at (view t) s) suffix

  sounds : SoundTable t
  sounds = table_facts t w.sound

  slot_free : FreeSlot v s k
  slot_free = free_slot_lem v s w.slot

  -- ---- a process of this owner and suffix is live

  module _ (found : p ≢ 0) where
    has : With v o suffix p
    has = process_with_lem v o suffix found

    opened_is : opened t s suffix ≡ hung t s k p
    unfolding opened opened_at
    opened_is = rw (ne_eqb p 0 found)

    join_view : view (opened t s suffix) ≡ changes v (hanging v s k p)
    unfolding hung
    join_view =
        ap view opened_is
        ∙ view_writes t (hanging v s k p) sounds.long
        (can_hang v s k p sounds.shows w.seat slot_free.slot has.row v w.more (map_lt v s sounds.shows w.seat)
        (tabs_le_80 most_opens v p sounds.shows has.row))

    pub opened_joins : Hung v (view (opened t s suffix)) s k p
    opened_joins = rw join_view (hung_fields v s k p)

    join_table : SoundTable (opened t s suffix)
    unfolding hung
    join_table =
        record {
          long = ap length opened_is ∙ length_writes t (hanging v s k p) ∙ sounds.long;
          offsets =
              rw join_view
              (offsets_same v (changes v (hanging v s k p)) (hung_fields v s k p).rows.offsets sounds.offsets);
          shows =
              rw join_view
              (join_sound most_opens v s k p sounds.shows w.seat slot_free.slot w.is_let slot_free.free w.more
              has.row has.there has.own);
        }

  -- ---- none is: a row is made for it

  module _ (none : p ≡ 0) where
    abbrev q : ℕ
    q = free_process (view t)

    row_free : FreeRow v q
    row_free = free_process_lem v (room most_opens v s sounds.shows w.seat w.slot)

    abbrev mid : List ℕ
    mid = row_made t q o suffix

    pub mid_view : view mid ≡ changes v (making v q o suffix)
    unfolding row_made
    mid_view =
        view_writes t (making v q o suffix) sounds.long
        (can_make v q o suffix sounds.shows row_free.row (owner_lt most_opens v s sounds.shows w.seat) w.name
        w.long)

    pub mid_long : length mid ≡ table_bytes
    unfolding row_made
    mid_long = length_writes t (making v q o suffix) ∙ sounds.long

    new_is : opened t s suffix ≡ hung mid s k q
    unfolding opened opened_at
    new_is = rw (eq-eqb p 0 none)

    abbrev m : View
    m = changes (view t) (making (view t) q o suffix)

    made_m : Made v m q o suffix
    made_m = made_fields v q o suffix

    new_view : view (opened t s suffix) ≡ changes m (hanging m s k q)
    unfolding hung
    new_view =
        let a = made_m.seats.opens= s in
        let b = made_m.seats.slots= s in
        let d = made_m.tabs= q in
        let x = w.more in
        let y = map_lt v s sounds.shows w.seat in
        let z = tabs_le_80 most_opens v q sounds.shows row_free.row in
        ap view new_is
        ∙ view_writes mid (hanging (view mid) s k q) mid_long
        (rw mid_view
        (can_hang v s k q sounds.shows w.seat slot_free.slot row_free.row m (omega arith) (omega arith) (omega arith)))
        ∙ rw mid_view refl

    pub opened_renews : Renewed v (view (opened t s suffix)) s k q o suffix
    opened_renews =
        let h = hung_fields m s k q in
        let st = made_m.seats in
        let no = process_without v o suffix none in
        let z = (sounds.shows.free_rows q row_free.row row_free.free).tabs0 in
        rw new_view
        (record {
          rest =
              open_changed most_opens v m st s k q sounds.shows w.seat slot_free.slot w.is_let slot_free.free
              w.more;
          others =
              new_others most_opens v s k q suffix sounds.shows w.seat slot_free.slot w.is_let slot_free.free
              w.more
              row_free.row row_free.free w.name w.dotted w.long no;
          tabs= = λ i n. h.tabs= i n ∙ made_m.tabs= i;
          row_zero= = λ i. h.rows.row_zero= i ∙ made_m.row_zero= i;
          serial! = h.serial! ∙ ap (λ (x : ℕ). x + 1) (st.opens= s);
          row! = h.row!;
          waiting! = h.waiting!;
          selected! = h.selected!;
          opens! = h.opens! ∙ ap (λ (x : ℕ). x + 1) (st.opens= s);
          slots! = h.slots! ∙ ap (λ (x : ℕ). x + 2 ^ (k - 1)) (st.slots= s);
          number! = (h.rows.same q).number= ∙ made_m.number!;
          owner! = (h.rows.same q).owner= ∙ made_m.owner!;
          size! = (h.rows.same q).size= ∙ made_m.size!;
          letter! = λ j r. (h.rows.same q).letter= j ∙ made_m.letter! j r;
          name! =
              name_now most_opens v s k q suffix sounds.shows w.seat slot_free.slot w.is_let slot_free.free w.more
              row_free.row row_free.free w.name w.dotted w.long no;
          tabs! = h.tabs! ∙ ap (λ (x : ℕ). x + 1) (made_m.tabs= q ∙ z);
          last! = h.rows.last= ∙ made_m.last!;
          offsets = offsets_then made_m.offsets h.rows.offsets;
        })

    new_table : SoundTable (opened t s suffix)
    unfolding hung
    new_table =
        record {
          long = ap length new_is ∙ length_writes mid (hanging (view mid) s k q) ∙ mid_long;
          offsets =
              rw new_view
              (offsets_same v (changes m (hanging m s k q)) (offsets_then made_m.offsets (hung_fields m s k q).rows.offsets)
              sounds.offsets);
          shows =
              rw new_view
              (new_sound most_opens v s k q suffix sounds.shows w.seat slot_free.slot w.is_let slot_free.free
              w.more row_free.row row_free.free w.name w.dotted w.long (process_without v o suffix none));
        }

  -- an open keeps the table sound
  pub opened_sound : sound_table (opened t s suffix) ≡ true
  opened_sound =
      facts_table (opened t s suffix) (⊎_elim (λ (z : p ≡ 0). new_table z) (λ (h : p ≢ 0). join_table h) (same_or p 0))
