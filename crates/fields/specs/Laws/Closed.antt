-- The table after a close: every field of it, and that it is sound. Assumes nothing.
use Rattle.std.specs.Prelude.{◌≡◌, true, ◌≢◌, List, ℕ, ◌-◌, ◌^◌}
use Rattle.std.proofs.Math.Path.{refl, ap}
use Rattle.std.proofs.Common.{◌∙◌, ⊎_elim, eq-eqb, ne_eqb}
use Rattle.std.proofs.Math.ListN.{length}
use Rattle.terms.specs.Base.{Range}
use Rattle.fields.specs.Rule.View.{View, selected, opens, slots, row, tabs, row_zero, last}
use Rattle.fields.specs.Rule.Layout.{table_bytes, most_opens, view}
use Rattle.fields.specs.Rule.Sound.{sound_table}
use Rattle.fields.specs.Rule.Word.{live}
use Rattle.fields.specs.Rule.Asked.{Closable}
use Rattle.fields.specs.Rule.Update.{unhanging, clearing, unhung, cleared, closed_at, closed}
use Rattle.fields.specs.Change.{changes}
use Rattle.fields.specs.Laws.Each.{same_or}
use Rattle.fields.specs.Laws.Sound.{EmptyTab}
use Rattle.fields.specs.Laws.Seats.{Changed}
use Rattle.fields.specs.Laws.Rows.{KeptRow}
use Rattle.fields.specs.Laws.There.{live_there, used_there}
use Rattle.fields.specs.Laws.Write.{length_writes, view_writes}
use Rattle.fields.specs.Laws.Table.{SoundTable, table_facts, facts_table, offsets_same}
use Rattle.fields.specs.Laws.Can.{can_unhang, can_clear}
use Rattle.fields.specs.Laws.Still.{Offsets, offsets_then}
use Rattle.fields.specs.Laws.Close.{Unhung, unhung_fields, GoneRow, cleared_fields}
use Rattle.fields.specs.Laws.Leave.{close_changed}
use Rattle.fields.specs.Laws.End.{left_sound, ended_sound}

-- every field after a close that ends the process in row p
pub record Ended (v u : View) (s k p : ℕ) : Type 0 where
  pub rest : Changed v u s k
  pub others : (q : ℕ) → q ≢ p → KeptRow v u q
  pub tabs= : (q : ℕ) → q ≢ p → u (tabs q) ≡ v (tabs q)
  pub row_zero= : (q : ℕ) → u (row_zero q) ≡ v (row_zero q)
  pub gone : EmptyTab u s k
  pub selected! : u (selected s) ≡ 0
  pub opens! : u (opens s) ≡ v (opens s)
  pub slots! : u (slots s) ≡ v (slots s) - 2 ^ (k - 1)
  pub gone_row : GoneRow u p
  pub last= : u last ≡ v last
  pub offsets : Offsets v u

module _ (t : List ℕ) (s : ℕ) (w : Closable t s) where
  abbrev v : View
  v = view t

  abbrev k : ℕ
  k = view t (selected s)

  abbrev p : ℕ
  p = view t (row s (view t (selected s)))

  sounds : SoundTable t
  sounds = table_facts t w.sound

  pub picked_live : live v s k ≡ true
  picked_live = sounds.shows.selected_live s w.seat w.picked

  slot : Range 1 10 k
  slot = (live_there t s k picked_live).1

  pub row_in : Range 1 80 p
  row_in = used_there t p (sounds.shows.tabs_hang s k w.seat slot picked_live).live_row

  mid_view : view (unhung t s k p) ≡ changes v (unhanging v s k p)
  unfolding unhung
  mid_view = view_writes t (unhanging v s k p) sounds.long (can_unhang v s k p sounds.shows w.seat slot row_in)

  mid_long : length (unhung t s k p) ≡ table_bytes
  unfolding unhung
  mid_long = length_writes t (unhanging v s k p) ∙ sounds.long

  -- ---- the process keeps other tabs

  module _ (more : v (tabs p) ≢ 1) where
    left_is : closed t s ≡ unhung t s k p
    unfolding closed closed_at
    left_is = rw (ne_eqb (v (tabs p)) 1 more)

    left_view : view (closed t s) ≡ changes v (unhanging v s k p)
    left_view = ap view left_is ∙ mid_view

    pub closed_leaves : Unhung v (view (closed t s)) s k p
    closed_leaves = rw left_view (unhung_fields v s k p)

    left_table : SoundTable (closed t s)
    left_table =
        record {
          long = ap length left_is ∙ mid_long;
          offsets =
              rw left_view
              (offsets_same v (changes v (unhanging v s k p)) (unhung_fields v s k p).rows.offsets sounds.offsets);
          shows = rw left_view (left_sound most_opens v s k p sounds.shows w.seat slot picked_live refl row_in more);
        }

  -- ---- the process had this tab alone

  module _ (only : v (tabs p) ≡ 1) where
    ended_is : closed t s ≡ cleared (unhung t s k p) p
    unfolding closed closed_at
    ended_is = rw (eq-eqb (v (tabs p)) 1 only)

    abbrev m : View
    m = changes (view t) (unhanging (view t) s k p)

    ended_view : view (closed t s) ≡ changes m (clearing p)
    unfolding cleared
    ended_view =
        ap view ended_is
        ∙ view_writes (unhung t s k p) (clearing p) mid_long (can_clear p row_in)
        ∙ ap (λ (x : View). changes x (clearing p)) mid_view

    pub closed_ends : Ended v (view (closed t s)) s k p
    closed_ends =
        let a = unhung_fields v s k p in
        let b = cleared_fields m p in
        rw ended_view
        (record {
          rest = close_changed most_opens v (changes m (clearing p)) s k p sounds.shows w.seat slot picked_live b.seats;
          others = λ q h.
              let x = a.rows.same q in
              let y = b.others q h in
              record {
                number= = y.number= ∙ x.number=;
                owner= = y.owner= ∙ x.owner=;
                size= = y.size= ∙ x.size=;
                letter= = λ j. y.letter= j ∙ x.letter= j;
              };
          tabs= = λ q h. b.tabs= q h ∙ a.tabs= q h;
          row_zero= = λ q. b.row_zero= q ∙ a.rows.row_zero= q;
          gone =
              record {
                serial0 = b.seats.serial= s k ∙ a.gone.serial0;
                row0 = b.seats.row= s k ∙ a.gone.row0;
                waiting0 = b.seats.waiting= s k ∙ a.gone.waiting0;
              };
          selected! = b.seats.selected= s ∙ a.selected!;
          opens! = b.seats.opens= s ∙ a.opens!;
          slots! = b.seats.slots= s ∙ a.slots!;
          gone_row = b.gone_row;
          last= = b.last= ∙ a.rows.last=;
          offsets = offsets_then a.rows.offsets b.offsets;
        })

    ended_table : SoundTable (closed t s)
    unfolding cleared
    ended_table =
        record {
          long = ap length ended_is ∙ length_writes (unhung t s k p) (clearing p) ∙ mid_long;
          offsets =
              rw ended_view
              (offsets_same v (changes m (clearing p))
              (offsets_then (unhung_fields v s k p).rows.offsets (cleared_fields m p).offsets) sounds.offsets);
          shows = rw ended_view (ended_sound most_opens v s k p sounds.shows w.seat slot picked_live refl row_in only);
        }

  -- a close keeps the table sound
  pub closed_sound : sound_table (closed t s) ≡ true
  closed_sound =
      facts_table (closed t s)
      (⊎_elim (λ (e : v (tabs p) ≡ 1). ended_table e) (λ (h : v (tabs p) ≢ 1). left_table h) (same_or (v (tabs p)) 1))
