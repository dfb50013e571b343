-- A selection and a close as the code makes them. Assumes nothing.
use Rattle.std.specs.Prelude.{◌≡◌, true, ◌≢◌, List, ℕ, ◌<◌}
use Rattle.std.proofs.Common.{sym, ap, ◌∙◌, subst, arith, eq-eqb, ne_eqb}
use Rattle.terms.specs.Base.{Range}
use Rattle.fields.specs.Rule.View.{selected, row, tabs}
use Rattle.fields.specs.Rule.Layout.{view}
use Rattle.fields.specs.Rule.Word.{live, used}
use Rattle.fields.specs.Rule.Asked.{Closable, TabLive}
use Rattle.fields.specs.Rule.Update.{picked, unhung, cleared, closed_at, closed}
use Rattle.fields.specs.Held.{SeatOf, TabOf, RowOf, WroteField, Unhangable}
use Rattle.fields.specs.Laws.Bits.{bits_part}
use Rattle.fields.specs.Laws.There.{live_there}
use Rattle.fields.specs.Laws.Table.{table_facts}
use Rattle.fields.specs.Laws.Closed.{picked_live, row_in}

-- ---- a selection

pub pick_seat : {t : List ℕ} {s k : ℕ} → TabLive t s k → (SeatOf t s) × (k < 256)
pick_seat {t} {s} {k} w =
    let r = live_there t s k w.there in
    let h = r.1.high in
    (record { long = (table_facts t w.sound).long; seat = r.0 }, omega arith)

pub picked_of : {t u : List ℕ} {s k : ℕ} → WroteField t u (selected s) k → u ≡ picked t s k
unfolding picked
picked_of w = w.is

-- ---- a close: k is the selected slot, p its process row

pub close_tab_lem : {t : List ℕ} {s k : ℕ} → Closable t s → k ≡ view t (selected s) → TabOf t s k
close_tab_lem {t} {s} {k} w e =
    let l = picked_live t s w in
    record {
      long = (table_facts t w.sound).long;
      seat = w.seat;
      slot = subst (Range 1 10) (sym e) (live_there t s (view t (selected s)) l).1;
    }

here_row : {t : List ℕ} {s k p : ℕ} → Closable t s → k ≡ view t (selected s) → p ≡ view t (row s k) → Range 1 80 p
here_row {t} {s} {k} {p} w e f =
    subst (Range 1 80) (sym (f ∙ ap (λ (x : ℕ). view t (row s x)) e)) (row_in t s w)

pub close_row : {t : List ℕ} {s k p : ℕ} → Closable t s → k ≡ view t (selected s) → p ≡ view t (row s k) → RowOf t p
close_row {t} w e f = record { long = (table_facts t w.sound).long; row = here_row w e f }

pub close_unhang : {t : List ℕ} {s k p : ℕ} → Closable t s → k ≡ view t (selected s) → p ≡ view t (row s k) → Unhangable t s k p
close_unhang {t} {s} {k} {p} w e f =
    let a = close_tab_lem w e in
    let g = (table_facts t w.sound).shows in
    let l : live (view t) s k ≡ true = ap (live (view t) s) e ∙ picked_live t s w in
    let r = here_row w e f in
    let h = g.tabs_hang s k w.seat a.slot l in
    let b = bits_part 10 (λ j. live (view t) s j) k a.slot l in
    let m = g.map_agrees s w.seat in
    record {
      long = a.long;
      seat = w.seat;
      slot = a.slot;
      row = r;
      bit = omega arith;
      some = g.some_tab p r (ap (used (view t)) f ∙ h.live_row);
    }

pub close_leaves : (t : List ℕ) {u : List ℕ} (s : ℕ) {k p n : ℕ} → k ≡ view t (selected s) → p ≡ view t (row s k)
    → n ≡ view t (tabs p) → n ≢ 1
    → u ≡ unhung t s k p → u ≡ closed t s
unfolding closed closed_at
close_leaves t {u} s {k} {p} {n} e f g h q =
    q ∙ sym (rw (sym e, sym f, ne_eqb (view t (tabs p)) 1 (λ z. h (g ∙ z))))

pub close_ends : (t : List ℕ) {u v : List ℕ} (s : ℕ) {k p n : ℕ} → k ≡ view t (selected s) → p ≡ view t (row s k)
    → n ≡ view t (tabs p) → n ≡ 1
    → u ≡ unhung t s k p → v ≡ cleared u p → v ≡ closed t s
unfolding closed closed_at
close_ends t {u} {v} s {k} {p} {n} e f g h q x =
    x ∙ ap (λ (y : List ℕ). cleared y p) q ∙ sym (rw (sym e, sym f, eq-eqb (view t (tabs p)) 1 (sym g ∙ h)))
