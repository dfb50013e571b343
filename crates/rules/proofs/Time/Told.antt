-- What a table tells of what is due to its tabs, and how every update of it goes on telling it. Assumes nothing.
use Rattle.std.specs.Prelude.{ℕ, ◌+◌, ◌<◌, ◌≡◌, Bool, true, false, ◌≢◌, ◌⊎◌, List, ◌∷◌}
use Rattle.std.proofs.Common.{sym, ap, ap₂, ◌∙◌, inl, inr, ⊎_elim, arith}
use Rattle.std.proofs.lemmas.Bool.{false≢true}
use Rattle.fields.specs.Table.{View, selected, opens, serial, view, seat_of_id, serial_of_id, sound_table, live, free_slot, Openable}
use Rattle.fields.specs.Table.{Closable, TabLive, opened, picked, closed, waits, marked, unmarked}
use Rattle.fields.specs.declared.mark.Mark.{Mark}
use Rattle.fields.specs.Laws.Each.{same_or}
use Rattle.fields.specs.Laws.There.{live_there}
use Rattle.fields.specs.Laws.Asked.{live_serial}
use Rattle.fields.specs.Laws.Tab.{id_seat, id_serial}
use Rattle.fields.specs.Laws.Table.{table_facts}
use Rattle.rules.specs.Rule.Call.{Call}
use Rattle.rules.specs.Sheet.{new_id}
use Rattle.rules.proofs.Laws.Happens.{at_live}
use Rattle.rules.specs.Rule.Desk.{id_at, TabAt}
use Rattle.rules.proofs.Time.Tabs.{Stays, id_apart, opened_new, opened_tab, opened_waits, closed_gone, closed_tab}
use Rattle.rules.proofs.Time.Tabs.{closed_waits, picked_still, picked_waits}
use Rattle.rules.proofs.Time.Marks.{MarkedTo, marked_to, unmarked_to}
use Rattle.rules.proofs.Time.Rows.{opened_heads, closed_heads, picked_rows, marked_rows, unmarked_rows}
use Rattle.rules.proofs.Time.Pending.{mark_or, due, MarkTurns}
use Rattle.rules.proofs.Time.Same.{here_or}

-- what every table of a history tells: of a live tab what is due to it, and nothing is due to an id that was never given
pub record Tells (cs : List Call) (t : List ℕ) : Type 0 where
  pub tells : (m : Mark) (s k : ℕ) → live (view t) s k ≡ true → waits (view t) s k m ≡ due m cs (id_at t s k)
  pub never : (m : Mark) (i : ℕ) → view t (opens (seat_of_id i)) < serial_of_id i → due m cs i ≡ false

-- a call that neither asks nor brings changes nothing of it
pub silent : {cs : List Call} {c : Call} {u : List ℕ} → Tells cs u → ((m : Mark) (i : ℕ) → due m (c ∷ cs) i ≡ due m cs i)
    → Tells (c ∷ cs) u
silent {u = u} w h =
    record {
      tells = λ m s k l. w.tells m s k l ∙ sym (h m (id_at u s k));
      never = λ m i n. h m i ∙ w.never m i n;
    }

-- a live tab is another than one that is not
apart : (v : View) (r j s k : ℕ) → live v r j ≡ true → live v s k ≡ false → (r ≢ s) ⊎ (j ≢ k)
apart v r j s k l f =
    ⊎_elim (λ q. absurd (false≢true (sym f ∙ sym (ap₂ (live v) q.0 q.1) ∙ l))) (λ n. n) (here_or r j s k)

module _ {cs : List Call} {t : List ℕ} (told : Tells cs t) where
  -- ---- tabs that stay

  record Stay (u : List ℕ) : Type 0 where
    tab : (r j : ℕ) → live (view u) r j ≡ true → (live (view t) r j ≡ true) × (id_at u r j ≡ id_at t r j)
    waits= : (m : Mark) (r j : ℕ) → live (view u) r j ≡ true → waits (view u) r j m ≡ waits (view t) r j m
    opens= : (r : ℕ) → view u (opens r) ≡ view t (opens r)

  stays : {u : List ℕ} → Stay u → Tells cs u
  stays {u} w =
      record {
        tells = λ m r j l. let x = w.tab r j l in w.waits= m r j l ∙ told.tells m r j x.0 ∙ ap (due m cs) (sym x.1);
        never = λ m i n. told.never m i (let a = w.opens= (seat_of_id i) in omega arith);
      }

  pub closes : (s : ℕ) → Closable t s → Tells cs (closed t s)
  closes s w =
      let v = view (closed t s) in
      stays
      (record {
        tab = λ r j l. let x = closed_tab t s w r j l in (x.was, x.id=);
        waits= = λ m r j l. (closed_waits t s w r j (apart v r j s (view t (selected s)) l (closed_gone t s w))).waits= m;
        opens= = (closed_heads t s w).opens=;
      })

  pub picks : (s k : ℕ) → TabLive t s k → Tells cs (picked t s k)
  picks s k w =
      let x = picked_still t s k w in
      stays
      (record {
        tab = λ r j l. let y = x.tab r j (sym (x.live= r j) ∙ l) in (y.was, y.id=);
        waits= = λ m r j l. (picked_waits t s k w r j).waits= m;
        opens= = (picked_rows t s k w).heads.opens=;
      })

  -- ---- a new tab

  opens_new : (s : ℕ) (x : List ℕ) → Openable t s x → (m : Mark) → due m cs (new_id (view t) s) ≡ false
  opens_new s x w m =
      let n = view t (opens s) in
      let a = w.more in
      let p = id_seat s (n + 1) (omega arith) in
      let q = id_serial s (n + 1) (omega arith) in
      told.never m (new_id (view t) s) (rw (p, q) (omega arith))

  pub opened_tells : (s : ℕ) (x : List ℕ) → Openable t s x → Tells cs (opened t s x)
  opened_tells s x w =
      record {
        tells = λ m r j l. ⊎_elim (λ q. new m r j q.0 q.1) (λ z. old m r j z) (opened_tab t s x w r j l);
        never = λ m i n. told.never m i (fewer i n (same_or (seat_of_id i) s));
      }
    where
      u : List ℕ
      u = opened t s x

      new : (m : Mark) (r j : ℕ) → r ≡ s → j ≡ free_slot (view t) s → waits (view u) r j m ≡ due m cs (id_at u r j)
      new m r j p q =
          let y = opened_new t s x w in rw (p, q) (y.waits= m ∙ sym (opens_new s x w m) ∙ ap (due m cs) (sym y.id=))

      old : (m : Mark) (r j : ℕ) → Stays t u r j → waits (view u) r j m ≡ due m cs (id_at u r j)
      old m r j z =
          (opened_waits t s x w r j (apart (view t) r j s (free_slot (view t) s) z.was (opened_new t s x w).free)).waits= m
          ∙ told.tells m r j z.was ∙ ap (due m cs) (sym z.id=)

      fewer : (i : ℕ) → view u (opens (seat_of_id i)) < serial_of_id i → (seat_of_id i ≡ s) ⊎ (seat_of_id i ≢ s)
          → view t (opens (seat_of_id i)) < serial_of_id i
      fewer i n (inl p) =
          let y = (opened_heads t s x w).opens! in
          let a = ap (λ (r : ℕ). view u (opens r)) p in
          let d = ap (λ (r : ℕ). view t (opens r)) p in
          omega arith
      fewer i n (inr p) = let a = (opened_heads t s x w).opens= (seat_of_id i) p in omega arith

  -- ---- a mark

  -- a live tab has an id that was given
  given : (i s k : ℕ) → sound_table t ≡ true → live (view t) s k ≡ true → view t (opens (seat_of_id i)) < serial_of_id i
      → i ≢ id_at t s k
  given i s k e l n q =
      let r = live_there t s k l in
      let x = view t (serial s k) in
      let a = live_serial {t = t} {s = s} {k = k} (record { sound = e; there = l }) in
      let f = (table_facts t e).shows.serials_fit s k r.0 r.1 in
      let p = ap seat_of_id q ∙ id_seat s x a in
      let o = ap serial_of_id q ∙ id_serial s x a in
      let d = ap (λ (y : ℕ). view t (opens y)) p in
      omega arith

  module _ {b : Bool} {m : Mark} {i s k : ℕ} {u : List ℕ} {c : Call} (e : sound_table t ≡ true) (a : TabAt t i s k)
      (w : MarkedTo b t u s k m) (d : MarkTurns b m i cs c) where
    turned_here : (o : Mark) → waits (view u) s k o ≡ due o (c ∷ cs) i
    turned_here o =
        ⊎_elim (λ (q : o ≡ m). rw q (w.marked= ∙ sym d.this))
        (λ (n : o ≢ m). w.other_mark o n ∙ told.tells o s k a.there ∙ ap (due o cs) a.id ∙ sym (d.rest o i (inl n)))
        (mark_or o m)

    turned_else : (o : Mark) (r j : ℕ) → live (view t) r j ≡ true → (r ≢ s) ⊎ (j ≢ k)
        → waits (view u) r j o ≡ due o (c ∷ cs) (id_at t r j)
    turned_else o r j l h =
        let other : id_at t r j ≢ i = λ q.
        let z = id_apart t r j s k e l a.there (q ∙ sym a.id) in ⊎_elim (λ n. n z.0) (λ n. n z.1) h in
        (w.marks.other_tab r j h).waits= o ∙ told.tells o r j l ∙ sym (d.rest o (id_at t r j) (inr other))

    turned : ((r : ℕ) → view u (opens r) ≡ view t (opens r)) → Tells (c ∷ cs) u
    turned f =
        record {
          tells = λ o r j l.
              let l' = sym (w.marks.still.live= r j) ∙ l in
              let same = ap (due o (c ∷ cs)) (sym (w.marks.still.tab r j l').id=) in
              ⊎_elim
              (λ q. ap₂ (λ (x y : ℕ). waits (view u) x y o) q.0 q.1 ∙ turned_here o
              ∙ ap (due o (c ∷ cs)) (sym a.id) ∙ sym (ap₂ (λ (x y : ℕ). due o (c ∷ cs) (id_at t x y)) q.0 q.1))
              (λ h. turned_else o r j l' h) (here_or r j s k) ∙ same;
          never = λ o j n.
              let g : view t (opens (seat_of_id j)) < serial_of_id j = let x = f (seat_of_id j) in omega arith in
              d.rest o j (inr (λ q. given j s k e a.there g (q ∙ sym a.id))) ∙ told.never o j g;
        }

  module _ {i s k : ℕ} (m : Mark) (e : sound_table t ≡ true) (a : TabAt t i s k) where
    tab : TabLive t s k
    tab = at_live e a

    pub marks : {c : Call} → waits (view t) s k m ≡ false → MarkTurns true m i cs c → Tells (c ∷ cs) (marked t s k m)
    marks w d = turned e a (marked_to t s k m tab w) d (marked_rows t s k m tab w).heads.opens=

    pub unmarks : {c : Call} → waits (view t) s k m ≡ true → MarkTurns false m i cs c → Tells (c ∷ cs) (unmarked t s k m)
    unmarks w d = turned e a (unmarked_to t s k m tab w) d (unmarked_rows t s k m tab).heads.opens=
