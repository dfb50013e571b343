-- The bar: what a seat's screen was last sent is the suffix of its selected tab, in lower case, and empty where none is
-- selected. Assumes nothing.
use Rattle.std.specs.Prelude.{ℕ, ◌≡◌, refl, true, cond, ◌≢◌, List, [], ◌∷◌, drop, eqb}
use Rattle.std.proofs.Common.{sym, ap, subst, ◌∙◌, inl, ⊎_elim, arith, eq-eqb, ne_eqb}
use Rattle.terms.specs.Names.{folded}
use Rattle.terms.specs.Base.{Range}
use Rattle.fields.specs.Table.{selected, view, live, free_slot, Openable, Closable, TabLive, opened, picked, closed}
use Rattle.fields.specs.Laws.Each.{same_or}
use Rattle.fields.specs.Laws.There.{live_there}
use Rattle.fields.specs.Laws.Table.{table_facts}
use Rattle.fields.specs.Laws.Fresh.{fresh_fields}
use Rattle.rules.specs.Rule.Call.{Call, step, actions, is_frame, carried, latest, typed}
use Rattle.rules.specs.Rule.History.{History}
use Rattle.rules.specs.Rule.Quark.{Bar}
use Rattle.rules.specs.Sheet.{Outcome}
use Rattle.rules.proofs.Laws.Happens.{Happens, nothing, joins, renews, selects, leaves, ends, types}
use Rattle.rules.specs.Rule.Desk.{id_at, suffix_at}
use Rattle.rules.proofs.Laws.Happens.{points, paints, sockets, fetches, stores, gets, denies, results, documents}
use Rattle.rules.proofs.Laws.Happens.{refused_is, at_live}
use Rattle.rules.proofs.Time.Induct.{induct, history_sound}
use Rattle.rules.proofs.Time.Tabs.{opened_new, opened_keeps, opened_chosen, closed_keeps, closed_chosen}
use Rattle.rules.proofs.Time.Tabs.{closed_chosen_other, picked_still, picked_chosen, picked_chosen_other}
use Rattle.rules.proofs.Time.Marks.{Marks, marked_marks, unmarked_marks}
use Rattle.rules.proofs.Time.Suffix.{history_suffix}

-- x is what a seat's bar is to show: nothing, or the suffix of the selected tab
data Shown (t : List ℕ) (s : ℕ) (x : List ℕ) : Type 0 where
  none : view t (selected s) ≡ 0 → x ≡ [] → Shown t s x
  some : Range 1 8 s → view t (selected s) ≢ 0 → x ≡ suffix_at t s (view t (selected s)) → Shown t s x

-- every seat was last sent what it is to show
abbrev Barred : List Call → List ℕ → Type 0
Barred cs t = (s : ℕ) → Shown t s (latest 1 s 1 cs)

-- a tab that is selected now, whose suffix is x
chosen_shown : (t : List ℕ) (s k : ℕ) (x : List ℕ) → live (view t) s k ≡ true → view t (selected s) ≡ k → suffix_at t s k ≡ x
    → Shown t s x
chosen_shown t s k x l e q =
    let r = live_there t s k l in
    let low = r.1.low in
    some r.0 (λ z. omega arith) (sym (ap (suffix_at t s) e ∙ q))

module _ {book : List ℕ} {cs : List Call} {t : List ℕ} (h : History book cs t) (w : Barred cs t) where
  -- the selection stays, and so does the suffix of every tab that was live
  same : (u : List ℕ) (s : ℕ) → view u (selected s) ≡ view t (selected s)
      → ((k : ℕ) → live (view t) s k ≡ true → suffix_at u s k ≡ suffix_at t s k)
      → Shown u s (latest 1 s 1 cs)
  same u s e f = go (w s)
    where
      go : Shown t s (latest 1 s 1 cs) → Shown u s (latest 1 s 1 cs)
      go (none z q) = none (e ∙ z) q
      go (some r n q) =
          let k = view t (selected s) in
          some r (λ z. n (sym e ∙ z))
          (q ∙ sym (ap (suffix_at u s) e ∙ f k ((table_facts t (history_sound h)).shows.selected_live s r n)))

  -- one seat is sent a bar
  sent : (u : List ℕ) (s : ℕ) (x : List ℕ) → Shown u s x → ((r : ℕ) → r ≢ s → Shown u r (latest 1 r 1 cs))
      → (r : ℕ) → Shown u r (cond (eqb s r) x (latest 1 r 1 cs))
  sent u s x here there r =
      ⊎_elim (λ (q : s ≡ r). rw (eq-eqb s r q) (subst (λ (y : ℕ). Shown u y x) q here))
      (λ (n : s ≢ r). rw (ne_eqb s r n) (there r (λ q. n (sym q)))) (same_or s r)

  opens_bar : (s : ℕ) (x : List ℕ) → Openable t s x
      → (r : ℕ) → Shown (opened t s x) r (cond (eqb s r) (folded x) (latest 1 r 1 cs))
  opens_bar s x o =
      let u = opened t s x in
      let y = opened_new t s x o in
      sent u s (folded x) (chosen_shown u s (free_slot (view t) s) (folded x) y.there y.chosen y.suffix=)
      (λ r n. same u r (opened_chosen t s x o r n) (λ k l. (opened_keeps t s x o r k l).suffix=))

  picks_bar : (s k : ℕ) → TabLive t s k → (r : ℕ) → Shown (picked t s k) r (cond (eqb s r) (suffix_at t s k) (latest 1 r 1 cs))
  picks_bar s k o =
      let u = picked t s k in
      let x = suffix_at t s k in
      let y = picked_still t s k o in
      sent u s x (chosen_shown u s k x (y.live= s k ∙ o.there) (picked_chosen t s k o) (y.tab s k o.there).suffix=)
      (λ r n. same u r (picked_chosen_other t s k o r n) (λ j l. (y.tab r j l).suffix=))

  closes_bar : (s : ℕ) → Closable t s → (r : ℕ) → Shown (closed t s) r (cond (eqb s r) [] (latest 1 r 1 cs))
  closes_bar s o =
      sent (closed t s) s [] (none (closed_chosen t s o) refl)
      (λ r n. same (closed t s) r (closed_chosen_other t s o r n) (λ k l. (closed_keeps t s o r k l (inl n)).suffix=))

  marks_bar : {u : List ℕ} {s k : ℕ} → Marks t u s k → Barred cs u
  marks_bar {u = u} o r = same u r (o.chosen= r) (λ k l. (o.still.tab r k l).suffix=)

  bar_step : (b e : List ℕ) (n r : ℕ) {x : Outcome} → Happens t b e x
      → Barred (step t b e n r x.actions x.table ∷ cs) x.table
  unfolding actions latest carried is_frame
  bar_step b e n r (nothing m _) = rw (refused_is m t) w
  bar_step b e n r (joins s o _) = opens_bar s (drop 10 e) o.takes
  bar_step b e n r (renews s o _) = opens_bar s (drop 10 e) o.takes
  bar_step b e n r (selects s k i _ _ a) = picks_bar s k (at_live (history_sound h) a)
  bar_step b e n r (leaves s i _ _ o _ _) = closes_bar s o
  bar_step b e n r (ends s i _ _ o _ _) = closes_bar s o
  bar_step b e n r (types s i _ _ _ _) = w
  bar_step b e n r (points s i _ _ _) = w
  bar_step b e n r (paints i s k _ _ _ _) = w
  bar_step b e n r (sockets i s k _ _ _ _) = w
  bar_step b e n r (fetches i s k _ a _ o) = marks_bar (marked_marks t s k _ (at_live (history_sound h) a) o)
  bar_step b e n r (stores i s k _ _ _ _) = w
  bar_step b e n r (gets i s k _ a _ o) = marks_bar (marked_marks t s k _ (at_live (history_sound h) a) o)
  bar_step b e n r (denies tag i s k _ _ _) = w
  bar_step b e n r (results p i s k _ _ a _ o) = marks_bar (unmarked_marks t s k _ (at_live (history_sound h) a))
  bar_step b e n r (documents i s k _ _ a o) = marks_bar (unmarked_marks t s k _ (at_live (history_sound h) a))

barred : {book : List ℕ} {cs : List Call} {t : List ℕ} → History book cs t → Barred cs t
unfolding actions latest carried
barred h =
    induct (λ book cs t. Barred cs t)
    (record {
      fresh! = λ b o s. none ((fresh_fields b o).selected0 s) refl;
      start! = λ h w b r. w;
      step! = λ b e n r h w x. bar_step h w b e n r x;
    })
    h

pub history_bar : {book : List ℕ} {cs : List Call} {t : List ℕ} → History book cs t → Bar cs t
history_bar {cs = cs} {t = t} h s = go (latest 1 s 1 cs) (barred h s)
  where
    k : ℕ
    k = view t (selected s)

    go : (x : List ℕ) → Shown t s x → x ≡ cond (eqb k 0) [] (folded (typed cs (id_at t s k)))
    go x (none z q) = rw (eq-eqb k 0 z) q
    go x (some r n q) =
        rw (ne_eqb k 0 n) (q ∙ history_suffix h s k ((table_facts t (history_sound h)).shows.selected_live s r n))
