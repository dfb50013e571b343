-- The typed suffix: every live tab hangs on a process with what was typed for it, in lower case. Assumes nothing.
use Rattle.std.specs.Prelude.{ℕ, ◌≡◌, refl, true, false, List, ◌∷◌, drop, eqb}
use Rattle.std.proofs.Common.{sym, ap, ◌∙◌}
use Rattle.std.proofs.lemmas.Bool.{false≢true}
use Rattle.std.proofs.Math.Bool.{or-false}
use Rattle.std.proofs.Math.Logic.{⊎_elim}
use borrow.Author.Tests.{eq-eqb, ne_eqb}
use Rattle.terms.specs.Names.{folded, sound_book, under}
use Rattle.terms.specs.Laws.Fold.{folded_folded}
use Rattle.terms.specs.Laws.Under.{under_fold}
use Rattle.fields.specs.Table.{view, live, fresh, free_slot, Openable, opened}
use Rattle.fields.specs.Laws.Sound.{zero_free}
use Rattle.fields.specs.Laws.Fresh.{fresh_fields}
use Rattle.rules.specs.Rule.Call.{Call, step, start, event, actions, payload_of, is_frame, sends, typed}
use Rattle.rules.specs.Rule.History.{History}
use Rattle.rules.specs.Rule.Demand.{Suffix}
use Rattle.rules.specs.Sheet.{Frame, Outcome, new_id}
use Rattle.rules.proofs.Laws.Happens.{Happens, nothing, joins, renews, selects, leaves, ends, types}
use Rattle.rules.specs.Rule.Desk.{id_at, suffix_at, TabAt}
use Rattle.rules.proofs.Laws.Happens.{points, paints, sockets, fetches, stores, gets, denies, results, documents}
use Rattle.rules.proofs.Laws.Happens.{refused_is, at_live}
use Rattle.rules.proofs.Time.Induct.{Kept, induct, history_sound}
use Rattle.rules.proofs.Time.Tabs.{Stays, Still, id_new, opened_new, opened_tab, closed_tab, picked_still}
use Rattle.rules.proofs.Time.Marks.{marked_marks, unmarked_marks}

-- what is promised, of calls and a table
abbrev Typed : List ℕ → List Call → List ℕ → Type 0
Typed book cs t = (s k : ℕ) → live (view t) s k ≡ true → suffix_at t s k ≡ folded (typed cs (id_at t s k))

-- no tab is live in a fresh table
pub fresh_free : (book : List ℕ) → sound_book book ≡ true → (s k : ℕ) → live (view (fresh book)) s k ≡ false
fresh_free book e s k = zero_free (view (fresh book)) s k ((fresh_fields book e).tab0 s k).serial0

-- ---- a call after which each live tab is one that was

module _ (book : List ℕ) (cs : List Call) (t : List ℕ) (h : Typed book cs t) where
  -- a tab that stays, and is not started
  stays : (c : Call) (u : List ℕ) (s k : ℕ) → Stays t u s k → sends 5 (id_at t s k) 1 (actions c) ≡ false
      → suffix_at u s k ≡ folded (typed (c ∷ cs) (id_at u s k))
  unfolding typed
  stays c u s k w f = rw (w.suffix=, w.id=, f) (h s k w.was)

  -- no tab is started
  quiet : (c : Call) (u : List ℕ) → ((i : ℕ) → sends 5 i 1 (actions c) ≡ false)
      → ((s k : ℕ) → live (view u) s k ≡ true → Stays t u s k) → Typed book (c ∷ cs) u
  quiet c u f g s k l = stays c u s k (g s k l) (f (id_at t s k))

  still : (c : Call) (u : List ℕ) → ((i : ℕ) → sends 5 i 1 (actions c) ≡ false) → Still t u → Typed book (c ∷ cs) u
  still c u f w = quiet c u f (λ s k l. w.tab s k (sym (w.live= s k) ∙ l))

  unchanged : (c : Call) → ((i : ℕ) → sends 5 i 1 (actions c) ≡ false) → Typed book (c ∷ cs) t
  unchanged c f =
      quiet c t f (λ s k l. record { was = l; id= = refl; row= = refl; suffix= = refl; process= = refl })

  -- ---- an open

  begun : (b e : List ℕ) (n r s : ℕ) (l : List Frame) → Openable t s (drop 10 e)
      → ((i : ℕ) → sends 5 i 1 l ≡ eqb (new_id (view t) s) i)
      → Typed book (step t b e n r l (opened t s (drop 10 e)) ∷ cs) (opened t s (drop 10 e))
  unfolding typed actions event payload_of
  begun b e n r s l w f p k live! =
      let u = opened t s (drop 10 e) in
      let x = opened_new t s (drop 10 e) w in
      let i = new_id (view t) s in
      ⊎_elim
      (λ (at : (p ≡ s) × (k ≡ free_slot (view t) s)).
      rw (at.0, at.1, x.suffix=, x.id=, f i, eq-eqb i i refl))
      (λ (y : Stays t u p k).
      stays (step t b e n r l u) u p k y
      (f (id_at t p k) ∙ ne_eqb i (id_at t p k) (λ z. id_new t s (drop 10 e) p k w y.was (sym z))))
      (opened_tab t s (drop 10 e) w p k live!)

  -- ---- every outcome

  happens : (b e : List ℕ) (n r : ℕ) {x : Outcome} → History book cs t → Happens t b e x
      → Typed book (step t b e n r x.actions x.table ∷ cs) x.table
  unfolding sends is_frame actions
  happens b e n r g (nothing m z) = rw (refused_is m t) (unchanged _ (λ i. refl))
  happens b e n r g (joins s w z) = begun b e n r s _ w.takes (λ i. or-false (eqb (new_id (view t) s) i))
  happens b e n r g (renews s w z) = begun b e n r s _ w.takes (λ i. or-false (eqb (new_id (view t) s) i))
  happens b e n r g (selects s k i fr ky a) = still _ _ (λ i. refl) (picked_still t s k (at_live (history_sound g) a))
  happens b e n r g (leaves s i fr ky w a z) = quiet _ _ (λ i. refl) (closed_tab t s w)
  happens b e n r g (ends s i fr ky w a z) = quiet _ _ (λ i. refl) (closed_tab t s w)
  happens b e n r g (types s i fr _ _ a) = unchanged _ (λ i. refl)
  happens b e n r g (points s i fr _ a) = unchanged _ (λ i. refl)
  happens b e n r g (paints i s k fr _ a z) = unchanged _ (λ i. refl)
  happens b e n r g (sockets i s k fr _ a z) = unchanged _ (λ i. refl)
  happens b e n r g (fetches i s k fr a ok z) = still _ _ (λ i. refl) (marked_marks t s k _ (at_live (history_sound g) a) z).still
  happens b e n r g (stores i s k fr _ a ok) = unchanged _ (λ i. refl)
  happens b e n r g (gets i s k fr a ok z) = still _ _ (λ i. refl) (marked_marks t s k _ (at_live (history_sound g) a) z).still
  happens b e n r g (denies tag i s k fr a _) = unchanged _ (λ i. refl)
  happens b e n r g (results m i s k fr _ a z y) = still _ _ (λ i. refl) (unmarked_marks t s k _ (at_live (history_sound g) a)).still
  happens b e n r g (documents i s k fr _ a y) = still _ _ (λ i. refl) (unmarked_marks t s k _ (at_live (history_sound g) a)).still

kept : Kept Typed
unfolding sends actions
kept =
    record {
      fresh! = λ book e s k l. absurd (false≢true (sym (fresh_free book e s k) ∙ l));
      start! = λ {book} {cs} {t} g h b r. unchanged book cs t h (start t b r t) (λ i. refl);
      step! = λ {book} {cs} {t} b e n r g h w. happens book cs t h b e n r g w;
    }

pub history_suffix : {book : List ℕ} {cs : List Call} {t : List ℕ} → History book cs t → Suffix cs t
history_suffix h = induct Typed kept h

-- what is under the suffix of a tab is under what was typed for it
pub inside_typed : {book : List ℕ} {cs : List Call} {t : List ℕ} (i s k : ℕ) (name : List ℕ) → History book cs t → TabAt t i s k
    → under name (suffix_at t s k) ≡ true
    → under name (typed cs i) ≡ true
inside_typed {cs = cs} {t = t} i s k name h a e =
    let x = typed cs i in
    sym (under_fold name name (folded x) x refl (folded_folded x))
    ∙ sym (ap (λ (y : List ℕ). under name y)
    (history_suffix h s k a.there ∙ ap (λ (j : ℕ). folded (typed cs j)) a.id))
    ∙ e
