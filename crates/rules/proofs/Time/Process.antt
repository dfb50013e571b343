-- Processes: what a live process was started with is its owner and its name, as its row has them. Assumes nothing.
use Rattle.std.specs.Prelude.{ℕ, ◌+◌, ◌≡◌, refl, true, cond, ◌≢◌, List, ◌∷◌, ◌++◌, drop, eqb}
use Rattle.std.proofs.Common.{sym, ap, subst, ◌∙◌, arith}
use Rattle.std.proofs.lemmas.Bool.{false≢true}
use Rattle.std.proofs.Math.Logic.{⊎_elim}
use borrow.Author.Tests.{eq-eqb, ne_eqb}
use Rattle.terms.specs.Names.{folded}
use Rattle.fields.specs.Table.{selected, row, number, owner, tabs, last, view, used, owner_at, name_of, Closable, closed}
use Rattle.fields.specs.Laws.Each.{same_or}
use Rattle.fields.specs.Laws.Sound.{zero_unused}
use Rattle.fields.specs.Laws.Fresh.{fresh_fields}
use Rattle.rules.specs.Rule.Call.{Call, step, start, actions, is_frame, carried, latest}
use Rattle.rules.specs.Rule.History.{History}
use Rattle.rules.specs.Sheet.{be, Frame, Outcome}
use Rattle.rules.proofs.Laws.Happens.{Happens, nothing, joins, renews, selects, leaves, ends, types, points, paints}
use Rattle.rules.proofs.Laws.Happens.{sockets, fetches, stores, gets, denies, results, documents, refused_is, at_live}
use Rattle.rules.proofs.Time.Induct.{Kept, induct, history_sound}
use Rattle.rules.proofs.Time.Rows.{SameRow, NewRow, number_fits_lem, joined_rows, renewed_rows, left_rows, ended_row}
use Rattle.rules.proofs.Time.Rows.{ended_others, picked_rows, marked_rows, unmarked_rows}

-- what is promised, of calls and a table
abbrev Begun : List ℕ → List Call → List ℕ → Type 0
Begun book cs t = (p : ℕ) → used (view t) p ≡ true
    → latest 5 (view t (number p)) 3 cs ≡ be 1 (view t (owner p)) ++ name_of (view t) p

-- actions that start no process
abbrev StartsNone : List Frame → Type 0
StartsNone l = (n : ℕ) (x : List ℕ) → carried 5 n 3 x l ≡ x

module _ (book : List ℕ) (cs : List Call) (t : List ℕ) (h : Begun book cs t) where
  -- ---- a call after which each live process is one that was

  -- a row that stays, and is not begun
  stays : (c : Call) (u : List ℕ) (p : ℕ) → SameRow t u p → ((x : List ℕ) → carried 5 (view t (number p)) 3 x (actions c) ≡ x)
      → used (view u) p ≡ true
      → latest 5 (view u (number p)) 3 (c ∷ cs) ≡ be 1 (view u (owner p)) ++ name_of (view u) p
  unfolding latest
  stays c u p w f l =
      subst (λ (n : ℕ). latest 5 n 3 (c ∷ cs) ≡ be 1 (view u (owner p)) ++ name_of (view u) p) (sym w.number=)
      (rw (w.owner=, w.name=) (f (latest 5 (view t (number p)) 3 cs) ∙ h p (sym w.used= ∙ l)))

  quiet : (c : Call) (u : List ℕ) → StartsNone (actions c) → ((p : ℕ) → used (view u) p ≡ true → SameRow t u p)
      → Begun book (c ∷ cs) u
  quiet c u f g p l = stays c u p (g p l) (f (view t (number p))) l

  still : (c : Call) (u : List ℕ) → StartsNone (actions c) → ((p : ℕ) → SameRow t u p) → Begun book (c ∷ cs) u
  still c u f w = quiet c u f (λ p l. w p)

  unchanged : (c : Call) → StartsNone (actions c) → Begun book (c ∷ cs) t
  unchanged c f = still c t f (λ p. record { used= = refl; number= = refl; owner= = refl; name= = refl })

  -- the rows of a close that ends a process
  ended : (s : ℕ) → Closable t s → view t (tabs (view t (row s (view t (selected s))))) ≡ 1 → (p : ℕ)
      → used (view (closed t s)) p ≡ true → SameRow t (closed t s) p
  ended s w z p l =
      let q = view t (row s (view t (selected s))) in
      ⊎_elim
      (λ (e : p ≡ q).
      absurd (false≢true (sym (ended_row t s w z) ∙ sym (ap (λ (x : ℕ). used (view (closed t s)) x) e) ∙ l)))
      (λ (n : p ≢ q). ended_others t s w z p n)
      (same_or p q)

  -- ---- an open that begins a process

  begins : (c : Call) (u : List ℕ) (s q : ℕ) (x : List ℕ) → History book cs t → NewRow t u s x q
      → ((n : ℕ) (y : List ℕ)
      → carried 5 n 3 y (actions c) ≡ cond (eqb (view t last + 1) n) (be 1 (owner_at (view t) s) ++ folded x) y)
      → Begun book (c ∷ cs) u
  unfolding latest
  begins c u s q x g w f p l =
      let m = view t last + 1 in
      ⊎_elim
      (λ (e : p ≡ q).
      subst (λ (i : ℕ). latest 5 (view u (number i)) 3 (c ∷ cs) ≡ be 1 (view u (owner i)) ++ name_of (view u) i) (sym e)
      (subst (λ (n : ℕ). latest 5 n 3 (c ∷ cs) ≡ be 1 (view u (owner q)) ++ name_of (view u) q) (sym w.number!)
      (rw (w.owner!, w.name!) (f m (latest 5 m 3 cs) ∙ rw (eq-eqb m m refl)))))
      (λ (n : p ≢ q).
      let y = w.others p n in
      let a = number_fits_lem t p (history_sound g) (sym y.used= ∙ l) in
      stays c u p y (λ x. rw (f (view t (number p)) x, ne_eqb m (view t (number p)) (λ z. omega arith))) l)
      (same_or p q)

  -- ---- every outcome

  happens : (b e : List ℕ) (n r : ℕ) {x : Outcome} → History book cs t → Happens t b e x
      → Begun book (step t b e n r x.actions x.table ∷ cs) x.table
  unfolding carried is_frame actions
  happens b e n r g (nothing m z) = rw (refused_is m t) (unchanged _ (λ i x. refl))
  happens b e n r g (joins s w z) = still _ _ (λ i x. refl) (joined_rows t s (drop 10 e) w.takes z)
  happens b e n r g (renews s w z) = begins _ _ s _ _ g (renewed_rows t s (drop 10 e) w.takes z) (λ i x. refl)
  happens b e n r g (selects s k i fr ky a) = still _ _ (λ i x. refl) (picked_rows t s k (at_live (history_sound g) a)).rows
  happens b e n r g (leaves s i fr ky w a z) = still _ _ (λ i x. refl) (left_rows t s w z)
  happens b e n r g (ends s i fr ky w a z) = quiet _ _ (λ i x. refl) (ended s w z)
  happens b e n r g (types s i fr _ _ a) = unchanged _ (λ i x. refl)
  happens b e n r g (points s i fr _ a) = unchanged _ (λ i x. refl)
  happens b e n r g (paints i s k fr _ a z) = unchanged _ (λ i x. refl)
  happens b e n r g (sockets i s k fr _ a z) = unchanged _ (λ i x. refl)
  happens b e n r g (fetches i s k fr a ok z) = still _ _ (λ i x. refl) (marked_rows t s k _ (at_live (history_sound g) a) z).rows
  happens b e n r g (stores i s k fr _ a ok) = unchanged _ (λ i x. refl)
  happens b e n r g (gets i s k fr a ok z) = still _ _ (λ i x. refl) (marked_rows t s k _ (at_live (history_sound g) a) z).rows
  happens b e n r g (denies tag i s k fr a _) = unchanged _ (λ i x. refl)
  happens b e n r g (results m i s k fr _ a z y) = still _ _ (λ i x. refl) (unmarked_rows t s k _ (at_live (history_sound g) a)).rows
  happens b e n r g (documents i s k fr _ a y) = still _ _ (λ i x. refl) (unmarked_rows t s k _ (at_live (history_sound g) a)).rows

kept : Kept Begun
unfolding carried actions
kept =
    record {
      fresh! = λ book e p l.
          absurd (false≢true (sym (zero_unused _ p ((fresh_fields book e).number0 p)) ∙ l));
      start! = λ {book} {cs} {t} g h b r. unchanged book cs t h (start t b r t) (λ i x. refl);
      step! = λ {book} {cs} {t} b e n r g h w. happens book cs t h b e n r g w;
    }

pub history_process : {book : List ℕ} {cs : List Call} {t : List ℕ} → History book cs t → (p : ℕ) → used (view t) p ≡ true
    → latest 5 (view t (number p)) 3 cs ≡ be 1 (view t (owner p)) ++ name_of (view t) p
history_process h = induct Begun kept h
