-- A tab that stays: what depends on one field, where that field is as it was; and an open and a close, whichever way they go.
-- Assumes nothing.
use Rattle.std.specs.Prelude.{ℕ, ◌+◌, ◌≡◌, refl, true, ◌⊎◌, ◌≢◌, List, Some}
use Rattle.std.proofs.Common.{sym, ap, ◌∙◌, inl, inr, ⊎_elim}
use Rattle.std.proofs.lemmas.Bool.{false≢true}
use Rattle.terms.specs.Names.{folded}
use Rattle.terms.specs.Laws.Bools.{agree}
use Rattle.fields.specs.Table.{View, selected, opens, serial, row, waiting, number, tabs, most_opens, view, tab_id, live, used}
use Rattle.fields.specs.Table.{owner_at, name_of, placed, process_with, free_slot, Openable, Closable, opened, closed, waits}
use Rattle.fields.specs.declared.place.Place.{Place}
use Rattle.fields.specs.declared.mark.Mark.{Mark}
use Rattle.fields.specs.declared.mark.Mark.TheVariants.{Cookie, Document}
use Rattle.fields.specs.Laws.Each.{at_or, same_or}
use Rattle.fields.specs.Laws.Sound.{live_not, live_of}
use Rattle.fields.specs.Laws.Tab.{id_one}
use Rattle.fields.specs.Laws.Table.{table_facts}
use Rattle.fields.specs.Laws.Find.{with_name}
use Rattle.fields.specs.Laws.Seats.{Elsewhere, Changed}
use Rattle.fields.specs.Laws.Quiet.{Quiet}
use Rattle.fields.specs.Laws.Opened.{opened_joins, opened_renews}
use Rattle.fields.specs.Laws.Closed.{closed_leaves, closed_ends}
use Rattle.fields.specs.Laws.Marks.{other, waits_same}
use Rattle.rules.specs.Rule.Desk.{id_at, process_at, suffix_at}
use Rattle.rules.proofs.Time.Rows.{SameRow, RowsStay, joined_rows, renewed_rows, left_rows, ended_row, ended_others}

-- ---- fields

-- the same here and elsewhere is the same everywhere
pub everywhere : {s k : ℕ} (f g : ℕ → ℕ → ℕ) → f s k ≡ g s k → ((r j : ℕ) → Elsewhere s k r j → f r j ≡ g r j)
    → (r j : ℕ) → f r j ≡ g r j
everywhere {s} {k} f g here there r j =
    at_or (λ r. f r j ≡ g r j) r s (at_or (λ j. f s j ≡ g s j) j k here (λ n. there s j (inr n))) (λ n. there r j (inl n))

-- the same tab row, or another
pub here_or : (r j s k : ℕ) → ((r ≡ s) × (j ≡ k)) ⊎ ((r ≢ s) ⊎ (j ≢ k))
here_or r j s k =
    ⊎_elim (λ (a : r ≡ s). ⊎_elim (λ (b : j ≡ k). inl (a, b)) (λ (n : j ≢ k). inr (inr n)) (same_or j k))
    (λ (n : r ≢ s). inr (inl n)) (same_or r s)

module _ (v u : View) (r j : ℕ) where
  pub live_same : u (serial r j) ≡ v (serial r j) → live u r j ≡ live v r j
  live_same e =
      agree (live u r j) (live v r j)
      (λ l. live_of v r j (λ z. live_not u r j l (e ∙ z)))
      (λ l. live_of u r j (λ z. live_not v r j l (sym e ∙ z)))

-- ---- marks and places

pub other_is : (o m : Mark) → o ≢ m → o ≡ other m
other_is Cookie Cookie h = absurd (h refl)
other_is Cookie Document h = refl
other_is Document Cookie h = refl
other_is Document Document h = absurd (h refl)

pub at_apart : (r j s k : ℕ) → Some (placed r j) ≡ Some (placed s k) → (r ≡ s) × (j ≡ k)
at_apart r j s k e =
    let p : placed r j ≡ placed s k = cc in (ap (λ (q : Place). q.seat) p, ap (λ (q : Place). q.slot) p)

-- ---- a tab that stays

-- the tab in slot j of seat r was live before, and is as it was, but perhaps for what it waits for
pub record Stays (t u : List ℕ) (r j : ℕ) : Type 0 where
  pub was : live (view t) r j ≡ true
  pub id= : id_at u r j ≡ id_at t r j
  pub row= : view u (row r j) ≡ view t (row r j)
  pub suffix= : suffix_at u r j ≡ suffix_at t r j
  pub process= : process_at u r j ≡ process_at t r j

-- it is live
pub stays_live : (t u : List ℕ) (r j : ℕ) → Stays t u r j → live (view u) r j ≡ true
stays_live t u r j w =
    live_of (view u) r j
    (λ z. live_not (view t) r j w.was (sym (id_one r (view u (serial r j)) (view t (serial r j)) w.id=) ∙ z))

pub stays : {t u : List ℕ} {r j : ℕ} → live (view t) r j ≡ true → view u (serial r j) ≡ view t (serial r j)
    → view u (row r j) ≡ view t (row r j) → SameRow t u (view t (row r j))
    → Stays t u r j
stays {t} {u} {r} {j} l a b w =
    record {
      was = l;
      id= = ap (tab_id r) a;
      row= = b;
      suffix= = ap (name_of (view u)) b ∙ w.name=;
      process= = ap (λ (p : ℕ). view u (number p)) b ∙ w.number=;
    }

-- it waits for what it waited for
pub record Waits (t u : List ℕ) (r j : ℕ) : Type 0 where
  pub waiting= : view u (waiting r j) ≡ view t (waiting r j)
  pub waits= : (m : Mark) → waits (view u) r j m ≡ waits (view t) r j m

pub waits_still : {t u : List ℕ} {r j : ℕ} → view u (waiting r j) ≡ view t (waiting r j) → Waits t u r j
waits_still {t} {u} {r} {j} e = record { waiting= = e; waits= = λ m. waits_same (view t) (view u) r j m e }

-- every tab stays, and none comes
pub record Still (t u : List ℕ) : Type 0 where
  pub live= : (r j : ℕ) → live (view u) r j ≡ live (view t) r j
  pub tab : (r j : ℕ) → live (view t) r j ≡ true → Stays t u r j

pub quiet_still : {t u : List ℕ} {s k : ℕ} → Quiet (view t) (view u) s k → RowsStay t u → Still t u
quiet_still {t} {u} q w =
    let a = everywhere (λ r j. view u (serial r j)) (λ r j. view t (serial r j)) q.serial= q.rest.serial= in
    let b = everywhere (λ r j. view u (row r j)) (λ r j. view t (row r j)) q.row= q.rest.row= in
    record {
      live= = λ r j. live_same (view t) (view u) r j (a r j);
      tab = λ r j l. stays l (a r j) (b r j) (w.rows (view t (row r j)));
    }

-- ---- an open, whether its tab joins a process or begins one

pub record OpenedTab (t u : List ℕ) (s k : ℕ) (x : List ℕ) : Type 0 where
  pub changed : Changed (view t) (view u) s k
  pub serial! : view u (serial s k) ≡ view t (opens s) + 1
  pub suffix! : name_of (view u) (view u (row s k)) ≡ folded x
  pub waiting! : view u (waiting s k) ≡ 0
  pub selected! : view u (selected s) ≡ k
  pub rows : (q : ℕ) → used (view t) q ≡ true → SameRow t u q

module _ (t : List ℕ) (s : ℕ) (x : List ℕ) (w : Openable t s x) where
  abbrev p : ℕ
  p = process_with (view t) (owner_at (view t) s) x

  joined_tab : p ≢ 0 → OpenedTab t (opened t s x) s (free_slot (view t) s) x
  joined_tab h =
      let a = opened_joins t s x w h in
      let b = joined_rows t s x w h in
      record {
        changed = a.rest;
        serial! = a.serial!;
        suffix! =
            ap (name_of (view (opened t s x))) a.row!
            ∙ (b p).name=
            ∙ with_name (view t) most_opens (owner_at (view t) s) x (table_facts t w.sound).shows h;
        waiting! = a.waiting!;
        selected! = a.selected!;
        rows = λ q l. b q;
      }

  renewed_tab : p ≡ 0 → OpenedTab t (opened t s x) s (free_slot (view t) s) x
  renewed_tab z =
      let a = opened_renews t s x w z in
      let b = renewed_rows t s x w z in
      record {
        changed = a.rest;
        serial! = a.serial!;
        suffix! = ap (name_of (view (opened t s x))) a.row! ∙ a.name!;
        waiting! = a.waiting!;
        selected! = a.selected!;
        rows = λ q l. b.others q (λ e. false≢true (sym b.was_free ∙ ap (used (view t)) (sym e) ∙ l));
      }

  pub opened_at_lem : OpenedTab t (opened t s x) s (free_slot (view t) s) x
  opened_at_lem = ⊎_elim renewed_tab joined_tab (same_or p 0)

-- ---- a close, whether the process stays or ends

pub record ClosedTab (t u : List ℕ) (s k : ℕ) : Type 0 where
  pub changed : Changed (view t) (view u) s k
  pub serial0 : view u (serial s k) ≡ 0
  pub selected! : view u (selected s) ≡ 0
  pub rows : (q : ℕ) → used (view u) q ≡ true → SameRow t u q

module _ (t : List ℕ) (s : ℕ) (w : Closable t s) where
  abbrev n : ℕ
  n = view t (tabs (view t (row s (view t (selected s)))))

  left_tab : n ≢ 1 → ClosedTab t (closed t s) s (view t (selected s))
  left_tab h =
      let a = closed_leaves t s w h in
      record { changed = a.rest; serial0 = a.gone.serial0; selected! = a.selected!; rows = λ q l. left_rows t s w h q }

  ended_tab : n ≡ 1 → ClosedTab t (closed t s) s (view t (selected s))
  ended_tab z =
      let a = closed_ends t s w z in
      let off = ended_row t s w z in
      record {
        changed = a.rest;
        serial0 = a.gone.serial0;
        selected! = a.selected!;
        rows = λ q l. ended_others t s w z q (λ e. false≢true (sym off ∙ ap (used (view (closed t s))) (sym e) ∙ l));
      }

  pub closed_at_lem : ClosedTab t (closed t s) s (view t (selected s))
  closed_at_lem = ⊎_elim ended_tab left_tab (same_or n 1)
