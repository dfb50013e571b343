-- A mark set, or cleared: what becomes of its tab and of all others. Assumes nothing.
use Rattle.std.specs.Prelude.{ℕ, ◌≡◌, Bool, true, false, ◌≢◌, ◌⊎◌, List}
use Rattle.std.proofs.Common.{sym, subst}
use Rattle.fields.specs.Table.{selected, view, TabLive, waits, marked, unmarked}
use Rattle.fields.specs.declared.mark.Mark.{Mark}
use Rattle.fields.specs.Laws.Asked.{waits_most}
use Rattle.fields.specs.Laws.Quiet.{Quiet}
use Rattle.fields.specs.Laws.Waited.{marked_quiet, marked_is, marked_selected, unmarked_quiet, unmarked_is, unmarked_selected}
use Rattle.fields.specs.Laws.Marks.{other, mark_set, mark_gone}
use Rattle.rules.proofs.Time.Rows.{RowsStay, marked_rows, unmarked_rows}
use Rattle.rules.proofs.Time.Same.{other_is, waits_still, quiet_still, Waits, Still}

-- nothing changes but what the tab in slot k of seat s waits for
pub record Marks (t u : List ℕ) (s k : ℕ) : Type 0 where
  pub still : Still t u
  pub chosen= : (r : ℕ) → view u (selected r) ≡ view t (selected r)
  pub other_tab : (r j : ℕ) → (r ≢ s) ⊎ (j ≢ k) → Waits t u r j

marks_by : {t u : List ℕ} {s k : ℕ} → Quiet (view t) (view u) s k → RowsStay t u
    → ((r : ℕ) → view u (selected r) ≡ view t (selected r))
    → Marks t u s k
marks_by q w c = record { still = quiet_still q w; chosen= = c; other_tab = λ r j h. waits_still (q.rest.waiting= r j h) }

pub marked_marks : (t : List ℕ) (s k : ℕ) (m : Mark) → TabLive t s k → waits (view t) s k m ≡ false
    → Marks t (marked t s k m) s k
marked_marks t s k m w e = marks_by (marked_quiet t s k w m e) (marked_rows t s k m w e) (marked_selected t s k w m e)

pub unmarked_marks : (t : List ℕ) (s k : ℕ) (m : Mark) → TabLive t s k → Marks t (unmarked t s k m) s k
unmarked_marks t s k m w = marks_by (unmarked_quiet t s k w m) (unmarked_rows t s k m w) (unmarked_selected t s k w m)

-- a mark is set, or cleared, and the other stays
pub record MarkedTo (b : Bool) (t u : List ℕ) (s k : ℕ) (m : Mark) : Type 0 where
  pub marks : Marks t u s k
  pub marked= : waits (view u) s k m ≡ b
  pub other_mark : (o : Mark) → o ≢ m → waits (view u) s k o ≡ waits (view t) s k o

marked_by : {b : Bool} {t u : List ℕ} {s k : ℕ} (m : Mark) → Marks t u s k
    → (waits (view u) s k m ≡ b) × (waits (view u) s k (other m) ≡ waits (view t) s k (other m))
    → MarkedTo b t u s k m
marked_by {t = t} {u = u} {s = s} {k = k} m w a =
    record {
      marks = w;
      marked= = a.0;
      other_mark = λ o h. subst (λ (o : Mark). waits (view u) s k o ≡ waits (view t) s k o) (sym (other_is o m h)) a.1;
    }

pub marked_to : (t : List ℕ) (s k : ℕ) (m : Mark) → TabLive t s k → waits (view t) s k m ≡ false
    → MarkedTo true t (marked t s k m) s k m
marked_to t s k m w e =
    marked_by m (marked_marks t s k m w e)
    (mark_set (view t) (view (marked t s k m)) s k m (waits_most w) e (marked_is t s k w m e))

pub unmarked_to : (t : List ℕ) (s k : ℕ) (m : Mark) → TabLive t s k → waits (view t) s k m ≡ true
    → MarkedTo false t (unmarked t s k m) s k m
unmarked_to t s k m w e =
    marked_by m (unmarked_marks t s k m w)
    (mark_gone (view t) (view (unmarked t s k m)) s k m (waits_most w) e (unmarked_is t s k w m))
