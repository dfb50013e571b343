-- Induction over a history: what holds of a fresh table and is kept by every outcome of a step holds of every history, and what
-- holds of every call that can be made holds of every call that was. Assumes nothing.
use Rattle.std.specs.Prelude.{ℕ, ◌≡◌, true, List, [], ◌∷◌, length}
use Rattle.std.proofs.Common.{sym, subst}
use Rattle.terms.specs.Names.{sound_book}
use Rattle.fields.specs.Table.{sound_table, fresh}
use Rattle.rules.specs.Rule.Call.{Call, step, start, Past, newest, older}
use Rattle.rules.specs.Rule.History.{History, started, stepped, unstarted}
use Rattle.rules.specs.Sheet.{Outcome, step_of}
use Rattle.rules.proofs.Laws.Start.{start_starts, start_done, start_kept}
use Rattle.rules.proofs.Laws.Outcome.{step_orderly}
use Rattle.rules.proofs.Laws.Happens.{Happens}
use Rattle.rules.proofs.Laws.Happened.{step_happens}

-- ---- what each call leaves

-- the book of a history is sound, and so is its table
pub history_book : {book : List ℕ} {cs : List Call} {t : List ℕ} → History book cs t → sound_book book ≡ true
history_book (started t b w z) = (start_starts t b).book (start_done t b w z)
history_book (stepped h b e w) = history_book h
history_book (unstarted h b w f) = history_book h

pub history_sound : {book : List ℕ} {cs : List Call} {t : List ℕ} → History book cs t → sound_table t ≡ true
history_sound (started t b w z) = rw w.table ((start_starts t b).sound (start_done t b w z))
history_sound (stepped {t = t} h b e {o = o} w) = rw w.table ((step_orderly t b e (length o)).sound (history_sound h))
history_sound (unstarted {t = t} h b w f) =
    subst (λ (x : List ℕ). sound_table x ≡ true) (sym (start_kept t b w f)) (history_sound h)

-- ---- induction

-- P holds of a fresh table, and is kept by a refused start and by every outcome of a step
pub record Kept (P : List ℕ → List Call → List ℕ → Type 0) : Type 0 where
  pub fresh! : (book : List ℕ) → sound_book book ≡ true → P book [] (fresh book)
  pub start! : {book : List ℕ} {cs : List Call} {t : List ℕ} → History book cs t → P book cs t
      → (b : List ℕ) (r : ℕ) → P book (start t b r t ∷ cs) t
  pub step! : {book : List ℕ} {cs : List Call} {t : List ℕ} {x : Outcome} (b e : List ℕ) (n r : ℕ) → History book cs t
      → P book cs t → Happens t b e x
      → P book (step t b e n r x.actions x.table ∷ cs) x.table

pub induct : (P : List ℕ → List Call → List ℕ → Type 0) {book : List ℕ} {cs : List Call} {t : List ℕ} → Kept P
    → History book cs t
    → P book cs t
induct P k (started t b w z) =
    let d = start_done t b w z in rw (w.table, (start_starts t b).fresh= d) (k.fresh! b ((start_starts t b).book d))
induct P k (stepped {book = book} {cs = cs} {t = t} h b e {o = o} {r = r} w) =
    let x = step_of (length o) t b e in
    subst (λ (u : List ℕ). P book (step t b e (length o) r x.actions u ∷ cs) u) (sym w.table)
    (k.step! b e (length o) r h (induct P k h) (step_happens (length o) t b e (history_sound h)))
induct P k (unstarted {book = book} {cs = cs} {t = t} h b {r = r} w f) =
    subst (λ (u : List ℕ). P book (start t b r u ∷ cs) u) (sym (start_kept t b w f)) (k.start! h (induct P k h) b r)

-- ---- every call

-- Q holds of every call that can be made after a history
pub record Each (Q : List ℕ → List Call → Call → Type 0) : Type 0 where
  pub start! : {book : List ℕ} {cs : List Call} {t : List ℕ} → History book cs t → (b : List ℕ) (r : ℕ)
      → Q book cs (start t b r t)
  pub step! : {book : List ℕ} {cs : List Call} {t : List ℕ} {x : Outcome} (b e : List ℕ) (n r : ℕ) → History book cs t
      → Happens t b e x
      → Q book cs (step t b e n r x.actions x.table)

pub each_call : (Q : List ℕ → List Call → Call → Type 0) {book : List ℕ} {cs : List Call} {t : List ℕ} → Each Q
    → History book cs t → (c : Call) (earlier : List Call) → Past c earlier cs
    → Q book earlier c
each_call Q k (started lent b w z) c earlier p = elim p [ ]
each_call Q k (stepped {book = book} {cs = cs} {t = t} h b e {o = o} {r = r} w) c earlier newest =
    let x = step_of (length o) t b e in
    subst (λ (u : List ℕ). Q book cs (step t b e (length o) r x.actions u)) (sym w.table)
    (k.step! b e (length o) r h (step_happens (length o) t b e (history_sound h)))
each_call Q k (stepped h b e w) c earlier (older d p) = each_call Q k h c earlier p
each_call Q k (unstarted {book = book} {cs = cs} {t = t} h b {r = r} w f) c earlier newest =
    subst (λ (u : List ℕ). Q book cs (start t b r u)) (sym (start_kept t b w f)) (k.start! h b r)
each_call Q k (unstarted h b w f) c earlier (older d p) = each_call Q k h c earlier p
