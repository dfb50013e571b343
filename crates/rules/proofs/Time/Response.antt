-- Response integrity, of steps that were made in any two histories: what a step gave and left is a function of its table, book and
-- event, and what it gave is one of no more of them than the event's kind looks at. Assumes nothing.
use Rattle.std.specs.Prelude.{ℕ, ◌≤◌, ◌≡◌, refl, ◌≢◌, ◌⊎◌, List, length}
use Rattle.std.proofs.Math.Path.{sym}
use Rattle.std.proofs.Common.{ap, ◌∙◌}
use Rattle.rules.specs.Rule.Call.{Call, step, start, Past, newest, older, party_of, tag_of}
use Rattle.rules.specs.Rule.History.{History, started, stepped, unstarted}
use Rattle.rules.specs.Rule.Event.{reading_of}
use Rattle.rules.specs.Rule.Step.{Outcome, room_needed, read_rule, answer}
use Rattle.rules.specs.Rule.Response.{StepMade, SameReply, Alike, Agree}
use Rattle.rules.specs.Sheet.{Frame}
use Rattle.rules.proofs.Laws.Book.{step_reads, any_book}
use Rattle.rules.proofs.Laws.Response.{read_same}
use Rattle.rules.proofs.Time.Induct.{history_sound}

-- ---- a step that was made is what the rules give, and its table had a history

abbrev pub read : (t b e : List ℕ) → Outcome
read t b e = read_rule t b e (reading_of e)

pub record Came (earlier : List Call) (t b e : List ℕ) (r : ℕ) (l : List Frame) (u : List ℕ) : Type 0 where
  pub book : List ℕ
  pub before : History book earlier t
  pub answer= : r ≡ answer (read t b e)
  pub actions= : l ≡ (read t b e).actions
  pub left= : u ≡ (read t b e).table

abbrev Ruled : Call → List Call → Type 0
Ruled (step t b e n r l u) earlier = room_needed ≤ n → Came earlier t b e r l u
Ruled (start t b r u) earlier = Unit {0}

past_ruled : {book : List ℕ} {cs : List Call} {t : List ℕ} → History book cs t → (c : Call) (earlier : List Call)
    → Past c earlier cs
    → Ruled c earlier
past_ruled (started lent b w z) c earlier p = elim p [ ]
past_ruled (stepped {book = book} {t = t} h b e {o = o} w) c earlier newest = λ enough.
    let q = step_reads (length o) t b e enough (history_sound h) in
    record {
      book = book;
      before = h;
      answer= = w.says ∙ ap answer q;
      actions= = ap (λ (x : Outcome). x.actions) q;
      left= = w.table ∙ ap (λ (x : Outcome). x.table) q;
    }
past_ruled (stepped h b e w) c earlier (older d p) = past_ruled h c earlier p
past_ruled (unstarted h b w f) c earlier newest = tt
past_ruled (unstarted h b w f) c earlier (older d p) = past_ruled h c earlier p

pub came : {earlier : List Call} {t b e : List ℕ} {r : ℕ} {l : List Frame} {u : List ℕ} → StepMade earlier t b e r l u
    → Came earlier t b e r l u
came {earlier} {t} {b} {e} {r} {l} {u} g =
    past_ruled g.history (step t b e g.room r l u) earlier g.past g.enough

-- ---- two of them

module _ {earlier₁ earlier₂ : List Call} {e : List ℕ} {r₁ r₂ : ℕ} {l₁ l₂ : List Frame} {u₁ u₂ : List ℕ} where
  -- of tables and books that agree
  pub response : {t₁ t₂ b₁ b₂ : List ℕ} → StepMade earlier₁ t₁ b₁ e r₁ l₁ u₁ → StepMade earlier₂ t₂ b₂ e r₂ l₂ u₂
      → Agree t₁ t₂ b₁ b₂ e
      → SameReply r₁ r₂ l₁ l₂
  unfolding answer
  response {t₁} {t₂} {b₁} {b₂} g₁ g₂ h =
      let a = came g₁ in
      let d = came g₂ in
      let q = read_same t₁ t₂ b₁ b₂ e h in
      record {
        answer= = a.answer= ∙ rw (q.0, q.1) (sym d.answer=);
        actions= = a.actions= ∙ q.1 ∙ sym d.actions=;
      }

  module _ {t : List ℕ} where
    -- of one outcome
    alike : {b₁ b₂ : List ℕ} → Came earlier₁ t b₁ e r₁ l₁ u₁ → Came earlier₂ t b₂ e r₂ l₂ u₂ → read t b₁ e ≡ read t b₂ e
        → Alike r₁ r₂ l₁ l₂ u₁ u₂
    alike a d q =
        record {
          answer= = a.answer= ∙ ap answer q ∙ sym d.answer=;
          actions= = a.actions= ∙ ap (λ (x : Outcome). x.actions) q ∙ sym d.actions=;
          left= = a.left= ∙ ap (λ (x : Outcome). x.table) q ∙ sym d.left=;
        }

    -- any event, with one table and book
    pub response_table : {b : List ℕ} → StepMade earlier₁ t b e r₁ l₁ u₁ → StepMade earlier₂ t b e r₂ l₂ u₂
        → Alike r₁ r₂ l₁ l₂ u₁ u₂
    response_table g₁ g₂ = alike (came g₁) (came g₂) refl

    -- an event that is no open, whatever the books
    pub response_book : {b₁ b₂ : List ℕ} → StepMade earlier₁ t b₁ e r₁ l₁ u₁ → StepMade earlier₂ t b₂ e r₂ l₂ u₂
        → (party_of e ≢ 1) ⊎ (tag_of e ≢ 3)
        → Alike r₁ r₂ l₁ l₂ u₁ u₂
    unfolding party_of tag_of
    response_book {b₁} {b₂} g₁ g₂ other = alike (came g₁) (came g₂) (any_book t b₁ b₂ e other)
