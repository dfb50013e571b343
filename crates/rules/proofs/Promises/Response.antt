-- What the Quark paper promises of two steps, in any two histories of ours: response integrity and tab non-interference. `StepMade`
-- says that such a step was made, with room enough: lent the table t, the book b and the event e, after the calls `earlier`, it
-- gave the answer r and the actions l and left the table u. What else is said stands under its name in Rule/Response. Assumes
-- nothing.
use Rattle.std.specs.Prelude.{ℕ, ◌≡◌, ◌≢◌, ◌⊎◌, List}
use Rattle.rules.specs.Rule.Call.{Call, party_of, id_of, tag_of}
use Rattle.rules.specs.Rule.Response.{StepMade, SameReply, Alike, Agree, Common, SameSeen}
use Rattle.rules.specs.Sheet.{Frame}
use Rattle.rules.proofs.Laws.Response as of_one
use Rattle.rules.proofs.Time.Response as of_two
use Rattle.rules.proofs.Time.Apart as of-a-tab

module _ {earlier₁ earlier₂ : List Call} {t₁ t₂ b₁ b₂ e : List ℕ} {r₁ r₂ : ℕ} {l₁ l₂ : List Frame} {u₁ u₂ : List ℕ} where
  -- ---- response integrity

  -- Two steps with the same event, lent tables and books that agree in what this kind of event depends on, give the same answer
  -- and the same actions: nothing else of tables and books, and nothing that went before, has a say.
  pub response : StepMade earlier₁ t₁ b₁ e r₁ l₁ u₁ → StepMade earlier₂ t₂ b₂ e r₂ l₂ u₂ → Agree t₁ t₂ b₁ b₂ e
      → SameReply r₁ r₂ l₁ l₂
  response = of_two.response

  -- ---- tab non-interference

  -- Two steps with the same event of a tab, which is live in both tables or in neither, for which the same was typed, which waits
  -- for the same and is selected in both or in neither, give the same answer and the same actions, a process's number replaced by
  -- its suffix: whatever the books, the slot, the owner and the process are, and whatever other tabs there are and did.
  pub non_interference : StepMade earlier₁ t₁ b₁ e r₁ l₁ u₁ → StepMade earlier₂ t₂ b₂ e r₂ l₂ u₂ → party_of e ≡ 2
      → Common earlier₁ earlier₂ t₁ t₂ (id_of e)
      → SameSeen t₁ t₂ r₁ r₂ l₁ l₂
  non_interference = of-a-tab.non_interference

-- ---- one table

-- A table and a book agree with themselves, whatever the event, so that `response` speaks of them.
pub agree_self : (t b e : List ℕ) → Agree t t b b e
agree_self = of_one.agree_self

module _ {earlier₁ earlier₂ : List Call} {t e : List ℕ} {r₁ r₂ : ℕ} {l₁ l₂ : List Frame} {u₁ u₂ : List ℕ} where
  -- What `response` leaves open, the table after it: two steps that are lent the same table, book and event leave the same one too;
  pub response_table : {b : List ℕ} → StepMade earlier₁ t b e r₁ l₁ u₁ → StepMade earlier₂ t b e r₂ l₂ u₂ → Alike r₁ r₂ l₁ l₂ u₁ u₂
  response_table = of_two.response_table

  -- and where the event is no open, so they do under any two books.
  pub response_book : {b₁ b₂ : List ℕ} → StepMade earlier₁ t b₁ e r₁ l₁ u₁ → StepMade earlier₂ t b₂ e r₂ l₂ u₂
      → (party_of e ≢ 1) ⊎ (tag_of e ≢ 3)
      → Alike r₁ r₂ l₁ l₂ u₁ u₂
  response_book = of_two.response_book
