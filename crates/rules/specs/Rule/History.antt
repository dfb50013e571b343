-- The history of one table: an accepted start, and since then only our calls that were lent it. The outcomes are those that the
-- contracts of the two calls allow. Assumes nothing.
use Rattle.std.specs.Prelude.{ℕ, ◌≡◌, ◌≢◌, List, [], ◌∷◌, length}
use Rattle.rules.specs.Rule.Call.{Call, step, start}
use Rattle.rules.specs.Sheet.{step_of, start_of, number_in, Stepped, Started}

-- History book cs t: the table was started from this order book, was lent to the calls cs, and is now t
pub data History : List ℕ → List Call → List ℕ → Type 0 where
  -- an accepted start (its number is 0), whatever the table held: a new history, with no call yet
  started : (lent book : List ℕ) {t : List ℕ} {r : ℕ} → Started (start_of lent book) t r → number_in r ≡ 0 → History book [] t
  -- a step, accepted or refused, with any book, any event and a room of any length
  stepped : {book : List ℕ} {cs : List Call} {t : List ℕ} → History book cs t
      → (b e : List ℕ) {o u o' : List ℕ} {r : ℕ} → Stepped (step_of (length o) t b e) o u o' r
      → History book (step t b e (length o) r (step_of (length o) t b e).actions u ∷ cs) u
  -- a refused start
  unstarted : {book : List ℕ} {cs : List Call} {t : List ℕ} → History book cs t
      → (b : List ℕ) {u : List ℕ} {r : ℕ} → Started (start_of t b) u r → number_in r ≢ 0
      → History book (start t b r u ∷ cs) u
