-- The start: what the table is, and what is said where it is refused. Assumes nothing.
use Rattle.std.specs.Prelude.{ℕ, cond, ◌≡◌, List, [], length, eqb}
use Rattle.rules.specs.Sheet.{start_of, over}
use Rattle.logs.specs.Log.{start_line}

-- "A refused start prints `S` and its number only."
unfoldable pub start_text : List ℕ → List ℕ → List ℕ
start_text t b = cond (eqb (start_of t b).number 0) [] (start_line (start_of t b).number)

pub record Begun (t b o t' o' : List ℕ) (r : ℕ) : Type 0 where
  pub table : t' ≡ (start_of t b).table
  pub text : o' ≡ over o 0 (start_text t b)
  pub next : r ≡ length (start_text t b)
