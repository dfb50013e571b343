-- How each exit of the start comes to what its contract says. Assumes nothing.
use Rattle.std.specs.Prelude.{ℕ, ◌≤◌, ◌<◌, ◌≡◌, Bool, cond, ◌≢◌, take, eqb}
use Rattle.std.proofs.Math.Path.{sym, ap}
use Rattle.std.proofs.Common.{ap₂, ◌∙◌, arith, eqb-true, eq-eqb, ne_eqb}
use mathlib.Core.List.{List, []}
use Rattle.std.proofs.Math.Nat.{zero-add}
use Rattle.std.proofs.Math.ListN.{length}
use Rattle.terms.specs.Laws.Bools.{cases}
use Rattle.rules.specs.Sheet.{start_of, number_in, Started, over}
use Rattle.rules.proofs.Laws.Over.{over_nothing, over_front}
use Rattle.rules.proofs.Promises.Step.{start_read}
use Rattle.logs.specs.Log.{start_line, log_of}
use Rattle.logs.proofs.Promises.{refused_log}
use Rattle.rules.specs.Inner.{Wrote}
use Rattle.logs.specs.Laws.Bound.{length_start, start_some}
use Rattle.logging.specs.Begin.{start_text, Begun}

-- n is the number in the start's answer
module _ (t b o : List ℕ) {t' : List ℕ} {r n : ℕ} (w : Started (start_of t b) t' r) (read : n ≡ number_in r) where
  is : n ≡ (start_of t b).number
  is = read ∙ start_read t b w

  pub begun_done : n ≡ 0 → Begun t b o t' o 0
  unfolding start_text
  begun_done h =
      let e : start_text t b ≡ [] = rw (eq-eqb (start_of t b).number 0 (sym is ∙ h)) in
      record { table = w.table; text = sym (ap (over o 0) e ∙ over_nothing o 0); next = sym (ap length e) }

  pub begun_refused : {o' : List ℕ} {k : ℕ} → n ≢ 0 → Wrote o 0 (start_line n) o' k → Begun t b o t' o' k
  unfolding start_text
  begun_refused h v =
      let e : start_line n ≡ start_text t b =
      rw (ne_eqb (start_of t b).number 0 (λ q. h (is ∙ q))) (ap start_line is) in
      record {
        table = w.table;
        text = v.bytes ∙ ap (over o 0) e;
        next = v.next ∙ zero-add (length (start_line n)) ∙ ap length e;
      }

-- a line has a byte at least
pub line_some : (n : ℕ) {k : ℕ} {o o' : List ℕ} → Wrote o 0 (start_line n) o' k → 0 < k
line_some n w = omega (arith, w.next, start_some n)

-- the line has room where a start's has
pub begun_fits : {t b o t' o' : List ℕ} {r : ℕ} → Begun t b o t' o' r → 23 ≤ length o → r ≤ length o
unfolding start_text
begun_fits {t} {b} w h =
    cases (eqb (start_of t b).number 0)
    (λ e. omega (arith, w.next, ap (λ (x : Bool). length (cond x [] (start_line (start_of t b).number))) e))
    (λ e.
    let l = length_start (start_of t b).number in
    omega (arith, w.next, ap (λ (x : Bool). length (cond x [] (start_line (start_of t b).number))) e))

-- a line was written where the start was refused, and nothing where it was done
pub begun_none : {t b o t' o' : List ℕ} {r : ℕ} → Begun t b o t' o' r → r ≡ 0 → ((start_of t b).number ≡ 0) × (o' ≡ o)
unfolding start_text
begun_none {t} {b} {o} w z =
    let n = (start_of t b).number in
    cases (eqb n 0)
    (λ e.
    let empty : start_text t b ≡ [] = rw e in
    (eqb-true n 0 e, w.text ∙ ap (over o 0) empty ∙ over_nothing o 0))
    (λ e.
    let line : start_text t b ≡ start_line n = rw e in
    absurd (omega (arith, w.next, ap length line, start_some n)))

pub begun_some : {t b o t' o' : List ℕ} {r : ℕ} → Begun t b o t' o' r → r ≢ 0 → (start_of t b).number ≢ 0
unfolding start_text
begun_some {t} {b} w h e =
    let empty : start_text t b ≡ [] = rw (eq-eqb (start_of t b).number 0 e) in
    h (w.next ∙ ap length empty)

-- where it was refused, it is all of the log
pub begun_log : {t b o t' o' : List ℕ} {r : ℕ} → Begun t b o t' o' r → (start_of t b).number ≢ 0 → (s : List ℕ)
    → take r o' ≡ log_of t b s
unfolding start_text
begun_log {t} {b} {o} w h s =
    ap₂ (λ (n : ℕ) (l : List ℕ). take n l) w.next w.text ∙ over_front o (start_text t b)
    ∙ rw (ne_eqb (start_of t b).number 0 h) (sym (refused_log t b s h))
