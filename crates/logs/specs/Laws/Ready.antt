-- How many events are ready: where no whole frame is held, frame by frame, and that they are never more than asked for.
-- Assumes nothing.
use Rattle.std.specs.Prelude.{ℕ, zero, suc, ◌+◌, ◌≤◌, ◌≡◌, refl, Bool, true, false, not, ◌≢◌, List, length, drop, eqb}
use Rattle.std.proofs.Math.Path.{ap}
use Rattle.std.proofs.Common.{◌∙◌, arith, eqb-true, eq-eqb, ne_eqb}
use Rattle.std.proofs.lemmas.Bool.{eqb-false}
use Rattle.std.specs.Int.{from_bool}
use Rattle.terms.specs.Laws.Bools.{cases}
use Rattle.fields.specs.Base.{one}
use Rattle.logs.specs.Rule.Stream.{whole, oversized, first_bytes}
use Rattle.logs.specs.Rule.Reading.{one_more, cut, ready}
use Rattle.logs.specs.declared.frame.Ready.{Ready}

-- ---- no whole frame

pub cut_large : (ended : Bool) (s : List ℕ) → oversized s ≡ true → cut ended s ≡ record { count = 1; last = true }
unfolding cut
cut_large ended s h = rw h

pub cut_open : (s : List ℕ) → oversized s ≡ false → cut false s ≡ record { count = 0; last = false }
unfolding cut
cut_open s h = rw h

pub cut_end : (s : List ℕ) → oversized s ≡ false → cut true s ≡ record { count = one (not (eqb (length s) 0)); last = true }
unfolding cut
cut_end s h = rw h

pub cut_empty : (s : List ℕ) → oversized s ≡ false → length s ≡ 0 → cut true s ≡ record { count = 0; last = true }
unfolding one
cut_empty s h n = cut_end s h ∙ rw (eq-eqb (length s) 0 n)

pub cut_rest : (s : List ℕ) → oversized s ≡ false → length s ≢ 0 → cut true s ≡ record { count = 1; last = true }
unfolding one
cut_rest s h n = cut_end s h ∙ rw (ne_eqb (length s) 0 n)

counts : (b : Bool) → from_bool b ≡ one b
unfolding one
counts true = refl
counts false = refl

-- one is ready of what is left at the stream's end, if anything is
pub cut_left : {n : ℕ} {b : Bool} (ended : Bool) (s : List ℕ) → oversized s ≡ false → n ≡ from_bool b
    → (ended ≡ false → b ≡ false) → (ended ≡ true → b ≡ not (eqb (length s) 0)) → record { count = n; last = ended } ≡ cut ended s
unfolding one
cut_left {b = b} false s h e off on = rw (cut_open s h, e, counts b, off refl) refl
cut_left {b = b} true s h e off on = rw (cut_end s h, e, counts b, on refl) refl

pub cut_ended : (s : List ℕ) → (cut true s).last ≡ true
cut_ended s = cases (oversized s) (λ h. ap (λ r. r.last) (cut_large true s h)) (λ h. ap (λ r. r.last) (cut_end s h))

count= : {a b : Ready} → a ≡ b → a.count ≡ b.count
count= e = ap (λ (r : Ready). r.count) e

few : (ended : Bool) (s : List ℕ) → (cut ended s).count ≤ 1
few true s =
    cases (oversized s)
    (λ h. omega (arith, count= (cut_large true s h)))
    (λ h.
    cases (eqb (length s) 0)
    (λ n. omega (arith, count= (cut_empty s h (eqb-true (length s) 0 n))))
    (λ n. omega (arith, count= (cut_rest s h (eqb-false (length s) 0 n)))))
few false s =
    cases (oversized s) (λ h. omega (arith, count= (cut_large false s h))) (λ h. omega (arith, count= (cut_open s h)))

pub cut_few : {r : Ready} (ended : Bool) (s : List ℕ) → r ≡ cut ended s → r.count ≤ 1
cut_few ended s e = let h = few ended s in omega (arith, count= e)

-- ---- frame by frame

pub ready_none : (ended : Bool) (s : List ℕ) → ready 0 ended s ≡ record { count = 0; last = false }
unfolding ready
ready_none ended s = refl

module _ (k : ℕ) (ended : Bool) (s : List ℕ) where
  pub ready_whole : whole s ≡ true → ready (suc k) ended s ≡ one_more (ready k ended (drop (first_bytes s) s))
  unfolding ready
  ready_whole h = rw h

  pub ready_frame : whole s ≡ true → (ready (suc k) ended s).count ≡ (ready k ended (drop (first_bytes s) s)).count + 1
  unfolding one_more
  ready_frame h = ap (λ (r : Ready). r.count) (ready_whole h)

  pub ready_cut : whole s ≡ false → ready (suc k) ended s ≡ cut ended s
  unfolding ready
  ready_cut h = rw h

pub ready_few : (k : ℕ) (ended : Bool) (s : List ℕ) → (ready k ended s).count ≤ k
unfolding ready one_more
ready_few zero ended s = omega arith
ready_few (suc k) ended s =
    cases (whole s)
    (λ h. let i = ready_few k ended (drop (first_bytes s) s) in omega (arith, count= (ready_whole k ended s h)))
    (λ h. let i = cut_few ended s (ready_cut k ended s h) in omega arith)
