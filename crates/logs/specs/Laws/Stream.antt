-- Laws of a stream's first event and of its events: how long they are, what more bytes behind it change, and that the fuel of
-- `events_in` is enough; and of byte strings laid end to end. Assumes nothing.
use Rattle.std.specs.Prelude.{ℕ, zero, suc, ◌+◌, ◌≤◌, ◌<◌, ◌≡◌, refl, true, false, cond, ◌≢◌, List, [], ◌∷◌, ◌++◌, length, take, drop, eqb}
use Rattle.std.proofs.Common.{sym, ap, ◌∙◌, le_refl, arith, length-append, length-drop, le-leb, lt-ltb, eq-eqb}
use Rattle.std.proofs.Math.ListN.{get_or-append}
use Rattle.std.proofs.Math.Seq.{drop-nil}
use Rattle.std.proofs.Math.Dec.{eqb-suc-zero}
use Rattle.terms.specs.Laws.Bools.{cases, fails}
use Rattle.terms.specs.Names.{num}
use Rattle.terms.specs.Laws.Num.{num_ext}
use Rattle.logs.specs.Rule.Stream.{whole, oversized, first_bytes, events_in, events, joined}
use Rattle.logs.specs.Laws.First.{Whole, whole_has, Oversized, oversized_has, first_whole, first_oversized, first_rest}

-- ---- the tests put together

pub whole_in : (s : List ℕ) → Whole s → whole s ≡ true
unfolding whole
whole_in s w =
    rw (le-leb 10 (length s) w.long, le-leb (num s 6 4) 4096 w.small, le-leb (10 + num s 6 4) (length s) w.present)

pub oversized_in : (s : List ℕ) → Oversized s → oversized s ≡ true
unfolding oversized
oversized_in s w = rw (le-leb 10 (length s) w.long, lt-ltb 4096 (num s 6 4) w.large)

pub oversized_cut : (s : List ℕ) → oversized s ≡ true → whole s ≡ false
oversized_cut s h = fails (whole s) (λ e. let w = whole_has s e in let o = oversized_has s h in omega arith)

-- ---- the first event

-- it has a byte at least, where there is one
pub first_some : (s : List ℕ) → 0 < length s → 0 < first_bytes s
first_some s l =
    cases (whole s)
    (λ h. omega (arith, first_whole s h))
    (λ h.
    cases (oversized s)
    (λ k. omega (arith, first_oversized s k))
    (λ k. omega (arith, first_rest s h k)))

-- ---- more bytes behind it

pub num_append : (s z : List ℕ) → 10 ≤ length s → num (s ++ z) 6 4 ≡ num s 6 4
num_append s z h = num_ext (s ++ z) s 6 4 (λ i l. get_or-append s z 0 (6 + i) (omega arith))

pub whole_append : (s z : List ℕ) → whole s ≡ true → whole (s ++ z) ≡ true
whole_append s z h =
    let w = whole_has s h in
    let e = num_append s z w.long in
    let l = length-append s z in
    whole_in (s ++ z) (omega arith)

pub oversized_append : (s z : List ℕ) → oversized s ≡ true → oversized (s ++ z) ≡ true
oversized_append s z h =
    let w = oversized_has s h in
    let e = num_append s z w.long in
    let l = length-append s z in
    oversized_in (s ++ z) (omega arith)

pub first_append : (s z : List ℕ) → whole s ≡ true → first_bytes (s ++ z) ≡ first_bytes s
first_append s z h =
    first_whole (s ++ z) (whole_append s z h) ∙ ap (λ n. 10 + n) (num_append s z (whole_has s h).long) ∙ sym (first_whole s h)

-- ---- the events

-- each leaves less of the stream
pub first_shorter : (n : ℕ) (s : List ℕ) → length s ≤ suc n → length (drop (first_bytes s) s) ≤ n
first_shorter n [] h = rw (drop-nil {A = ℕ} (first_bytes [])) (omega arith)
first_shorter n (x ∷ r) h =
    let k = first_some (x ∷ r) (omega arith) in
    let l = length-drop (first_bytes (x ∷ r)) (x ∷ r) in
    omega arith

none : (n : ℕ) (s : List ℕ) → length s ≡ 0 → events_in n s ≡ []
unfolding events_in
none zero s h = refl
none (suc n) s h = rw (eq-eqb (length s) 0 h)

enough : (m n : ℕ) (s : List ℕ) → length s ≤ m → length s ≤ n → events_in m s ≡ events_in n s
unfolding events_in
enough zero n s h k = sym (none n s (omega arith))
enough (suc m) zero s h k = none (suc m) s (omega arith)
enough (suc m) (suc n) s h k =
    ap (λ l. cond (eqb (length s) 0) [] (take (first_bytes s) s ∷ cond (whole s) l []))
    (enough m n (drop (first_bytes s) s) (first_shorter m s h) (first_shorter n s k))

-- more fuel gives the same events
pub events_enough : (n : ℕ) (s : List ℕ) → length s ≤ n → events_in n s ≡ events s
unfolding events
events_enough n s h = enough n (length s) s h (le_refl (length s))

pub events_nil : events [] ≡ []
unfolding events events_in
events_nil = refl

pub events_whole : (s : List ℕ) → whole s ≡ true → events s ≡ take (first_bytes s) s ∷ events (drop (first_bytes s) s)
unfolding events events_in
events_whole [] h = let w = whole_has [] h in absurd (omega arith)
events_whole (x ∷ r) h =
    let s : List ℕ = x ∷ r in
    rw (eqb-suc-zero (length r), h, events_enough (length r) (drop (first_bytes s) s) (first_shorter (length r) s (le_refl _)))

pub events_last : (s : List ℕ) → whole s ≡ false → s ≢ [] → events s ≡ take (first_bytes s) s ∷ []
unfolding events events_in
events_last [] h k = absurd (k refl)
events_last (x ∷ r) h k = rw (eqb-suc-zero (length r), h)

-- ---- byte strings laid end to end

pub joined_none : joined [] ≡ []
unfolding joined
joined_none = refl

pub joined_more : (x : List ℕ) (l : List (List ℕ)) → joined (x ∷ l) ≡ x ++ joined l
unfolding joined
joined_more x l = refl
