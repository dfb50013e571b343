-- How the document parts a stream into events, and that `events` is the one list that it allows. Assumes nothing.
use Rattle.std.specs.Prelude.{ℕ, zero, suc, ◌≤◌, ◌≡◌, true, false, ◌≢◌, length, take, drop}
use Rattle.std.proofs.Common.{sym, ap, ap₂, ◌∙◌, subst₂, le_refl, arith, length-append, take-append-drop, take_at, drop_at, length-take-le}
use mathlib.Core.List.{List, [], ◌∷◌, ◌++◌, cons≢nil}
use Rattle.std.proofs.Math.Seq.{take-length}
use Rattle.terms.specs.Laws.Bools.{cases}
use Rattle.terms.specs.Names.{num}
use Rattle.logs.specs.Rule.Stream.{whole, oversized, first_bytes, events}
use Rattle.logs.specs.Laws.First.{whole_has, oversized_has, first_whole, first_oversized, first_rest, first_inside}
use Rattle.logs.specs.Laws.Stream.{whole_in, oversized_in, oversized_cut, first_shorter, num_append, whole_append}
use Rattle.logs.specs.Laws.Stream.{oversized_append, first_append, events_nil, events_whole, events_last}
use Rattle.logs.specs.Rule.Parted.{Alone, Oversize, Short, Parted, done, frame, large, short}

-- ---- events by themselves

-- ---- end to end

-- ---- the first event of a stream

num_take : (n : ℕ) (s : List ℕ) → 10 ≤ n → n ≤ length s → num (take n s) 6 4 ≡ num s 6 4
num_take n s h k =
    let l = length-take-le n s k in
    sym (num_append (take n s) (drop n s) (omega arith)) ∙ ap (λ x. num x 6 4) (take-append-drop n s)

pub take_alone : (s : List ℕ) → whole s ≡ true → Alone (take (first_bytes s) s)
take_alone s h =
    let w = whole_has s h in
    let f = first_whole s h in
    let l = length-take-le (first_bytes s) s (first_inside s) in
    let e = num_take (first_bytes s) s (omega arith) (first_inside s) in
    record { all = whole_in (take (first_bytes s) s) (omega arith); end = omega arith }

take_large : (s : List ℕ) → oversized s ≡ true → Oversize (take (first_bytes s) s)
take_large s h =
    let w = oversized_has s h in
    let f = first_oversized s h in
    let l = length-take-le (first_bytes s) s (first_inside s) in
    let e = num_take (first_bytes s) s (omega arith) (first_inside s) in
    record { over = oversized_in (take (first_bytes s) s) (omega arith); end = omega arith }

-- an event off the front, by what the stream begins with
parted_frame : (s : List ℕ) → whole s ≡ true → Parted (drop (first_bytes s) s) (events (drop (first_bytes s) s))
    → Parted s (events s)
parted_frame s h p = subst₂ Parted (take-append-drop (first_bytes s) s) (sym (events_whole s h)) (frame (take_alone s h) p)

parted_last : (s : List ℕ) → s ≢ [] → whole s ≡ false → Parted s (events s)
parted_last s h k =
    cases (oversized s)
    (λ o.
    subst₂ Parted (take-append-drop (first_bytes s) s) (sym (events_last s k h))
    (large (drop (first_bytes s) s) (take_large s o)))
    (λ o.
    let e : take (first_bytes s) s ≡ s = ap (λ n. take n s) (first_rest s k o) ∙ take-length s in
    rw (events_last s k h, e) (short (record { some = h; part = k; under = o })))

parted_in : (n : ℕ) (s : List ℕ) → length s ≤ n → Parted s (events s)
parted_in zero [] h = rw events_nil done
parted_in zero (x ∷ r) h = absurd (omega arith)
parted_in (suc n) [] h = rw events_nil done
parted_in (suc n) (x ∷ r) h =
    let s : List ℕ = x ∷ r in
    cases (whole s)
    (λ e. parted_frame s e (parted_in n (drop (first_bytes s) s) (first_shorter n s h)))
    (λ e. parted_last s cons≢nil e)

pub parted : (s : List ℕ) → Parted s (events s)
parted s = parted_in (length s) s (le_refl (length s))

-- ---- the only one

-- a frame in front of any bytes
pub events_frame : (e z : List ℕ) → Alone e → events (e ++ z) ≡ e ∷ events z
events_frame e z a =
    let f : length e ≡ first_bytes (e ++ z) = a.end ∙ sym (first_whole e a.all) ∙ sym (first_append e z a.all) in
    events_whole (e ++ z) (whole_append e z a.all)
    ∙ ap₂ (λ x y. x ∷ events y) (take_at e z (first_bytes (e ++ z)) f) (drop_at e z (first_bytes (e ++ z)) f)

events_large : (e z : List ℕ) → Oversize e → events (e ++ z) ≡ e ∷ []
events_large e z a =
    let o = oversized_append e z a.over in
    let f : length e ≡ first_bytes (e ++ z) = a.end ∙ sym (first_oversized (e ++ z) o) in
    let some : e ++ z ≢ [] = λ h. omega (arith, length-append e z, ap length h) in
    events_last (e ++ z) (oversized_cut (e ++ z) o) some ∙ ap (λ x. x ∷ []) (take_at e z (first_bytes (e ++ z)) f)

events_short : (e : List ℕ) → Short e → events e ≡ e ∷ []
events_short e a =
    events_last e a.part a.some
    ∙ ap (λ x. x ∷ []) (ap (λ n. take n e) (first_rest e a.part a.under) ∙ take-length e)

pub parted_once : {s : List ℕ} {l : List (List ℕ)} → Parted s l → l ≡ events s
parted_once done = sym events_nil
parted_once (frame {e = e} {s = s} a p) = ap (λ x. e ∷ x) (parted_once p) ∙ sym (events_frame e s a)
parted_once (large {e = e} s a) = sym (events_large e s a)
parted_once (short {e = e} a) = sym (events_short e a)
