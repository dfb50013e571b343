-- Events off the front of a part of a stream that is held: those that are ready are the first of its events, whatever comes
-- behind; and where none comes after them, they are all. Assumes nothing.
use Rattle.std.specs.Prelude.{ℕ, zero, suc, ◌+◌, ◌≡◌, refl, Bool, true, false, not, ◌≢◌, length, take, drop, eqb}
use Rattle.std.proofs.Common.{sym, ap, ap₂, ◌∙◌, subst, true≢false, add-one, arith, length-append, drop-drop, length-take-le}
use Rattle.std.proofs.lemmas.Bool.{false≢true}
use mathlib.Core.List.{List, [], ◌∷◌, ◌++◌, append-nil, cons≢nil}
use Rattle.std.proofs.lemmas.List.{take-append-le, drop-append-le}
use Rattle.std.proofs.Math.Dec.{eqb-suc-zero}
use Rattle.terms.specs.Laws.Bools.{cases}
use Rattle.fields.specs.Base.{one}
use Rattle.logs.specs.Rule.Stream.{whole, oversized, first_bytes, events, joined}
use Rattle.logs.specs.Rule.Reading.{taken, one_more, cut, ready, left}
use Rattle.logs.specs.declared.frame.Ready.{Ready}
use Rattle.logs.specs.Laws.First.{first_inside, first_oversized, oversized_has}
use Rattle.logs.specs.Laws.Stream.{first_append, whole_append, oversized_append, oversized_cut}
use Rattle.logs.specs.Laws.Stream.{events_whole, events_last, events_nil}
use Rattle.logs.specs.Laws.Ready.{ready_none, ready_whole, ready_cut, cut_large, cut_open, cut_end, cut_ended}

same_last : {r q : Ready} {x : Bool} → r ≡ q → r.last ≡ x → q.last ≡ x
same_last e h = sym (ap (λ r. r.last) e) ∙ h

-- ---- events off the front

pub length_taken : (k : ℕ) (s : List ℕ) → length (taken k s) ≡ k
unfolding taken
length_taken zero s = refl
length_taken (suc k) s = ap suc (length_taken k (drop (first_bytes s) s))

-- a whole frame is held
events_held : (s z : List ℕ) → whole s ≡ true → events (s ++ z) ≡ take (first_bytes s) s ∷ events (drop (first_bytes s) s ++ z)
events_held s z h =
    let f = first_inside s in
    events_whole (s ++ z) (whole_append s z h)
    ∙ ap (λ n. take n (s ++ z) ∷ events (drop n (s ++ z))) (first_append s z h)
    ∙ ap₂ (λ x y. x ∷ events y) (take-append-le (first_bytes s) s z f) (drop-append-le (first_bytes s) s z f)

-- they are the first, and those of what they leave follow
abbrev pub Splits : List ℕ → List ℕ → ℕ → Type 0
Splits s z m = events (s ++ z) ≡ taken m s ++ events (left m s ++ z)

splits_none : (s z : List ℕ) → Splits s z 0
unfolding taken joined
splits_none s z = refl

-- the first of them, and what the others leave
pub left_more : (m : ℕ) (s : List ℕ) → left m (drop (first_bytes s) s) ≡ left (suc m) s
unfolding taken joined
left_more m s =
    let f = first_bytes s in
    let l = joined (taken m (drop f s)) in
    let a = length-take-le f s (first_inside s) in
    let n : f + length l ≡ length (take f s ++ l) = omega (arith, length-append (take f s) l) in
    drop-drop (length l) f s ∙ ap (λ i. drop i s) n

splits_more : (s z : List ℕ) (m : ℕ) → whole s ≡ true → Splits (drop (first_bytes s) s) z m → Splits s z (suc m)
unfolding taken
splits_more s z m h e =
    let f = first_bytes s in
    events_held s z h ∙ ap (λ x. take f s ∷ x) (e ∙ ap (λ y. taken m (drop f s) ++ events (y ++ z)) (left_more m s))

-- nothing but frames is ready where more may follow
cut_waits : (ended : Bool) (s : List ℕ) → (cut ended s).last ≡ false → (cut ended s).count ≡ 0
cut_waits true s e = absurd (true≢false (sym (cut_ended s) ∙ e))
cut_waits false s e =
    cases (oversized s)
    (λ h. absurd (true≢false (same_last (cut_large false s h) e)))
    (λ h. ap (λ r. r.count) (cut_open s h))

first_in : (k : ℕ) (ended : Bool) (s z : List ℕ) → (ready k ended s).last ≡ false → Splits s z (ready k ended s).count
unfolding one_more
first_in zero ended s z e = rw (ready_none ended s) (splits_none s z)
first_in (suc k) ended s z e =
    cases (whole s)
    (λ h.
    let r = ready_whole k ended s h in
    rw (r, add-one) (splits_more s z _ h (first_in k ended (drop (first_bytes s) s) z (same_last r e))))
    (λ h. let r = ready_cut k ended s h in rw (r, cut_waits ended s (same_last r e)) (splits_none s z))

-- where more may follow, they are the first of the stream's events
pub ready_first : (k : ℕ) (ended : Bool) (s z : List ℕ) (m : ℕ) → ready k ended s ≡ record { count = m; last = false }
    → Splits s z m
ready_first k ended s z m e = subst (Splits s z) (ap (λ r. r.count) e) (first_in k ended s z (ap (λ r. r.last) e))

-- ---- and the last

-- a head too large is held
events_stop : (s z : List ℕ) → oversized s ≡ true → events (s ++ z) ≡ taken 1 s
unfolding taken
events_stop s z h =
    let o = oversized_append s z h in
    let w = oversized_has s h in
    let some : s ++ z ≢ [] = λ e. omega (arith, length-append s z, ap length e) in
    events_last (s ++ z) (oversized_cut (s ++ z) o) some
    ∙ ap (λ n. take n (s ++ z) ∷ []) (first_oversized (s ++ z) o ∙ sym (first_oversized s h))
    ∙ ap (λ x. x ∷ []) (take-append-le (first_bytes s) s z (first_inside s))

-- what is left at the end
events_end : (s : List ℕ) → whole s ≡ false → events s ≡ taken (one (not (eqb (length s) 0))) s
unfolding taken one
events_end [] h = events_nil
events_end (x ∷ r) h = rw (eqb-suc-zero (length r)) (events_last (x ∷ r) h cons≢nil)

cut_last : (ended : Bool) (s z : List ℕ) → whole s ≡ false → (cut ended s).last ≡ true → (ended ≡ true → z ≡ [])
    → events (s ++ z) ≡ taken (cut ended s).count s
cut_last true s z w e f =
    cases (oversized s)
    (λ h. rw (cut_large true s h) (events_stop s z h))
    (λ h. rw (cut_end s h, f refl, append-nil s) (events_end s w))
cut_last false s z w e f =
    cases (oversized s)
    (λ h. rw (cut_large false s h) (events_stop s z h))
    (λ h. absurd (false≢true (same_last (cut_open s h) e)))

all_in : (k : ℕ) (ended : Bool) (s z : List ℕ) → (ready k ended s).last ≡ true → (ended ≡ true → z ≡ [])
    → events (s ++ z) ≡ taken (ready k ended s).count s
unfolding taken one_more
all_in zero ended s z e f = absurd (false≢true (same_last (ready_none ended s) e))
all_in (suc k) ended s z e f =
    cases (whole s)
    (λ h.
    let r = ready_whole k ended s h in
    let q = all_in k ended (drop (first_bytes s) s) z (same_last r e) f in
    rw (r, add-one) (events_held s z h ∙ ap (λ x. take (first_bytes s) s ∷ x) q))
    (λ h. let r = ready_cut k ended s h in rw r (cut_last ended s z h (same_last r e) f))

-- where none comes after them, they are all
pub ready_all : (k : ℕ) (ended : Bool) (s z : List ℕ) (m : ℕ) → ready k ended s ≡ record { count = m; last = true }
    → (ended ≡ true → z ≡ []) → events (s ++ z) ≡ taken m s
ready_all k ended s z m e f = all_in k ended s z (ap (λ r. r.last) e) f ∙ ap (λ r. taken r.count s) e
