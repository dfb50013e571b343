-- The loop that counts events: k are counted, and the others that are wanted are sought in what stands from `at` on.
-- Assumes nothing.
use Rattle.std.specs.Prelude.{ℕ, suc, ◌+◌, ◌-◌, ◌≤◌, ◌<◌, ◌≡◌, Bool, true, false, List, length, drop}
use Rattle.std.proofs.Common.{ap, sym, ◌∙◌, zero-add, add-zero, arith, length-drop, drop-drop}
use Rattle.terms.specs.Names.{num}
use Rattle.logs.specs.Rule.Stream.{whole, first_bytes}
use Rattle.logs.specs.Rule.Reading.{one_more, cut, ready}
use Rattle.logs.specs.declared.frame.Ready.{Ready}
use Rattle.logs.specs.Laws.Part.{from, from_is}
use Rattle.logs.specs.Laws.First.{first_whole, first_inside}
use Rattle.logs.specs.Laws.Ready.{ready_whole, ready_cut}

-- r after k others
abbrev pub after : ℕ → Ready → Ready
after k r = record { count = k + r.count; last = r.last }

after_none : (r : Ready) → r ≡ after 0 r
after_none r = ap (λ (n : ℕ). record { count = n; last = r.last }) (sym (zero-add r.count))

after_one : (k : ℕ) (r : Ready) → after k (one_more r) ≡ after (k + 1) r
unfolding one_more
after_one k r =
    let e : k + (r.count + 1) ≡ k + 1 + r.count = omega arith in
    ap (λ (n : ℕ). record { count = n; last = r.last }) e

pub record Counted (s : List ℕ) (ended : Bool) (most at k : ℕ) : Type 0 where
  pub inside : at ≤ length s
  pub few : k ≤ most
  pub same : ready most ended s ≡ after k (ready (most - k) ended (drop at s))

pub counted_none : (s : List ℕ) (ended : Bool) (most : ℕ) → Counted s ended most 0 0
counted_none s ended most =
    let all : most - 0 ≡ most = omega arith in
    record { inside = omega arith; few = omega arith; same = rw all (after_none (ready most ended s)) }

module _ {s : List ℕ} {ended : Bool} {most at k : ℕ} (w : Counted s ended most at k) where
  pub counted_more : {x : ℕ} → k < most → whole (from s at) ≡ true → x ≡ 10 + num (from s at) 6 4
      → Counted s ended most (at + x) (k + 1)
  counted_more {x} l h n =
      let d = drop at s in
      let f : x ≡ first_bytes (from s at) = n ∙ sym (first_whole (from s at) h) in
      let inside = w.inside in
      let left = most - (k + 1) in
      let next : most - k ≡ suc left = omega arith in
      let on : drop (first_bytes d) d ≡ drop (at + x) s =
      drop-drop (first_bytes d) at s ∙ ap (λ (n : ℕ). drop (at + n) s) (sym (f ∙ ap first_bytes (from_is s at))) in
      let goes : ready (most - k) ended d ≡ one_more (ready left ended (drop (at + x) s)) =
      ap (λ (n : ℕ). ready n ended d) next ∙ ready_whole left ended d (sym (ap whole (from_is s at)) ∙ h)
      ∙ ap (λ (l : List ℕ). one_more (ready left ended l)) on in
      record {
        inside = omega (arith, first_inside d, ap first_bytes (from_is s at), length-drop at s);
        few = omega arith;
        same = w.same ∙ ap (after k) goes ∙ after_one k (ready left ended (drop (at + x) s));
      }

  pub counted_cut : {r : Ready} → k < most → whole (from s at) ≡ false → r ≡ cut ended (from s at)
      → after k r ≡ ready most ended s
  counted_cut {r} l h f =
      let d = drop at s in
      let next : most - k ≡ suc (most - (k + 1)) = omega arith in
      let goes : ready (most - k) ended d ≡ r =
      ap (λ (n : ℕ). ready n ended d) next ∙ ready_cut (most - (k + 1)) ended d (sym (ap whole (from_is s at)) ∙ h)
      ∙ sym (f ∙ ap (cut ended) (from_is s at)) in
      sym (w.same ∙ ap (after k) goes)

pub counted_all : {s : List ℕ} {ended : Bool} {most at k : ℕ} → Counted s ended most at k → most ≤ k
    → record { count = most; last = false } ≡ ready most ended s
unfolding ready
counted_all {s} {ended} {most} {at} {k} w h =
    let few = w.few in
    let none : most - k ≡ 0 = omega arith in
    let all : most ≡ k = omega arith in
    sym (w.same ∙ rw (none, add-zero k, all))
