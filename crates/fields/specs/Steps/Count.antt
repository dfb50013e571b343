-- What soundness/src/count.rt finds at each of its exits, and the turns of its loops. Assumes nothing.
use Rattle.std.specs.Prelude.{◌≡◌, refl, Bool, ◌&&◌, ◌≢◌, List, ℕ, ◌+◌, ◌-◌, ◌≤◌, ◌<◌, length, set, replicate}
use Rattle.std.proofs.Math.Path.{sym, ap}
use Rattle.std.proofs.Common.{◌∙◌, subst, arith}
use Rattle.std.proofs.Math.Bool.{true, false, not}
use Rattle.std.proofs.Math.Logic.{⊎_elim}
use Rattle.std.proofs.Math.Dec.{eqb}
use Rattle.std.proofs.Math.ListN.{get_or, length-set}
use Rattle.std.proofs.lemmas.List.{get_or-replicate}
use Rattle.std.proofs.Math.Seq.{get_or-set_same, get_or-set_other}
use borrow.Author.Tests.{eq-eqb, ne_eqb, eqb-true, le-leb, lt-leb}
use Rattle.std.proofs.lemmas.Bool.{eqb-false}
use Rattle.terms.specs.Laws.Bools.{cases}
use Rattle.terms.specs.Base.{Range}
use Rattle.fields.specs.Base.{sum, one, count}
use Rattle.fields.specs.Rule.View.{View, row, tabs}
use Rattle.fields.specs.Rule.Layout.{view}
use Rattle.fields.specs.Rule.Clause.{counted}
use Rattle.fields.specs.Rule.Word.{live, used, points, pointing}
use Rattle.fields.specs.Good.{tabs_true, seat_good, TabCounts}
use Rattle.fields.specs.Laws.Each.{same_or}
use Rattle.fields.specs.Laws.Sum.{sum_none, sum_next, sum_last, sum_le, count_le}
use Rattle.fields.specs.Laws.Clause.{hangs_on}
use Rattle.fields.specs.Laws.GoodParts.{good_seat}
use Rattle.fields.specs.Laws.There.{used_there}

count_none : (f : ℕ → Bool) → count 0 f ≡ 0
unfolding count
count_none f = sum_none (λ k. one (f k))

-- ---- the tabs of one seat more

-- a live tab of a good seat points at a row that is there
pub row_there : (t : List ℕ) (most s k : ℕ) {r : Bool} {q : ℕ} → seat_good most (view t) s ≡ true → Range 1 10 k
    → r ≡ live (view t) s k → r ≡ true → q ≡ view t (row s k) → Range 1 80 q
row_there t most s k g i e h f =
    let x = hangs_on (view t) s k ((good_seat most (view t) s g).slots k i).hang (sym e ∙ h) in
    subst (Range 1 80) (sym f) (used_there t (view t (row s k)) x.live_row)

module _ (v : View) (s : ℕ) where
  -- how many tabs of seat s point at p, and how many of a seat below do
  abbrev here : ℕ → ℕ → ℕ
  here p k = count k (λ k. points v p s k)

  abbrev below : ℕ → ℕ
  below p = sum (s - 1) (λ s. count 10 (λ k. points v p s k))

  -- the seats below are counted, and k slots of seat s
  pub record Counting (k : ℕ) (c : List ℕ) : Type 0 where
    pub long : length c ≡ 81
    pub rows : (p : ℕ) → p ≤ 80 → get_or c p 0 ≡ below p + here p k

  pub counting_none : {c : List ℕ} → TabCounts v (s - 1) c → Counting 0 c
  counting_none h =
      record {
        long = h.long;
        rows = λ p r. let z = count_none (λ k. points v p s k) in let e = h.rows p r in omega arith;
      }

  -- the slots below k are counted, and k is next: a count has room for one more
  pub counting_fits : {c : List ℕ} {q k : ℕ} → Counting (k - 1) c → Range 1 80 q → s ≤ 8 → k ≤ 10 → get_or c q 0 + 1 < 256
  counting_fits {c} {q} {k} h r l g =
      let a = h.rows q r.high in
      let b = sum_le (s - 1) (λ s. count 10 (λ k. points v q s k)) 10 (λ s i. count_le 10 (λ k. points v q s k)) in
      let d = count_le (k - 1) (λ k. points v q s k) in
      omega arith

  one_more_lem : (p : ℕ) {k : ℕ} {b : Bool} → 1 ≤ k → b ≡ points v p s k → here p (k - 1) + one b ≡ here p (k + 1 - 1)
  unfolding count
  one_more_lem p l e = sum_next (λ k. one (points v p s k)) l refl (ap one e)

  pub counting_free : {c : List ℕ} {r : Bool} {k : ℕ} → 1 ≤ k → Counting (k - 1) c → r ≡ live v s k → r ≡ false
      → Counting (k + 1 - 1) c
  unfolding points one
  counting_free {k = k} l h e f =
      record {
        long = h.long;
        rows = λ p i.
            let a : here p (k - 1) + 0 ≡ here p (k + 1 - 1) = one_more_lem p {b = false} l (sym (rw (sym e ∙ f))) in
            h.rows p i ∙ omega arith;
      }

  pub counting_live : {c : List ℕ} {r : Bool} {q k : ℕ} → 1 ≤ k → Counting (k - 1) c → r ≡ live v s k → r ≡ true
      → q ≡ v (row s k) → Range 1 80 q → Counting (k + 1 - 1) (set c q (get_or c q 0 + 1))
  unfolding points one
  counting_live {c} {r} {q} {k} l h e f g i =
      let x = get_or c q 0 + 1 in
      let long = h.long in
      let high = i.high in
      record {
        long = length-set c q x ∙ long;
        rows = λ p w.
            ⊎_elim
            (λ (z : p ≡ q).
            let a : here p (k - 1) + 1 ≡ here p (k + 1 - 1)
            = one_more_lem p {b = true} l (sym (rw (sym e ∙ f, eq-eqb (v (row s k)) p (sym g ∙ sym z)))) in
            let b : get_or (set c q x) p 0 ≡ x
            = ap (λ (j : ℕ). get_or (set c q x) j 0) z ∙ get_or-set_same c q x 0 (omega arith) in
            let d : get_or c q 0 ≡ below p + here p (k - 1) = ap (λ (j : ℕ). get_or c j 0) (sym z) ∙ h.rows p w in
            b ∙ omega arith)
            (λ (n : p ≢ q).
            let a : here p (k - 1) + 0 ≡ here p (k + 1 - 1)
            = one_more_lem p {b = false} l (sym (rw (sym e ∙ f, ne_eqb (v (row s k)) p (λ z. n (sym z ∙ sym g))))) in
            get_or-set_other c q p x 0 n ∙ h.rows p w ∙ omega arith)
            (same_or p q);
      }

  pub counting_done : {c : List ℕ} {k : ℕ} → Range 1 8 s → k ≡ 10 → Counting k c → TabCounts v s c
  counting_done {c} i e h =
      let w : Counting 10 c = subst (λ (k : ℕ). Counting k c) e h in
      record {
        long = w.long;
        rows = λ p r. w.rows p r ∙ sum_last (λ s. count 10 (λ k. points v p s k)) s i.low;
      }

-- ---- all seats

pub counts_none : (v : View) → TabCounts v 0 (replicate 81 0)
counts_none v =
    record {
      long = refl;
      rows = λ p r.
          get_or-replicate 81 p 0 0 (omega arith) ∙ sym (sum_none (λ s. count 10 (λ k. points v p s k)));
    }

pub counts_next : (v : View) {c : List ℕ} {s : ℕ} → TabCounts v s c → TabCounts v (s + 1 - 1) c
counts_next v {c} {s} h = let a : s + 1 - 1 ≡ s = omega arith in subst (λ (n : ℕ). TabCounts v n c) (sym a) h

pub counts_done : (v : View) {c : List ℕ} {s : ℕ} → s ≡ 8 → TabCounts v s c → TabCounts v 8 c
counts_done v {c} e h = subst (λ (n : ℕ). TabCounts v n c) e h

-- ---- the tabs of a row

module _ (v : View) (p : ℕ) where
  pub pointing_is : {n : ℕ} {c : List ℕ} → TabCounts v 8 c → Range 1 80 p → n ≡ get_or c p 0 → n ≡ pointing v p
  unfolding pointing
  pointing_is h r e = e ∙ h.rows p r.high

  pub true_is : used v p ≡ true → tabs_true v p ≡ not (eqb (v (tabs p)) 0) && eqb (v (tabs p)) (pointing v p)
  unfolding tabs_true counted
  true_is u =
      rw u
      (cases (eqb (v (tabs p)) 0)
      (λ e. rw (e, lt-leb 1 (v (tabs p)) (let z = eqb-true _ _ e in omega arith)))
      (λ e. rw (e, le-leb 1 (v (tabs p)) (let z = eqb-false _ _ e in omega (arith, z)))))
