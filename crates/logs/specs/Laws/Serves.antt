-- A reader in the order of the program, which gives what is ready, k events at most at once, and reads on only where nothing is
-- ready; it comes to the end of every stream. Assumes nothing.
use Rattle.std.specs.Prelude.{ℕ, zero, suc, ◌+◌, ◌≤◌, ◌<◌, ◌≡◌, refl, Bool, true, false, length, take, drop}
use Rattle.std.proofs.Common.{sym, ap, ◌∙◌, true≢false, le_refl, arith, length-append, length-drop, length-take-le}
use mathlib.Core.List.{List, [], ◌∷◌, ◌++◌, nil≢cons}
use Rattle.terms.specs.Laws.Bools.{cases}
use Rattle.logs.specs.Rule.Stream.{whole, first_bytes, joined}
use Rattle.logs.specs.Rule.Log.{table_after}
use Rattle.logs.specs.Rule.Reading.{taken, one_more, ready}
use Rattle.logs.specs.Laws.First.{first_inside}
use Rattle.logs.specs.Laws.Stream.{first_shorter, events_nil}
use Rattle.logs.specs.Laws.Ready.{ready_whole, ready_cut, cut_ended}
use Rattle.logs.specs.Laws.Taken.{ready_first}
use Rattle.logs.specs.Rule.Reading.{left}
use Rattle.logs.specs.Rule.Reading.{ServesSome, reads, closes, serves, quits}

-- ---- to the end

-- events that are ready make what is held shorter
ready_some : (k : ℕ) (ended : Bool) (s : List ℕ) (m : ℕ) → ready k ended s ≡ record { count = suc m; last = false }
    → 0 < length s
unfolding taken
ready_some k ended [] m e = absurd (nil≢cons (sym events_nil ∙ ready_first k ended [] [] (suc m) e))
ready_some k ended (x ∷ r) m e = omega arith

left_shorter : (j m : ℕ) (s : List ℕ) → length s ≤ suc j → length (left (suc m) s) ≤ j
unfolding taken joined
left_shorter j m s h =
    let f = first_bytes s in
    let l = joined (taken m (drop f s)) in
    let a = length-take-le f s (first_inside s) in
    let c = length-append (take f s) l in
    let d = first_shorter j s h in
    omega (arith, length-drop f s, length-drop (length (take f s ++ l)) s)

-- after the end something is ready, or it was the last
ready_ended : (k : ℕ) (s : List ℕ) → ready (suc k) true s ≡ record { count = 0; last = false } → ⊥
unfolding one_more
ready_ended k s e =
    cases (whole s)
    (λ h. omega (arith, ap (λ r. r.count) (sym (ready_whole k true s h) ∙ e)))
    (λ h. true≢false (sym (cut_ended s) ∙ ap (λ r. r.last) (sym (ready_cut k true s h) ∙ e)))

module _ (k : ℕ) (b : List ℕ) (ended : Bool) (more : List (List ℕ)) where
  serve : (held : List ℕ) (n : ℕ) (t : List ℕ)
      → (ready k ended held ≡ record { count = 0; last = false } → ServesSome k b held ended n t more)
      → ((m : ℕ) → ready k ended held ≡ record { count = suc m; last = false }
      → ServesSome k b (left (suc m) held) ended (n + suc m) (table_after t b (taken (suc m) held)) more)
      → ServesSome k b held ended n t more
  serve held n t next later = go (ready k ended held).count (ready k ended held).last refl
    where
      go : (m : ℕ) (x : Bool) → ready k ended held ≡ record { count = m; last = x } → ServesSome k b held ended n t more
      go zero false e = next e
      go (suc m) false e = let d = later m e in record { text = _; way = serves m e d.way }
      go m true e = record { text = _; way = quits m e }

  serve_in : (j : ℕ)
      → ((held : List ℕ) (n : ℕ) (t : List ℕ) → ready k ended held ≡ record { count = 0; last = false }
      → ServesSome k b held ended n t more)
      → (held : List ℕ) (n : ℕ) (t : List ℕ) → length held ≤ j → ServesSome k b held ended n t more
  serve_in zero next held n t h =
      serve held n t (next held n t) (λ m e. let some = ready_some k ended held m e in absurd (omega arith))
  serve_in (suc j) next held n t h =
      serve held n t (next held n t) (λ m e.
      serve_in j next (left (suc m) held) (n + suc m) (table_after t b (taken (suc m) held)) (left_shorter j m held h))

serves_ended : (k : ℕ) (b held : List ℕ) (n : ℕ) (t : List ℕ) → ServesSome (suc k) b held true n t []
serves_ended k b held n t =
    serve_in (suc k) b true [] (length held) (λ s i u e. absurd (ready_ended k s e)) held n t (le_refl (length held))

serves_suc : (k : ℕ) (b held : List ℕ) (n : ℕ) (t : List ℕ) (cs : List (List ℕ)) → ServesSome (suc k) b held false n t cs
serves_suc k b held n t [] =
    serve_in (suc k) b false [] (length held) (λ s i u e.
    let d = serves_ended k b s i u in record { text = d.text; way = closes e d.way })
    held n t (le_refl (length held))
serves_suc k b held n t (c ∷ cs) =
    serve_in (suc k) b false (c ∷ cs) (length held) (λ s i u e.
    let d = serves_suc k b (s ++ c) i u cs in record { text = d.text; way = reads c e d.way })
    held n t (le_refl (length held))

pub serves_exist : (k : ℕ) (b held : List ℕ) (n : ℕ) (t : List ℕ) (cs : List (List ℕ)) → 0 < k → ServesSome k b held false n t cs
serves_exist zero b held n t cs h = absurd (omega arith)
serves_exist (suc k) b held n t cs h = serves_suc k b held n t cs
