-- Every stream, however it is cut, has a run: what a reader does in the order of the program, turns can do. Assumes nothing.
use Rattle.std.specs.Prelude.{ℕ, suc, ◌+◌, ◌<◌, Bool, true, false, ◌≡◌, refl, List, [], ◌∷◌, ◌++◌, length, get_or, leb}
use Rattle.std.proofs.lemmas.Bool.{false≢true}
use Rattle.std.proofs.Common.{sym, ap, subst, ◌∙◌, append-nil, append_assoc, arith, length-append, leb-true, leb-false, eq-eqb, ne_eqb}
use Rattle.std.proofs.Math.Seq.{get_or-append_seam}
use Rattle.terms.specs.Laws.Bools.{cases}
use Rattle.logs.specs.Inner.{ready}
use Rattle.logs.specs.Laws.Chunk.{chunk_empty, chunk_some}
use Rattle.logs.specs.Log.{Serves, reads, closes, serves, quits}
use Rattle.logs.proofs.Promises.{serves_exist}
use Rattle.logging.specs.Turn.{most_events, LogBuffers}
use Rattle.logging.specs.Turns.{more}
use Rattle.logging.specs.Laws.Turn.{waits}
use Rattle.logging.specs.Laws.Stand.{Stand, stand_first, given, same_chunks, stand_give, stand_read, stand_as}
use Rattle.logging.specs.Streams.{SomeEach, LogGoes, SizedEach, LogRuns, whole, crowded}

module _ {b buf₀ t₀ o₀ : List ℕ} (ample : LogBuffers buf₀ o₀) where
  goes_last : {cs : List (List ℕ)} {h : List ℕ} {e : Bool} {m : ℕ} {rest : List (List ℕ)} → Stand b buf₀ t₀ o₀ cs h e
      → ready most_events e h ≡ record { count = m; last = true }
      → (e ≡ true → rest ≡ []) → LogGoes b buf₀ t₀ o₀ (cs ++ rest)
  goes_last {rest = rest} s r off =
      let g = given ample s r (λ z. refl) in
      whole
      (record {
        chunks = _;
        unread = rest;
        buf' = _;
        o' = _;
        p' = g.p';
        all = ap (λ (l : List (List ℕ)). l ++ rest) (sym (same_chunks ample s g));
        turns = more s.under.way s.under.on g.turn;
        done = g.done=;
        seen = λ q. off (sym s.seen ∙ sym g.ended= ∙ q);
      })

  goes : {h : List ℕ} {e : Bool} {n : ℕ} {u : List ℕ} {rest : List (List ℕ)} {y : List ℕ} {cs : List (List ℕ)}
      → Serves most_events b h e n u rest y → Stand b buf₀ t₀ o₀ cs h e → SomeEach rest → (e ≡ true → rest ≡ [])
      → LogGoes b buf₀ t₀ o₀ (cs ++ rest)
  goes {cs = cs} (reads {held = h} {more = rest} c idle r) s some off =
      let one = some 0 (omega arith) in
      cases (leb (length h + length c) (length buf₀))
      (λ k.
      let next = stand_read ample c s idle (leb-true (length h + length c) (length buf₀) k) in
      let here =
      stand_as (ap (λ (l : List (List ℕ)). cs ++ l) (chunk_some c one)) refl (ne_eqb (length c) 0 (λ z. omega arith)) next in
      subst (LogGoes b buf₀ t₀ o₀) (append_assoc cs (c ∷ []) rest)
      (goes r here (λ i l. some (suc i) (omega arith)) (λ z. absurd (false≢true z))))
      (λ k.
      let n = ap length s.holds in
      let small = (waits false h idle).short in
      crowded s.chunks c rest (ap (λ (l : List (List ℕ)). l ++ (c ∷ rest)) (sym s.read=)) s.under.way (omega arith)
      (omega (arith, leb-false (length h + length c) (length buf₀) k)))
  goes {cs = cs} (closes {held = h} idle r) s some off =
      let small = (waits false h idle).short in
      let next = stand_read ample [] s idle (omega (arith, ample.holds)) in
      let here =
      stand_as (ap (λ (l : List (List ℕ)). cs ++ l) (chunk_empty refl) ∙ append-nil cs) (append-nil h) (eq-eqb 0 0 refl) next in
      goes r here some (λ z. refl)
  goes (serves m w r) s some off = goes r (stand_give ample s m w) some off
  goes (quits m w) s some off = goes_last s w off

  pub goes_all : (cs : List (List ℕ)) → SomeEach cs → LogGoes b buf₀ t₀ o₀ cs
  goes_all cs some =
      goes (serves_exist most_events b [] 0 t₀ cs (omega arith)).way stand_first some (λ z. absurd (false≢true z))

-- ---- chunks that always have room

pub runs_sized : {b buf t o : List ℕ} → LogBuffers buf o → (cs : List (List ℕ)) → SizedEach buf cs → LogRuns b buf t o cs
runs_sized {b} {buf} {t} {o} ample cs sized = go (goes_all ample cs (λ i l. (sized i l).low))
  where
    go : LogGoes b buf t o cs → LogRuns b buf t o cs
    go (whole r) = record { text = _; table = _; run = r }
    go (crowded front c back e w short large) =
        let is = ap (λ (l : List (List ℕ)). length (get_or l (length front) [])) e ∙ ap length (get_or-append_seam front c back []) in
        let inside : length front < length cs = omega (arith, ap length e, length-append front (c ∷ back)) in
        absurd (omega (arith, (sized (length front) inside).high, ample.holds))
