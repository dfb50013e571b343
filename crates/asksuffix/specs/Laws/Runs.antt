-- Every stream of bytes, however it is cut, has a run. Assumes nothing.
use Rattle.std.specs.Prelude.{ℕ, zero, suc, ◌+◌, ◌≤◌, ◌<◌, Bool, true, false, ◌≡◌, List, [], ◌∷◌, ◌++◌, length, get_or, drop, leb, ltb}
use Rattle.std.proofs.Common.{true≢false, sym, ◌∙◌, append-nil, append_assoc, le_refl, arith, length-append, get_or-drop, leb-true, leb-false, ltb-true, ltb-false, eq-eqb, ne_eqb}
use Rattle.std.proofs.Math.Path.{refl, ap, subst}
use Rattle.std.proofs.Math.Seq.{get_or-append_seam}
use Rattle.terms.specs.Base.{Bytes}
use Rattle.terms.specs.Laws.Bools.{cases}
use Rattle.terms.specs.Names.{num}
use Rattle.terms.specs.Laws.Num.{num_lt}
use Rattle.logs.specs.Laws.Chunk.{chunk_empty, chunk_some}
use Rattle.reader.specs.Held.{held}
use Rattle.asksuffix.specs.Rule.Hosts.{most_bytes, host_bytes, host_whole}
use Rattle.asksuffix.specs.Turn.{AskBuffers, last, Turn, stopped}
use Rattle.asksuffix.specs.Turns.{more}
use Rattle.asksuffix.specs.Laws.Hosts.{whole_short, whole_in, shorter}
use Rattle.asksuffix.specs.Laws.Stand.{Stand, stand_first, stand_as, same_chunks, stand_answer, stand_read}
use Rattle.asksuffix.specs.Streams.{BroughtEach, AskGoes, SizedEach, AskRuns, whole, crowded}

-- ---- bytes

bytes_append : (s z : List ℕ) → Bytes s → Bytes z → Bytes (s ++ z)
bytes_append [] z h k i = k i
bytes_append (x ∷ s) z h k zero = h 0
bytes_append (x ∷ s) z h k (suc i) = bytes_append s z (λ j. h (suc j)) k i

bytes_drop : (n : ℕ) (s : List ℕ) → Bytes s → Bytes (drop n s)
bytes_drop n s h i = rw get_or-drop (h (n + i))

-- fewer than a host can take, where none is whole
cut_small : (s : List ℕ) → host_whole s ≡ false → Bytes s → length s < most_bytes
unfolding host_bytes
cut_small s cut k =
    cases (ltb (length s) most_bytes) (λ e. ltb-true (length s) most_bytes e)
    (λ e.
    let l = ltb-false (length s) most_bytes e in
    let n : num s 0 2 < 65536 = num_lt s 0 2 k in
    absurd (true≢false (sym (whole_in s (record { long = omega arith; present = omega arith })) ∙ cut)))

-- ---- to the end

module _ {b buf₀ o₀ : List ℕ} (ample : AskBuffers buf₀ o₀) where
  -- the whole hosts of what is held are answered, and then
  answers_on : {cs : List (List ℕ)} {e : Bool} {G : Type 0} (j : ℕ)
      → ((h : List ℕ) → Stand b buf₀ o₀ cs h e → host_whole h ≡ false → Bytes h → G) → (h : List ℕ)
      → Stand b buf₀ o₀ cs h e → Bytes h → length h ≤ j → G
  answers_on zero next h s k l = next h s (sym (whole_short h (omega arith))) k
  answers_on (suc j) next h s k l =
      cases (host_whole h)
      (λ w. answers_on j next (drop (host_bytes h) h) (stand_answer ample s w) (bytes_drop (host_bytes h) h k) (shorter j h w l))
      (λ w. next h s w k)

  -- the last turn
  goes_last : {cs : List (List ℕ)} {h : List ℕ} → Stand b buf₀ o₀ cs h true → host_whole h ≡ false → AskGoes b buf₀ o₀ cs
  unfolding held last
  goes_last s cut =
      let turn : Turn s.buf b s.o s.p s.buf s.o (last s.p) =
      stopped (record { cut = ap host_whole s.holds ∙ cut; off = s.seen; same = refl; room = refl; moved = refl }) in
      subst (AskGoes b buf₀ o₀)
      (same_chunks s.chunks s.buf s.p s.buf (last s.p) (le_refl _) ∙ s.read=)
      (whole
      (record { buf' = _; o' = _; p' = _; turns = more s.under.way s.under.on turn; done = refl }))

  goes : {cs : List (List ℕ)} (rest : List (List ℕ)) (h : List ℕ) → Stand b buf₀ o₀ cs h false → Bytes h → BroughtEach rest
      → AskGoes b buf₀ o₀ (cs ++ rest)
  goes {cs} [] h s k some =
      answers_on (length h)
      (λ h₁ s₁ cut k₁.
      let small = cut_small h₁ cut k₁ in
      let next = stand_read ample [] s₁ cut small (omega (arith, ample.holds)) in
      let here =
      stand_as (ap (λ (l : List (List ℕ)). cs ++ l) (chunk_empty refl)) (append-nil h₁) (eq-eqb 0 0 refl) next in
      answers_on (length h₁) (λ h₂ s₂ cut₂ k₂. goes_last s₂ cut₂) h₁ here k₁ (le_refl _))
      h s k (le_refl _)
  goes {cs} (c ∷ rest) h s k some =
      let one = some 0 (omega arith) in
      answers_on (length h)
      (λ h₁ s₁ cut k₁.
      let small = cut_small h₁ cut k₁ in
      cases (leb (length h₁ + length c) (length buf₀))
      (λ fits.
      let next = stand_read ample c s₁ cut small (leb-true (length h₁ + length c) (length buf₀) fits) in
      let here =
      stand_as (ap (λ (l : List (List ℕ)). cs ++ l) (chunk_some c one.some)) refl
      (ne_eqb (length c) 0 (λ z. omega (arith, one.some))) next in
      subst (AskGoes b buf₀ o₀) (append_assoc cs (c ∷ []) rest)
      (goes rest (h₁ ++ c) here (bytes_append h₁ c k₁ one.bytes) (λ i l. some (suc i) (omega arith))))
      (λ fits.
      let n = ap length s₁.holds in
      crowded s₁.chunks c rest (ap (λ (l : List (List ℕ)). l ++ (c ∷ rest)) (sym s₁.read=)) s₁.under.way (omega arith)
      (omega (arith, leb-false (length h₁ + length c) (length buf₀) fits))))
      h s k (le_refl _)

  pub goes_all : (cs : List (List ℕ)) → BroughtEach cs → AskGoes b buf₀ o₀ cs
  goes_all cs some = goes cs [] stand_first (λ i. omega arith) some

-- ---- chunks that always have room

pub runs_sized : {b buf o : List ℕ} → AskBuffers buf o → (cs : List (List ℕ)) → SizedEach buf cs → AskRuns b buf o cs
runs_sized {b} {buf} {o} ample cs sized =
    go (goes_all ample cs (λ i l. record { some = (sized i l).size.low; bytes = (sized i l).bytes }))
  where
    go : AskGoes b buf o cs → AskRuns b buf o cs
    go (whole r) = record { text = _; run = r }
    go (crowded front c back e w short large) =
        let is = ap (λ (l : List (List ℕ)). length (get_or l (length front) [])) e ∙ ap length (get_or-append_seam front c back []) in
        let inside : length front < length cs = omega (arith, ap length e, length-append front (c ∷ back)) in
        absurd (omega (arith, (sized (length front) inside).size.high, ample.holds))
