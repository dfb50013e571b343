-- To whom the actions of a call go: kind by kind, to what is live before and after, or begins, or stops. Assumes nothing.
use Rattle.std.specs.Prelude.{ℕ, ◌≡◌, refl, true, false, ◌&&◌, ◌≢◌, List, ◌∷◌, eqb}
use Rattle.std.proofs.Common.{sym, subst, ◌∙◌, ⊎_elim, arith, eqb-true}
use Rattle.std.proofs.lemmas.Bool.{false≢true, eqb-false}
use Rattle.terms.specs.Laws.Bools.{and_left, and_right, or_case}
use Rattle.rules.specs.Rule.Call.{Call, table, actions, left, is_frame, Every, none, more, sends}
use Rattle.rules.specs.Rule.Ids.{tab_live, process_live, Through, Begins, Addressed}
use Rattle.rules.specs.Sheet.{Frame, framed}
use Rattle.rules.proofs.Time.Moves.{start_begins, stop_stops}
use Rattle.rules.proofs.Time.TabMoves.{TabAhead, TabMoves}
use Rattle.rules.proofs.Time.ProcessMoves.{ProcessAhead, ProcessMoves}

-- ---- action by action

-- an action that goes where it may
pub data To (t u : List ℕ) : Frame → Type 0 where
  screen : {s tag : ℕ} {x : List ℕ} → To t u (framed 1 s tag x)
  begun : {i : ℕ} {x : List ℕ} → tab_live t i ≡ false → tab_live u i ≡ true → To t u (framed 2 i 1 x)
  tab : {i tag : ℕ} {x : List ℕ} → eqb tag 1 ≡ false → tab_live t i ≡ true → tab_live u i ≡ true → To t u (framed 2 i tag x)
  process : {n tag : ℕ} {x : List ℕ} → process_live t n ≡ true → process_live u n ≡ true → To t u (framed 3 n tag x)
  network : {i tag : ℕ} {x : List ℕ} → tab_live t i ≡ true → tab_live u i ≡ true → To t u (framed 4 i tag x)
  socket : {i : ℕ} {x : List ℕ} → tab_live t i ≡ true → tab_live u i ≡ true → To t u (framed 5 i 5 x)
  host : {i tag : ℕ} {x : List ℕ} → eqb tag 5 ≡ false → To t u (framed 5 i tag x)

-- what holds of every action of a party and a tag holds where one is sent
sent : {P : Frame → Type 0} {l : List Frame} (Q : ℕ → Type 0) (party i tag : ℕ)
    → ((a : Frame) → P a → a.party ≡ party → a.tag ≡ tag → Q a.id)
    → Every P l → sends party i tag l ≡ true → Q i
unfolding sends is_frame
sent Q party i tag f none h = absurd (false≢true h)
sent {l = a ∷ l} Q party i tag f (more w v) h =
    let x = eqb a.party party in
    let y = eqb a.tag tag in
    let z = eqb a.id i in
    ⊎_elim
    (λ (e : x && y && z ≡ true).
    let d = and_left (x && y) z e in
    subst Q (eqb-true a.id i (and_right (x && y) z e))
    (f a w (eqb-true a.party party (and_left x y d)) (eqb-true a.tag tag (and_right x y d))))
    (λ (e : sends party i tag l ≡ true). sent Q party i tag f v e)
    (or_case (x && y && z) (sends party i tag l) h)

-- ---- all actions of a call

module _ (t u : List ℕ) where
  at_begun : (a : Frame) → To t u a → a.party ≡ 2 → a.tag ≡ 1 → (tab_live t a.id ≡ false) × (tab_live u a.id ≡ true)
  at_begun a screen p q = absurd (omega arith)
  at_begun a (begun d e) p q = (d, e)
  at_begun a (tab h d e) p q = absurd (eqb-false a.tag 1 h q)
  at_begun a (process d e) p q = absurd (omega arith)
  at_begun a (network d e) p q = absurd (omega arith)
  at_begun a (socket d e) p q = absurd (omega arith)
  at_begun a (host h) p q = absurd (omega arith)

  at_tab_lem : (a : Frame) → To t u a → a.party ≡ 2 → a.tag ≢ 1 → (tab_live t a.id ≡ true) × (tab_live u a.id ≡ true)
  at_tab_lem a screen p q = absurd (omega arith)
  at_tab_lem a (begun d e) p q = absurd (q refl)
  at_tab_lem a (tab h d e) p q = (d, e)
  at_tab_lem a (process d e) p q = absurd (omega arith)
  at_tab_lem a (network d e) p q = absurd (omega arith)
  at_tab_lem a (socket d e) p q = absurd (omega arith)
  at_tab_lem a (host h) p q = absurd (omega arith)

  at_network : (a : Frame) → To t u a → a.party ≡ 4 → (tab_live t a.id ≡ true) × (tab_live u a.id ≡ true)
  at_network a screen p = absurd (omega arith)
  at_network a (begun d e) p = absurd (omega arith)
  at_network a (tab h d e) p = absurd (omega arith)
  at_network a (process d e) p = absurd (omega arith)
  at_network a (network d e) p = (d, e)
  at_network a (socket d e) p = absurd (omega arith)
  at_network a (host h) p = absurd (omega arith)

  at_socket : (a : Frame) → To t u a → a.party ≡ 5 → a.tag ≡ 5 → (tab_live t a.id ≡ true) × (tab_live u a.id ≡ true)
  at_socket a screen p q = absurd (omega arith)
  at_socket a (begun d e) p q = absurd (omega arith)
  at_socket a (tab h d e) p q = absurd (omega arith)
  at_socket a (process d e) p q = absurd (omega arith)
  at_socket a (network d e) p q = absurd (omega arith)
  at_socket a (socket d e) p q = (d, e)
  at_socket a (host h) p q = absurd (eqb-false a.tag 5 h q)

  at_process : (a : Frame) → To t u a → a.party ≡ 3 → (process_live t a.id ≡ true) × (process_live u a.id ≡ true)
  at_process a screen p = absurd (omega arith)
  at_process a (begun d e) p = absurd (omega arith)
  at_process a (tab h d e) p = absurd (omega arith)
  at_process a (process d e) p = (d, e)
  at_process a (network d e) p = absurd (omega arith)
  at_process a (socket d e) p = absurd (omega arith)
  at_process a (host h) p = absurd (omega arith)

pub addressed_of : (c : Call) → TabMoves (table c) (left c) (actions c) → ProcessMoves (table c) (left c) (actions c)
    → Every (To (table c) (left c)) (actions c)
    → Addressed c
addressed_of c m n w =
    let t = table c in
    let u = left c in
    record {
      go = λ i h. sent (Begins tab_live c) 2 i 1 (at_begun t u) w h;
      tab = λ i tag f h. sent (Through tab_live c) 2 i tag (λ a v p q. at_tab_lem t u a v p (λ e. f (sym q ∙ e))) w h;
      fetch = λ i tag h. sent (Through tab_live c) 4 i tag (λ a v p q. at_network t u a v p) w h;
      socket = λ i h. sent (Through tab_live c) 5 i 5 (at_socket t u) w h;
      process = λ i tag h. sent (Through process_live c) 3 i tag (λ a v p q. at_process t u a v p) w h;
      starts_tab = λ i h. start_begins tab_live TabAhead 1 2 i m h;
      stops_tab = λ i h. stop_stops tab_live TabAhead 1 2 i m h;
      starts_process = λ i h. start_begins process_live ProcessAhead 3 4 i n h;
      stops_process = λ i h. stop_stops process_live ProcessAhead 3 4 i n h;
    }
