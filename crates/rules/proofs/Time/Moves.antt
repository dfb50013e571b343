-- What a call does to the ids that are live, tabs' or processes' alike: it starts one that was never given before, or stops one
-- that is live, or leaves all as they are. And what follows from that over a history. Assumes nothing.
use Rattle.std.specs.Prelude.{ℕ, ◌+◌, ◌≤◌, ◌≡◌, refl, Bool, true, false, ◌||◌, ◌≢◌, List, [], ◌∷◌, eqb}
use Rattle.std.proofs.Common.{sym, subst, ◌∙◌, eq-eqb, ne_eqb}
use Rattle.std.proofs.Math.Path.{ap}
use Rattle.std.proofs.lemmas.Bool.{false≢true}
use Rattle.std.proofs.Math.Logic.{⊎_elim}
use native.Mathlib.Omega.{arith}
use Rattle.fields.specs.Base.{one}
use Rattle.fields.specs.Laws.Each.{same_or}
use Rattle.rules.specs.Rule.Call.{Call, table, actions, left, is_frame, sends, among, times}
use Rattle.rules.specs.Sheet.{Frame}

-- a test of one id turns from a to b, and of no other
pub record Flips (alive : List ℕ → ℕ → Bool) (t u : List ℕ) (j : ℕ) (a b : Bool) : Type 0 where
  pub before : alive t j ≡ a
  pub after : alive u j ≡ b
  pub others : (i : ℕ) → i ≢ j → alive u i ≡ alive t i

-- what is sent is counted
pub sends_among : (party i tag : ℕ) (l : List Frame) → sends party i tag l ≡ true → 1 ≤ among party i tag l
unfolding sends among one
sends_among party i tag [] h = absurd (false≢true h)
sends_among party i tag (a ∷ l) h = go (is_frame party i tag a) h (sends_among party i tag l)
  where
    go : (b : Bool) → b || sends party i tag l ≡ true → (sends party i tag l ≡ true → 1 ≤ among party i tag l)
        → 1 ≤ one b + among party i tag l
    go true e f = omega arith
    go false e f = let m = f e in omega arith

one_same : (j i : ℕ) → j ≡ i → one (eqb j i) ≡ 1
unfolding one
one_same j i e = ap one (eq-eqb j i e)

one_other : (j i : ℕ) → j ≢ i → one (eqb j i) ≡ 0
unfolding one
one_other j i h = ap one (ne_eqb j i h)

-- what turns is counted
module _ (alive : List ℕ → ℕ → Bool) (t u : List ℕ) (j : ℕ) where
  turn_up : Flips alive t u j false true → (i : ℕ) → one (alive u i) ≡ one (alive t i) + one (eqb j i)
  unfolding one
  turn_up w i =
      ⊎_elim
      (λ (e : j ≡ i).
      let x : one (alive t i) ≡ 0 = ap (λ (y : ℕ). one (alive t y)) (sym e) ∙ ap one w.before in
      let z : one (alive u i) ≡ 1 = ap (λ (y : ℕ). one (alive u y)) (sym e) ∙ ap one w.after in
      let y = one_same j i e in
      omega arith)
      (λ (h : j ≢ i). let y = one_other j i h in let z = ap one (w.others i (λ e. h (sym e))) in omega arith)
      (same_or j i)

  turn_back : Flips alive t u j true false → Flips alive u t j false true
  turn_back w = record { before = w.after; after = w.before; others = λ i h. sym (w.others i h) }

-- alive: which ids are live; ahead: which are still to be given; a, b: the tags of start and stop
module _ (alive : List ℕ → ℕ → Bool) (ahead : List ℕ → ℕ → Type 0) (a b : ℕ) where
  pub data Moves (t u : List ℕ) (l : List Frame) : Type 0 where
    rests : ((i : ℕ) → among 5 i a l ≡ 0) → ((i : ℕ) → among 5 i b l ≡ 0) → ((i : ℕ) → alive u i ≡ alive t i)
        → ((i : ℕ) → ahead u i → ahead t i)
        → Moves t u l
    comes : (j : ℕ) → ((i : ℕ) → among 5 i a l ≡ one (eqb j i)) → ((i : ℕ) → among 5 i b l ≡ 0)
        → Flips alive t u j false true → ahead t j → (ahead u j → ⊥)
        → ((i : ℕ) → ahead u i → ahead t i)
        → Moves t u l
    goes : (j : ℕ) → ((i : ℕ) → among 5 i a l ≡ 0) → ((i : ℕ) → among 5 i b l ≡ one (eqb j i))
        → Flips alive t u j true false
        → ((i : ℕ) → ahead u i → ahead t i)
        → Moves t u l

  -- no action, and the table stays
  pub idle : (t : List ℕ) → Moves t t []
  unfolding among
  idle t = rests (λ i. refl) (λ i. refl) (λ i. refl) (λ i h. h)

  -- a start names what begins, a stop what ends
  module _ {t u : List ℕ} {l : List Frame} (i : ℕ) where
    pub start_begins : Moves t u l → sends 5 i a l ≡ true → (alive t i ≡ false) × (alive u i ≡ true)
    start_begins (rests n m same later) h = let k = sends_among 5 i a l h in let z = n i in absurd (omega arith)
    start_begins (comes j n m w f g later) h =
        let k = sends_among 5 i a l h in
        let z = n i in
        ⊎_elim
        (λ (e : j ≡ i).
        subst (λ (x : ℕ). (alive t x ≡ false) × (alive u x ≡ true)) e (w.before, w.after))
        (λ (e : j ≢ i). let y = one_other j i e in absurd (omega arith))
        (same_or j i)
    start_begins (goes j n m w later) h = let k = sends_among 5 i a l h in let z = n i in absurd (omega arith)

    pub stop_stops : Moves t u l → sends 5 i b l ≡ true → (alive t i ≡ true) × (alive u i ≡ false)
    stop_stops (rests n m same later) h = let k = sends_among 5 i b l h in let z = m i in absurd (omega arith)
    stop_stops (comes j n m w f g later) h = let k = sends_among 5 i b l h in let z = m i in absurd (omega arith)
    stop_stops (goes j n m w later) h =
        let k = sends_among 5 i b l h in
        let z = m i in
        ⊎_elim
        (λ (e : j ≡ i).
        subst (λ (x : ℕ). (alive t x ≡ true) × (alive u x ≡ false)) e (w.before, w.after))
        (λ (e : j ≢ i). let y = one_other j i e in absurd (omega arith))
        (same_or j i)

  -- ---- over a history

  -- none is started twice, none that is still to be given was started, and those started and not stopped are live
  pub record Fair (cs : List Call) (t : List ℕ) : Type 0 where
    pub once : (i : ℕ) → times 5 i a cs ≤ 1
    pub unmade : (i : ℕ) → ahead t i → times 5 i a cs ≡ 0
    pub stand : (i : ℕ) → times 5 i a cs ≡ times 5 i b cs + one (alive t i)

  pub fair_first : (t : List ℕ) → ((i : ℕ) → alive t i ≡ false) → Fair [] t
  unfolding times one
  fair_first t h =
      record {
        once = λ i. omega arith;
        unmade = λ i f. refl;
        stand = λ i. let z : one (alive t i) ≡ 0 = ap one (h i) in omega arith;
      }

  module _ (cs : List Call) (t u : List ℕ) (l : List Frame) (f : Fair cs t) (i : ℕ) where
    next_once : Moves t u l → among 5 i a l + times 5 i a cs ≤ 1
    next_once (rests n m same later) = let x = f.once i in let z = n i in omega arith
    next_once (comes j n m w new given later) =
        let x = f.once i in
        let z = n i in
        ⊎_elim
        (λ (e : j ≡ i).
        let y = one_same j i e in
        let k = f.unmade i (subst (λ (x : ℕ). ahead t x) e new) in
        omega arith)
        (λ (h : j ≢ i). let y = one_other j i h in omega arith)
        (same_or j i)
    next_once (goes j n m w later) = let x = f.once i in let z = n i in omega arith

    next_unmade : Moves t u l → ahead u i → among 5 i a l + times 5 i a cs ≡ 0
    next_unmade (rests n m same later) g = let x = f.unmade i (later i g) in let z = n i in omega arith
    next_unmade (comes j n m w new given later) g =
        let x = f.unmade i (later i g) in
        let z = n i in
        let y = one_other j i (λ e. given (subst (λ (x : ℕ). ahead u x) (sym e) g)) in
        omega arith
    next_unmade (goes j n m w later) g = let x = f.unmade i (later i g) in let z = n i in omega arith

    next_stand : Moves t u l
        → among 5 i a l + times 5 i a cs ≡ among 5 i b l + times 5 i b cs + one (alive u i)
    next_stand (rests n m same later) =
        let x = f.stand i in let z = n i in let y = m i in let k = ap one (same i) in omega arith
    next_stand (comes j n m w new given later) =
        let x = f.stand i in let z = n i in let y = m i in let k = turn_up alive t u j w i in omega arith
    next_stand (goes j n m w later) =
        let x = f.stand i in
        let z = n i in
        let y = m i in
        let k = turn_up alive u t j (turn_back alive t u j w) i in
        omega arith

  pub fair_next : (c : Call) (cs : List Call) → Moves (table c) (left c) (actions c) → Fair cs (table c)
      → Fair (c ∷ cs) (left c)
  unfolding times
  fair_next c cs w f =
      record {
        once = λ i. next_once cs (table c) (left c) (actions c) f i w;
        unmade = λ i g. next_unmade cs (table c) (left c) (actions c) f i w g;
        stand = λ i. next_stand cs (table c) (left c) (actions c) f i w;
      }

  -- what is live was started, and not yet stopped
  pub fair_live : {cs : List Call} {t : List ℕ} → Fair cs t → (i : ℕ) → alive t i ≡ true
      → (times 5 i a cs ≡ 1) × (times 5 i b cs ≡ 0)
  unfolding one
  fair_live f i e =
      let x = f.once i in
      let y = f.stand i in
      let z : one (alive _ i) ≡ 1 = ap one e in
      (omega arith, omega arith)
