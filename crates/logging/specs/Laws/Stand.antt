-- A run on its way, and one turn more: events that are ready are given, or, where none is, bytes are read for which there is room.
-- Assumes nothing.
use Rattle.std.specs.Prelude.{ℕ, suc, ◌+◌, ◌≤◌, Bool, true, false, ◌≡◌, refl, List, [], ◌++◌, length, eqb}
use Rattle.std.proofs.Common.{ap, ap₂, ◌∙◌, subst, append-nil, arith, length-drop}
use Rattle.logs.specs.Log.{joined, chunk}
use Rattle.logs.specs.Inner.{taken, ready, left}
use Rattle.logs.specs.Laws.Chunk.{chunk_empty}
use Rattle.reader.specs.Held.{held, came}
use Rattle.reader.specs.Laws.Comes.{no_more}
use Rattle.reader.specs.Promises.{held_then, may_come}
use Rattle.reader.specs.declared.place.Place.{Place}
use Rattle.logging.specs.Turn.{most_events, LogBuffers, read}
use Rattle.logging.specs.Laws.Turn.{waits}
use Rattle.logging.specs.Laws.Run.{Under, under_first, under_next}
use Rattle.logging.specs.Laws.Gives.{Gives, may_give}

-- it has read the chunks cs, and holds h
pub record Stand (b buf₀ t₀ o₀ : List ℕ) (cs : List (List ℕ)) (h : List ℕ) (ended : Bool) : Type 0 where
  pub x : List ℕ
  pub buf : List ℕ
  pub t : List ℕ
  pub o : List ℕ
  pub p : Place
  pub chunks : List (List ℕ)
  pub under : Under b buf₀ t₀ o₀ chunks x buf t o p
  pub read= : chunks ≡ cs
  pub holds : held buf p ≡ h
  pub seen : p.ended ≡ ended

pub stand_first : {b buf₀ t₀ o₀ : List ℕ} → Stand b buf₀ t₀ o₀ [] [] false
unfolding held
stand_first {b} {buf₀} {t₀} {o₀} =
    record {
      x = _;
      buf = _;
      t = _;
      o = _;
      p = _;
      chunks = _;
      under = under_first b buf₀ t₀ o₀;
      read= = refl;
      holds = refl;
      seen = refl;
    }

-- said otherwise
pub stand_as : {b buf₀ t₀ o₀ : List ℕ} {cs cs' : List (List ℕ)} {h h' : List ℕ} {e e' : Bool} → cs ≡ cs' → h ≡ h' → e ≡ e'
    → Stand b buf₀ t₀ o₀ cs h e → Stand b buf₀ t₀ o₀ cs' h' e'
stand_as {b} {buf₀} {t₀} {o₀} {cs} {h = h} {h' = h'} {e' = e'} i j k s =
    subst (λ (l : List (List ℕ)). Stand b buf₀ t₀ o₀ l h' e') i
    (subst (λ (y : List ℕ). Stand b buf₀ t₀ o₀ cs y e') j (subst (Stand b buf₀ t₀ o₀ cs h) k s))

-- ---- one turn more

module _ {b buf₀ t₀ o₀ : List ℕ} (ample : LogBuffers buf₀ o₀) where
  module _ {cs : List (List ℕ)} {h : List ℕ} {e : Bool} (s : Stand b buf₀ t₀ o₀ cs h e) where
    -- what is ready
    found : {m : ℕ} {last : Bool} → ready most_events e h ≡ record { count = m; last = last }
        → ready most_events s.p.ended (held s.buf s.p) ≡ record { count = m; last = last }
    found r = ap₂ (ready most_events) s.seen s.holds ∙ r

    pub given : {m : ℕ} {last : Bool} → ready most_events e h ≡ record { count = m; last = last } → (m ≡ 0 → last ≡ true)
        → Gives s.buf s.t b s.o s.p m last
    given {m} r some =
        let k = s.under.as_roomy in
        may_give s.buf s.t b s.o s.p m s.under.sound (omega (arith, ample.roomy)) (found r) some

    -- a giving turn reads no chunk
    pub same_chunks : {m : ℕ} {last : Bool} (g : Gives s.buf s.t b s.o s.p m last)
        → s.chunks ++ chunk (came s.buf s.p s.buf g.p') ≡ cs
    same_chunks {m} g =
        let h = held s.buf s.p in
        let less = length-drop (length (joined (taken m h))) h in
        let nothing = no_more s.buf s.p s.buf g.p' (omega (arith, ap length g.rest)) in
        ap (λ (l : List (List ℕ)). s.chunks ++ l) (chunk_empty nothing) ∙ append-nil s.chunks ∙ s.read=

    pub stand_give : (m : ℕ) → ready most_events e h ≡ record { count = suc m; last = false }
        → Stand b buf₀ t₀ o₀ cs (left (suc m) h) e
    stand_give m r =
        let g = given r (λ z. absurd (omega arith)) in
        record {
          x = _;
          buf = _;
          t = _;
          o = _;
          p = g.p';
          chunks = _;
          under = under_next s.under g.turn refl g.as_roomy g.done=;
          read= = same_chunks g;
          holds = g.rest ∙ ap (left (suc m)) s.holds;
          seen = g.ended= ∙ s.seen;
        }

  -- a read of c, where nothing is ready
  pub stand_read : {cs : List (List ℕ)} {h : List ℕ} (c : List ℕ) → Stand b buf₀ t₀ o₀ cs h false
      → ready most_events false h ≡ record { count = 0; last = false } → length h + length c ≤ length buf₀
      → Stand b buf₀ t₀ o₀ (cs ++ chunk c) (h ++ c) (eqb (length c) 0)
  stand_read {cs} {h} c s idle room =
      let u = s.under in
      let long = u.as_long in
      let n = ap length s.holds in
      let r = may_come s.buf s.p c u.sound (omega arith) in
      let f = r.filled in
      let small = (waits false h idle).short in
      let turn = read (found s idle) (omega arith) refl refl f in
      record {
        x = _;
        buf = r.buf';
        t = s.t;
        o = s.o;
        p = r.p';
        chunks = _;
        under = under_next u turn r.as_long refl f.done=;
        read= = ap₂ (λ (l : List (List ℕ)) (y : List ℕ). l ++ chunk y) s.read= r.bytes;
        holds = held_then f ∙ ap₂ (λ (y z : List ℕ). y ++ z) s.holds r.bytes;
        seen = r.seen;
      }
