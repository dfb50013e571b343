-- A run on its way over a stream of bytes, and one turn more: a whole host is answered, or, where none is held, bytes are read for
-- which there is room. Assumes nothing.
use Rattle.std.specs.Prelude.{ℕ, ◌+◌, ◌≤◌, ◌<◌, Bool, false, ◌≡◌, eqb}
use Rattle.std.proofs.Math.Bool.{true}
use Rattle.std.proofs.Math.Path.{refl, ap}
use Rattle.std.proofs.Common.{ap₂, ◌∙◌, subst, arith}
use mathlib.Core.List.{List, [], ◌++◌, append-nil}
use Rattle.std.proofs.Math.ListN.{length, drop, length-drop}
use Rattle.rules.specs.Sheet.{over}
use Rattle.rules.proofs.Laws.Over.{length_over}
use Rattle.logs.specs.Log.{chunk}
use Rattle.logs.specs.Laws.Chunk.{chunk_empty}
use Rattle.reader.specs.Held.{held, came}
use Rattle.reader.specs.Laws.Comes.{no_more}
use Rattle.reader.specs.Promises.{held_then, may_come}
use Rattle.reader.specs.declared.place.Place.{Place}
use Rattle.asksuffix.specs.Rule.Hosts.{most_bytes, host_bytes, host_whole, first_host}
use Rattle.asksuffix.specs.Rule.Answers.{answer_line}
use Rattle.asksuffix.specs.Turn.{AskBuffers, past, HostAnswered, Turn, answered, read}
use Rattle.asksuffix.specs.Laws.Line.{length_line}
use Rattle.asksuffix.specs.Laws.Turn.{host_answered}
use Rattle.asksuffix.specs.Laws.Run.{Under, under_first, under_large, under_next}

-- it has read the chunks cs, and holds h
pub record Stand (b buf₀ o₀ : List ℕ) (cs : List (List ℕ)) (h : List ℕ) (ended : Bool) : Type 0 where
  pub x : List ℕ
  pub buf : List ℕ
  pub o : List ℕ
  pub p : Place
  pub chunks : List (List ℕ)
  pub under : Under b buf₀ o₀ chunks x buf o p
  pub read= : chunks ≡ cs
  pub holds : held buf p ≡ h
  pub seen : p.ended ≡ ended

pub stand_first : {b buf₀ o₀ : List ℕ} → Stand b buf₀ o₀ [] [] false
unfolding held
stand_first {b} {buf₀} {o₀} =
    record {
      x = _;
      buf = _;
      o = _;
      p = _;
      chunks = _;
      under = under_first b buf₀ o₀;
      read= = refl;
      holds = refl;
      seen = refl;
    }

-- said otherwise
pub stand_as : {b buf₀ o₀ : List ℕ} {cs cs' : List (List ℕ)} {h h' : List ℕ} {e e' : Bool} → cs ≡ cs' → h ≡ h' → e ≡ e'
    → Stand b buf₀ o₀ cs h e → Stand b buf₀ o₀ cs' h' e'
stand_as {b} {buf₀} {o₀} {cs} {h = h} {h' = h'} {e' = e'} i j k s =
    subst (λ (l : List (List ℕ)). Stand b buf₀ o₀ l h' e') i
    (subst (λ (y : List ℕ). Stand b buf₀ o₀ cs y e') j (subst (Stand b buf₀ o₀ cs h) k s))

-- a turn that holds no more than before reads no chunk
pub same_chunks : (cs : List (List ℕ)) (buf : List ℕ) (p : Place) (buf' : List ℕ) (p' : Place)
    → length (held buf' p') ≤ length (held buf p) → cs ++ chunk (came buf p buf' p') ≡ cs
same_chunks cs buf p buf' p' h =
    ap (λ (l : List (List ℕ)). cs ++ l) (chunk_empty (no_more buf p buf' p' h)) ∙ append-nil cs

-- ---- one turn more

module _ {b buf₀ o₀ : List ℕ} (ample : AskBuffers buf₀ o₀) where
  -- a whole host is answered
  pub stand_answer : {cs : List (List ℕ)} {h : List ℕ} {e : Bool} → Stand b buf₀ o₀ cs h e → host_whole h ≡ true
      → Stand b buf₀ o₀ cs (drop (host_bytes h) h) e
  unfolding held past
  stand_answer s whole =
      let h = held s.buf s.p in
      let line = answer_line b (first_host h) in
      let here : host_whole h ≡ true = ap host_whole s.holds ∙ whole in
      let w : HostAnswered s.buf b s.o s.p s.buf (over s.o 0 line) (past b h s.p) =
      host_answered s.buf b s.o s.p s.under.sound here (record { text = refl; moved = refl }) in
      let roomy = (under_large s.under ample).roomy in
      let long = length_line b (first_host h) in
      let less = length-drop (host_bytes h) h in
      record {
        x = _;
        buf = _;
        o = _;
        p = _;
        chunks = _;
        under = under_next s.under ample (answered w) refl (length_over s.o 0 line (omega arith)) refl;
        read= = same_chunks s.chunks s.buf s.p s.buf _ (omega (arith, ap length w.rest)) ∙ s.read=;
        holds = w.rest ∙ ap (λ (y : List ℕ). drop (host_bytes y) y) s.holds;
        seen = s.seen;
      }

  -- a read of c, where no whole host is held
  pub stand_read : {cs : List (List ℕ)} {h : List ℕ} (c : List ℕ) → Stand b buf₀ o₀ cs h false → host_whole h ≡ false
      → length h < most_bytes → length h + length c ≤ length buf₀ → Stand b buf₀ o₀ (cs ++ chunk c) (h ++ c) (eqb (length c) 0)
  stand_read c s cut short room =
      let u = s.under in
      let long = u.as_long in
      let n = ap length s.holds in
      let r = may_come s.buf s.p c u.sound (omega arith) in
      let f = r.filled in
      let turn : Turn s.buf b s.o s.p r.buf' s.o r.p' =
      read
      (record {
        cut = ap host_whole s.holds ∙ cut;
        on = s.seen;
        short = omega arith;
        room = refl;
        filled = f;
      }) in
      record {
        x = _;
        buf = r.buf';
        o = s.o;
        p = r.p';
        chunks = _;
        under = under_next u ample turn r.as_long refl f.done=;
        read= = ap₂ (λ (l : List (List ℕ)) (y : List ℕ). l ++ chunk y) s.read= r.bytes;
        holds = held_then f ∙ ap₂ (λ (y z : List ℕ). y ++ z) s.holds r.bytes;
        seen = r.seen;
      }
