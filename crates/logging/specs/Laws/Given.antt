-- What turns give the kernel: the first events of the stream, whether or not they gave the last. Assumes nothing.
use Rattle.std.specs.Prelude.{ℕ, ◌+◌, Bool, true, false, ◌≡◌, refl, List, [], ◌++◌, length, take}
use Rattle.std.proofs.Common.{true≢false, sym, ap, ap₂, ◌∙◌, append-nil, append_assoc, add-zero, zero-add, arith, length-append, length-drop}
use Rattle.terms.specs.Laws.Bools.{cases}
use Rattle.logs.specs.Log.{events, joined, log_from, table_after}
use Rattle.logs.specs.Inner.{taken}
use Rattle.logs.specs.Laws.Taken.{length_taken, ready_first, ready_all}
use Rattle.logs.specs.Laws.Reads.{log_none, log_append, table_none, table_append}
use Rattle.logs.specs.Laws.Stream.{joined_none}
use Rattle.logs.specs.Laws.Chunk.{joined_then}
use Rattle.logs.specs.declared.frame.Ready.{Ready}
use Rattle.reader.specs.Held.{held, came}
use Rattle.reader.specs.Laws.Comes.{no_more}
use Rattle.reader.specs.Promises.{held_then}
use Rattle.reader.specs.declared.place.Place.{Place}
use Rattle.logging.specs.Turn.{most_events, Went, Turn, gave, read}
use Rattle.logging.specs.Turns.{LogTurns, none, more}
use Rattle.logging.specs.Laws.Turn.{waits}
use Rattle.logging.specs.Streams.{later, LogGiven}

later_on : (buf : List ℕ) (p : Place) (z : List ℕ) → p.done ≡ false → later buf p z ≡ events (held buf p ++ z)
unfolding later
later_on buf p z d = rw d

later_done : (buf : List ℕ) (p : Place) (z : List ℕ) → p.done ≡ true → later buf p z ≡ []
unfolding later
later_done buf p z d = rw d

-- what was ready, where it is known whether it is the last
pub known : {r : Ready} {m : ℕ} {l l' : Bool} → r ≡ record { count = m; last = l } → l ≡ l' → r ≡ record { count = m; last = l' }
known {m = m} w d = w ∙ ap (λ (l : Bool). record { count = m; last = l }) d

-- ---- a turn

-- one that gives reads nothing
pub went_none : {buf t b o : List ℕ} {p : Place} {m : ℕ} {buf' t' o' : List ℕ} {p' : Place}
    → Went buf t b o p m buf' t' o' p' → came buf p buf' p' ≡ []
went_none {buf} {p = p} {m = m} {buf' = buf'} {p' = p'} w =
    no_more buf p buf' p'
    (omega (arith, ap length w.rest, length-drop (length (joined (taken m (held buf p)))) (held buf p)))

-- of what is held, what came and what is still to come
record TurnGiven (b buf t : List ℕ) (p : Place) (x buf' t' : List ℕ) (p' : Place) : Type 0 where
  given : List (List ℕ)
  text : x ≡ log_from p.number t b given
  table : t' ≡ table_after t b given
  number= : p'.number ≡ p.number + length given
  first : (z : List ℕ) → (p'.ended ≡ true → z ≡ [])
      → events (held buf p ++ (came buf p buf' p' ++ z)) ≡ given ++ later buf' p' z
  seen : (z : List ℕ) → (p'.ended ≡ true → z ≡ []) → p.ended ≡ true → came buf p buf' p' ++ z ≡ []

turn_gives : {buf t b o : List ℕ} {p : Place} {buf' t' o' : List ℕ} {p' : Place} → Turn buf t b o p buf' t' o' p'
    → TurnGiven b buf t p (take p'.filled o') buf' t' p'
turn_gives {buf} {t} {b} {o} {p} {buf'} {t'} {o'} {p'} (gave m w) =
    let h = held buf p in
    let c = went_none w in
    record {
      given = taken m h;
      text = w.text;
      table = w.table;
      number= = w.number= ∙ ap (λ (k : ℕ). p.number + k) (sym (length_taken m h));
      first =
          λ z off.
          ap (λ (y : List ℕ). events (h ++ (y ++ z))) c
          ∙ cases p'.done
          (λ d.
          ready_all most_events p.ended h z m (known w.was d) (λ e. off (w.ended= ∙ e)) ∙ sym (append-nil (taken m h))
          ∙ ap (λ (l : List (List ℕ)). taken m h ++ l) (sym (later_done buf' p' z d)))
          (λ d.
          ready_first most_events p.ended h z m (known w.was d)
          ∙ ap (λ (y : List ℕ). taken m h ++ events (y ++ z)) (sym w.rest)
          ∙ ap (λ (l : List (List ℕ)). taken m h ++ l) (sym (later_on buf' p' z d)));
      seen = λ z off e. ap₂ (λ (y v : List ℕ). y ++ v) c (off (w.ended= ∙ e));
    }
turn_gives {buf} {t} {b} {o} {p} {buf'} {t'} {o'} {p'} (read idle short same-table same-room f) =
    let c = came buf p buf' p' in
    record {
      given = [];
      text = ap (λ (k : ℕ). take k o') f.filled= ∙ sym (log_none p.number t b);
      table = same-table ∙ sym (table_none t b);
      number= = f.number= ∙ sym (add-zero p.number);
      first =
          λ z off.
          ap events (sym (append_assoc (held buf p) c z)) ∙ ap (λ (y : List ℕ). events (y ++ z)) (sym (held_then f))
          ∙ sym (later_on buf' p' z f.done=);
      seen = λ z off e. absurd (true≢false (sym e ∙ (waits p.ended (held buf p) idle).on));
    }

-- ---- turns

pub turns_give : {b buf t o : List ℕ} {cs : List (List ℕ)} {x buf' t' o' : List ℕ} {p' : Place}
    → LogTurns b buf t o cs x buf' t' o' p' → LogGiven b t cs x buf' t' p'
unfolding held
turns_give {b} {buf} {t} {o} none =
    record {
      given = [];
      text = sym (log_none 0 t b);
      table = sym (table_none t b);
      number= = refl;
      first =
          λ z off.
          ap (λ (y : List ℕ). events (y ++ z)) joined_none ∙ sym (later_on buf _ z refl);
    }
turns_give {b} {buf} {t} {o} (more {cs = cs} {buf₁ = buf₁} {t₁ = t₁} {p₁ = p₁} {buf₂ = buf₂} {p₂ = p₂} r on w) =
    let q = turns_give r in
    let v = turn_gives w in
    let c = came buf₁ p₁ buf₂ p₂ in
    let n : p₁.number ≡ 0 + length q.given = q.number= ∙ sym (zero-add (length q.given)) in
    record {
      given = q.given ++ v.given;
      text =
          ap₂ (λ (y u : List ℕ). y ++ u) q.text
          (v.text ∙ ap₂ (λ (k : ℕ) (u : List ℕ). log_from k u b v.given) n q.table)
          ∙ sym (log_append 0 t b q.given v.given);
      table =
          v.table ∙ ap (λ (u : List ℕ). table_after u b v.given) q.table
          ∙ sym (table_append t b q.given v.given);
      number= = let a = q.number= in omega (arith, v.number=, length-append q.given v.given);
      first =
          λ z off.
          ap (λ (y : List ℕ). events (y ++ z)) (joined_then cs c) ∙ ap events (append_assoc (joined cs) c z)
          ∙ q.first (c ++ z) (v.seen z off)
          ∙ ap (λ (l : List (List ℕ)). q.given ++ l) (later_on buf₁ p₁ (c ++ z) on ∙ v.first z off)
          ∙ sym (append_assoc q.given v.given (later buf₂ p₂ z));
    }

-- their log, and then that of the events that follow
pub given_log : {b t : List ℕ} {cs : List (List ℕ)} {x buf' t' : List ℕ} {p' : Place} → LogGiven b t cs x buf' t' p'
    → (z : List ℕ) → (p'.ended ≡ true → z ≡ [])
    → log_from 0 t b (events (joined cs ++ z)) ≡ x ++ log_from p'.number t' b (later buf' p' z)
given_log {b} {t} {buf' = buf'} {p' = p'} g z off =
    let l = later buf' p' z in
    let n : 0 + length g.given ≡ p'.number = zero-add (length g.given) ∙ sym g.number= in
    ap (log_from 0 t b) (g.first z off) ∙ log_append 0 t b g.given l
    ∙ ap₂ (λ (y w : List ℕ). y ++ w) (sym g.text) (ap₂ (λ (k : ℕ) (u : List ℕ). log_from k u b l) n (sym g.table))

-- where the last was given, they are all
pub given_all : {b t : List ℕ} {cs : List (List ℕ)} {x buf' t' : List ℕ} {p' : Place} (g : LogGiven b t cs x buf' t' p')
    → p'.done ≡ true → (z : List ℕ) → (p'.ended ≡ true → z ≡ []) → events (joined cs ++ z) ≡ g.given
given_all {buf' = buf'} {p' = p'} g d z off =
    g.first z off ∙ ap (λ (l : List (List ℕ)). g.given ++ l) (later_done buf' p' z d) ∙ append-nil g.given
