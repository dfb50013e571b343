-- Turn by turn a run reads its stream as a reader does. Assumes nothing.
use Rattle.std.specs.Prelude.{ℕ, ◌<◌, Bool, true, false, ◌≡◌, refl, List, [], ◌∷◌, ◌++◌, length, take}
use Rattle.std.proofs.Common.{true≢false, sym, ap, ◌∙◌, append_assoc, arith, length-append}
use Rattle.std.proofs.lemmas.Bool.{eqb-false}
use Rattle.terms.specs.Laws.Bools.{cases}
use Rattle.logs.specs.Log as log
use Rattle.logs.specs.Log.{chunk, Reads}
use Rattle.logs.specs.Laws.Chunk.{chunk_empty, chunk_some}
use Rattle.reader.specs.Held.{held, Filled, came}
use Rattle.reader.specs.Laws.Comes.{no_more}
use Rattle.reader.specs.Promises.{held_then, none_came}
use Rattle.reader.specs.declared.place.Place.{Place}
use Rattle.logging.specs.Turn.{most_events, Turn, gave, read}
use Rattle.logging.specs.Turns.{LogTurns, none, more, LogRun}
use Rattle.logging.specs.Laws.Turn.{waits}
use Rattle.logging.specs.Laws.Given.{known, went_none}

-- a reader, said otherwise
same : {b h h' : List ℕ} {e e' : Bool} {n n' : ℕ} {t t' : List ℕ} {cs cs' : List (List ℕ)} {x x' : List ℕ} → h' ≡ h → e' ≡ e
    → n' ≡ n → t' ≡ t → cs' ≡ cs → x' ≡ x → Reads b h' e' n' t' cs' x' → Reads b h e n t cs x
same i j k l c y r = rw (← i, ← j, ← k, ← l, ← c, ← y) r

-- what a turn's read brought
no_chunk : {c : List ℕ} (ds : List (List ℕ)) → c ≡ [] → chunk c ++ ds ≡ ds
no_chunk ds e = ap (λ (l : List (List ℕ)). l ++ ds) (chunk_empty e)

one_chunk : {buf buf' : List ℕ} {p p' : Place} (ds : List (List ℕ)) → Filled buf p buf' p' → p'.ended ≡ false
    → chunk (came buf p buf' p') ++ ds ≡ came buf p buf' p' ∷ ds
one_chunk {buf} {buf'} {p} {p'} ds f d =
    let h = held buf p in
    let h' = held buf' p' in
    let c = came buf p buf' p' in
    let n = eqb-false (length h') (length h) (sym f.ended= ∙ d) in
    let some : 0 < length c = omega (arith, n, ap length (held_then f), length-append h c) in
    ap (λ (l : List (List ℕ)). l ++ ds) (chunk_some c some)

-- a turn, and then a reader
module _ {buf t b o : List ℕ} {p : Place} {buf' t' o' : List ℕ} {p' : Place} where
  turn_then : {ds : List (List ℕ)} {y : List ℕ} → Turn buf t b o p buf' t' o' p' → p'.done ≡ false
      → (p'.ended ≡ true → ds ≡ []) → Reads b (held buf' p') p'.ended p'.number t' ds y
      → Reads b (held buf p) p.ended p.number t (chunk (came buf p buf' p') ++ ds) (take p'.filled o' ++ y)
  turn_then {ds} {y} (gave m w) d off r =
      same refl refl refl refl (sym (no_chunk ds (went_none w))) (ap (λ (z : List ℕ). z ++ y) (sym w.text))
      (log.gives most_events m (known w.was d) (same w.rest w.ended= w.number= w.table refl refl r))
  turn_then {ds} {y} (read idle short same-table same-room f) d off r =
      let on = (waits p.ended (held buf p) idle).on in
      let text = ap (λ (k : ℕ). take k o' ++ y) (sym f.filled=) in
      let c = came buf p buf' p' in
      cases p'.ended
      (λ e.
      let all = off e in
      let still = none_came f e in
      let nothing = no_more buf p buf' p' (omega (arith, ap length still)) in
      same refl (sym on) refl refl (sym all ∙ sym (no_chunk ds nothing)) text
      (log.ends (same still e f.number= same-table all refl r)))
      (λ e.
      same refl (sym on) refl refl (sym (one_chunk ds f e)) text
      (log.comes c (same (held_then f) e f.number= same-table refl refl r)))

  -- the last
  turn_last : (unread : List (List ℕ)) → Turn buf t b o p buf' t' o' p' → p'.done ≡ true
      → Reads b (held buf p) p.ended p.number t (chunk (came buf p buf' p') ++ unread) (take p'.filled o')
  turn_last unread (gave m w) d =
      same refl refl refl refl (sym (no_chunk unread (went_none w))) (sym w.text)
      (log.stops most_events m (known w.was d))
  turn_last unread (read idle short same-table same-room f) d = absurd (true≢false (sym d ∙ f.done=))

  -- what comes after the end is nothing, before a turn as after it
  turn_off : {ds : List (List ℕ)} → Turn buf t b o p buf' t' o' p' → (p'.ended ≡ true → ds ≡ []) → p.ended ≡ true
      → chunk (came buf p buf' p') ++ ds ≡ []
  turn_off {ds} (gave m w) off e = no_chunk ds (went_none w) ∙ off (w.ended= ∙ e)
  turn_off (read idle short same-table same-room f) off e =
      absurd (true≢false (sym e ∙ (waits p.ended (held buf p) idle).on))

turns_then : {b buf t o : List ℕ} {cs : List (List ℕ)} {x buf' t' o' : List ℕ} {p' : Place} {ds : List (List ℕ)} {y : List ℕ}
    → LogTurns b buf t o cs x buf' t' o' p' → p'.done ≡ false → (p'.ended ≡ true → ds ≡ [])
    → Reads b (held buf' p') p'.ended p'.number t' ds y → Reads b [] false 0 t (cs ++ ds) (x ++ y)
unfolding held
turns_then none d off r = r
turns_then {ds = ds} {y = y} (more {cs = cs} {x = x} {o₂ = o₂} {p₂ = p₂} q on w) d off r =
    same refl refl refl refl (sym (append_assoc cs _ ds)) (sym (append_assoc x (take p₂.filled o₂) y))
    (turns_then q on (turn_off w off) (turn_then w d off r))

pub turns_read : {b buf t o : List ℕ} {cs : List (List ℕ)} {x t' : List ℕ} → LogRun b buf t o cs x t' → Reads b [] false 0 t cs x
turns_read r = same refl refl refl refl (sym r.all) refl (go r.turns r.done r.unread r.seen)
  where
    go : {b buf t o : List ℕ} {cs : List (List ℕ)} {x buf' t' o' : List ℕ} {p' : Place} → LogTurns b buf t o cs x buf' t' o' p'
        → p'.done ≡ true → (ds : List (List ℕ)) → (p'.ended ≡ true → ds ≡ []) → Reads b [] false 0 t (cs ++ ds) x
    go none d ds off = absurd (true≢false (sym d))
    go (more {cs = cs} q on w) d ds off =
        same refl refl refl refl (sym (append_assoc cs _ ds)) refl
        (turns_then q on (turn_off w off) (turn_last ds w d))
