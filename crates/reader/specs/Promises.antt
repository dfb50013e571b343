-- What is promised of a read, whatever it brings. Assumes nothing.
use Rattle.std.specs.Prelude.{ℕ, ◌+◌, ◌≤◌, true, ◌≡◌, List, ◌++◌, length, drop}
use Rattle.std.proofs.Common.{sym, ap, ◌∙◌, append-nil, take-append-drop, drop_of_length-le, arith, eqb-true}
use Rattle.reader.specs.Held.{Sound, held, Filled, came, Comes}
use Rattle.reader.specs.Laws.Comes as comes
use Rattle.reader.specs.declared.place.Place.{Place}

-- What is held after it is what was held, and then what came;
pub held_then : {buf buf' : List ℕ} {p p' : Place} → Filled buf p buf' p' → held buf' p' ≡ held buf p ++ came buf p buf' p'
unfolding came
held_then {buf} {buf'} {p} {p'} f =
    let h = held buf p in
    let h' = held buf' p' in
    sym (take-append-drop (length h) h') ∙ ap (λ (l : List ℕ). l ++ drop (length h) h') f.kept

-- and where the end was seen, nothing came.
pub none_came : {buf buf' : List ℕ} {p p' : Place} → Filled buf p buf' p' → p'.ended ≡ true → held buf' p' ≡ held buf p
unfolding came
none_came {buf} {buf'} {p} {p'} f e =
    let h = held buf p in
    let h' = held buf' p' in
    let n = eqb-true (length h') (length h) (sym f.ended= ∙ e) in
    let short : length h' ≤ length h = omega arith in
    held_then f ∙ ap (λ (l : List ℕ). h ++ l) (drop_of_length-le h' short) ∙ append-nil h

-- Any bytes that the buffer has room for beside what is held may come.
pub may_come : (buf : List ℕ) (p : Place) (c : List ℕ) → Sound p (length buf) → length (held buf p) + length c ≤ length buf
    → Comes buf p c
may_come buf p c s room = comes.may_come buf p c s room
