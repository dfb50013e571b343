-- The answers to a stream, host by host, and what a turn says of them. Assumes nothing.
use Rattle.std.specs.Prelude.{ℕ, ◌≡◌, true, false, List, [], ◌++◌, length, take, drop}
use Rattle.std.proofs.Common.{sym, ap, ap₂, ◌∙◌, true≢false, append-nil, append_assoc, arith, length-drop}
use Rattle.rules.proofs.Laws.Over.{over_front}
use Rattle.logs.specs.Log.{joined}
use Rattle.logs.specs.Laws.Stream.{joined_none}
use Rattle.logs.specs.Laws.Chunk.{joined_then}
use Rattle.reader.specs.Held.{held, came}
use Rattle.reader.specs.Laws.Comes.{no_more}
use Rattle.reader.specs.Promises.{held_then}
use Rattle.asksuffix.specs.Rule.Hosts.{host_bytes, host_whole, first_host}
use Rattle.asksuffix.specs.Rule.Answers.{answer_line, answer_lines, answers}
use Rattle.asksuffix.specs.Turn.{past, last, HostAnswered, Stopped, Turn, answered, stopped, read}
use Rattle.asksuffix.specs.Turns.{AskTurns, none, more}
use Rattle.asksuffix.specs.Laws.Hosts.{whole_append, first_append, rest_append, hosts_whole, hosts_cut}
use Rattle.reader.specs.declared.place.Place.{Place}

-- ---- the first host's line, and then the others'; no line where none is whole

pub answers_first : (b s z : List ℕ) → host_whole s ≡ true
    → answers b (s ++ z) ≡ answer_line b (first_host s) ++ answers b (drop (host_bytes s) s ++ z)
unfolding answers answer_lines
answers_first b s z h =
    ap (answer_lines b) (hosts_whole (s ++ z) (whole_append s z h))
    ∙ ap₂ (λ (x r : List ℕ). answer_line b x ++ answers b r) (first_append s z h) (rest_append s z h)

pub answers_cut : (b s : List ℕ) → host_whole s ≡ false → answers b s ≡ []
unfolding answers answer_lines
answers_cut b s h = ap (answer_lines b) (hosts_cut s h)

-- ---- a turn

-- the line is all the text of a turn that answers
line_is : {buf b o : List ℕ} {p : Place} {buf' o' : List ℕ} {p' : Place} → HostAnswered buf b o p buf' o' p'
    → take p'.filled o' ≡ answer_line b (first_host (held buf p))
unfolding past
line_is {buf} {b} {o} {p} w =
    ap₂ (λ (n : ℕ) (l : List ℕ). take n l) (ap (λ (q : Place). q.filled) w.gave.moved) w.gave.text
    ∙ over_front o (answer_line b (first_host (held buf p)))

-- one that stops leaves what is held
pub stopped_held : {buf o : List ℕ} {p : Place} {buf' o' : List ℕ} {p' : Place} → Stopped buf o p buf' o' p'
    → held buf' p' ≡ held buf p
unfolding held last
stopped_held w = ap₂ held w.same w.moved

-- what a turn says, and then the answers to what is held after it and to what is still to come, are the answers to what was
-- held before it, to what it read and to what is still to come
pub turn_says : {buf b o : List ℕ} {p : Place} {buf' o' : List ℕ} {p' : Place} → Turn buf b o p buf' o' p' → (z : List ℕ)
    → take p'.filled o' ++ answers b (held buf' p' ++ z) ≡ answers b (held buf p ++ (came buf p buf' p' ++ z))
unfolding last
turn_says {buf} {b} {o} {p} {buf'} {o'} {p'} (answered w) z =
    let s = held buf p in
    let k = host_bytes s in
    let less = length-drop k s in
    let none = no_more buf p buf' p' (omega (arith, ap length w.rest)) in
    ap₂ (λ (x r : List ℕ). x ++ answers b (r ++ z)) (line_is w) w.rest ∙ sym (answers_first b s z w.whole)
    ∙ ap (λ (x : List ℕ). answers b (s ++ (x ++ z))) (sym none)
turn_says {buf} {b} {o} {p} {buf'} {o'} {p'} (stopped w) z =
    let none = no_more buf p buf' p' (omega (arith, ap length (stopped_held w))) in
    ap₂ (λ (n : ℕ) (r : List ℕ). take n o' ++ answers b (r ++ z)) (ap (λ (q : Place). q.filled) w.moved) (stopped_held w)
    ∙ ap (λ (x : List ℕ). answers b (held buf p ++ (x ++ z))) (sym none)
turn_says {buf} {b} {o} {p} {buf'} {o'} {p'} (read w) z =
    let f = w.filled in
    ap₂ (λ (n : ℕ) (r : List ℕ). take n o' ++ answers b (r ++ z)) f.filled= (held_then f)
    ∙ ap (answers b) (append_assoc (held buf p) (came buf p buf' p') z)

-- the last turn leaves no whole host
pub done_cut : {buf b o : List ℕ} {p : Place} {buf' o' : List ℕ} {p' : Place} → Turn buf b o p buf' o' p' → p'.done ≡ true
    → host_whole (held buf' p') ≡ false
unfolding past
done_cut (answered w) d = absurd (true≢false (sym d ∙ ap (λ (q : Place). q.done) w.gave.moved))
done_cut (stopped w) d = ap host_whole (stopped_held w) ∙ w.cut
done_cut (read w) d = absurd (true≢false (sym d ∙ w.filled.done=))

-- ---- turns

pub turns_answers : {b buf o : List ℕ} {cs : List (List ℕ)} {x buf' o' : List ℕ} {p' : Place} → AskTurns b buf o cs x buf' o' p'
    → (z : List ℕ) → x ++ answers b (held buf' p' ++ z) ≡ answers b (joined cs ++ z)
unfolding held
turns_answers {b} none z = ap (λ (y : List ℕ). answers b (y ++ z)) (sym joined_none)
turns_answers {b}
    (more {cs = cs} {x = x} {buf₁ = buf₁} {p₁ = p₁} {buf₂ = buf₂} {o₂ = o₂} {p₂ = p₂} r on w) z =
    let c = came buf₁ p₁ buf₂ p₂ in
    append_assoc x (take p₂.filled o₂) (answers b (held buf₂ p₂ ++ z)) ∙ ap (λ (y : List ℕ). x ++ y) (turn_says w z)
    ∙ turns_answers r (c ++ z) ∙ ap (answers b) (sym (append_assoc (joined cs) c z))
    ∙ ap (λ (y : List ℕ). answers b (y ++ z)) (sym (joined_then cs c))

-- the last leaves no whole host
last_cut : {b buf o : List ℕ} {cs : List (List ℕ)} {x buf' o' : List ℕ} {p' : Place} → AskTurns b buf o cs x buf' o' p'
    → p'.done ≡ true → host_whole (held buf' p') ≡ false
last_cut none d = absurd (true≢false (sym d))
last_cut (more r on w) d = done_cut w d

pub run_answers : {b buf o : List ℕ} {cs : List (List ℕ)} {x buf' o' : List ℕ} {p' : Place} → AskTurns b buf o cs x buf' o' p'
    → p'.done ≡ true → x ≡ answers b (joined cs)
run_answers {b} {cs = cs} {x = x} {buf' = buf'} {p' = p'} r d =
    let h = held buf' p' in
    let nothing = answers_cut b h (last_cut r d) in
    sym (append-nil x) ∙ ap (λ (y : List ℕ). x ++ y) (sym nothing ∙ ap (answers b) (sym (append-nil h))) ∙ turns_answers r []
    ∙ ap (answers b) (append-nil (joined cs))
