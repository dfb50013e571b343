-- How long words and lines are at most. Assumes nothing.
use Rattle.std.specs.Prelude.{ℕ, ◌+◌, ◌*◌, ◌≤◌, ◌<◌, ◌≡◌, refl, Bool, true, false, cond, ◌≢◌, List, [], ◌∷◌, length, eqb, ◌++◌}
use Rattle.std.proofs.Common.{arith, length-append, ne_eqb}
use Rattle.rules.specs.Sheet.{Frame, frames, Outcome}
use Rattle.rules.specs.Inner.{size}
use Rattle.rules.proofs.Laws.Frame.{length_frames}
use Rattle.logs.specs.Rule.Line.{hex, number, payload, start_line, event_line, action_line, action_lines, lines}
use Rattle.logs.specs.Rule.Written.{numbers}
use Rattle.logs.specs.Laws.Digits.{length_decimal}
use Rattle.logs.specs.Laws.Hex.{length_hex}

pub length_number : (x : ℕ) → length (number x) ≤ 21
unfolding number
length_number x = let h = length_decimal x in omega arith

pub length_three : (x y z : ℕ) → length (number x ++ (number y ++ number z)) ≤ 63
length_three x y z =
    let a = length_number x in
    let b = length_number y in
    let c = length_number z in
    simp length-append (omega arith)

pub length_numbers : (l : List ℕ) → length (numbers l) ≤ 21 * length l
unfolding numbers
length_numbers [] = omega arith
length_numbers (x ∷ l) =
    let a = length_number x in
    let b = length_numbers l in
    simp length-append (omega arith)

either : (b : Bool) (x : List ℕ) → length (cond b (45 ∷ []) (hex x)) ≤ 1 + 2 * length x
either true x = omega arith
either false x = let h = length_hex x in omega arith

pub length_payload : (x : List ℕ) → length (payload x) ≤ 2 + 2 * length x
unfolding payload
length_payload x = let h = either (eqb (length x) 0) x in omega arith

pub payload_none : payload [] ≡ 32 ∷ 45 ∷ []
unfolding payload
payload_none = refl

pub payload_some : (x : List ℕ) → length x ≢ 0 → length (payload x) ≡ 1 + 2 * length x
unfolding payload
payload_some x h = let k = length_hex x in rw (ne_eqb (length x) 0 h) (omega arith)

pub length_start : (n : ℕ) → length (start_line n) ≤ 23
unfolding start_line
length_start n = let a = length_number n in simp length-append (omega arith)

pub start_some : (n : ℕ) → 0 < length (start_line n)
unfolding start_line
start_some n = omega arith

pub length_event : (n answer actions : ℕ) → length (event_line n answer actions) ≤ 65
unfolding event_line
length_event n answer actions =
    let a = length_number n in
    let b = length_number answer in
    let c = length_number actions in
    simp length-append (omega arith)

pub length_action : (a : Frame) → length (action_line a) ≤ 88 + 2 * length a.payload
unfolding action_line
length_action a =
    let p = length_number a.party in
    let i = length_number a.id in
    let t = length_number a.tag in
    let n = length_number (length a.payload) in
    let x = length_payload a.payload in
    simp length-append (omega arith)

by_size : (l : List Frame) → length (action_lines l) ≤ 88 * length l + 2 * size l
unfolding action_lines
by_size [] = omega arith
by_size (a ∷ l) = let h = length_action a in let k = by_size l in simp length-append (omega arith)

pub length_actions : (l : List Frame) → length (action_lines l) ≤ 88 * length l + 2 * length (frames l)
length_actions l = let h = length_frames l in let k = by_size l in omega arith

-- what one event can come to: four actions, and frames that fill the room of 4,106 bytes
pub lines_bound : (n : ℕ) (x : Outcome) → length x.actions ≤ 4 → length (frames x.actions) ≤ 4106
    → length (lines n x) ≤ 8629
unfolding lines
lines_bound n x h k =
    let a = length_event n x.number (length x.actions) in
    let b = length_actions x.actions in
    simp length-append (omega arith)
