-- The lines of the desk log, document 01: "Per event `E`, number from 1, answer, action count; per action `A`, party, id, tag,
-- size, payload in lower-case hex or `-` .. A refused start prints `S` and its number only." A text is the list of its ASCII
-- codes; one space stands between two words, and a line feed ends a line. Assumes nothing.
use Rattle.std.specs.Prelude.{ℕ, zero, suc, ◌+◌, ◌/◌, ◌%◌, cond, List, [], ◌∷◌, ◌++◌, length, eqb, ltb}
use Rattle.rules.specs.Sheet.{Frame, Outcome}

-- ---- numbers and bytes

-- a number in decimal, in at most w digits: 48 is `0`
unfoldable pub digits : ℕ → ℕ → List ℕ
digits zero x = []
digits (suc w) x = cond (ltb x 10) ((48 + x) ∷ []) (digits w (x / 10) ++ ((48 + x % 10) ∷ []))

-- twenty digits hold every number of eight bytes
unfoldable pub decimal : ℕ → List ℕ
decimal x = digits 20 x

-- 87 + 10 is `a`
unfoldable pub hex_digit : ℕ → ℕ
hex_digit d = cond (ltb d 10) (48 + d) (87 + d)

unfoldable pub hex : List ℕ → List ℕ
hex [] = []
hex (x ∷ l) = hex_digit (x / 16) ∷ hex_digit (x % 16) ∷ hex l

-- ---- words, each behind its space; 45 is `-`

unfoldable pub number : ℕ → List ℕ
number x = 32 ∷ decimal x

unfoldable pub payload : List ℕ → List ℕ
payload x = 32 ∷ cond (eqb (length x) 0) (45 ∷ []) (hex x)

-- ---- lines: 69 is `E`, 65 `A`, 83 `S`

unfoldable pub event_line : ℕ → ℕ → ℕ → List ℕ
event_line n answer actions = 69 ∷ number n ++ (number answer ++ (number actions ++ (10 ∷ [])))

unfoldable pub action_line : Frame → List ℕ
action_line a =
    65 ∷ number a.party ++ (number a.id ++ (number a.tag
    ++ (number (length a.payload) ++ (payload a.payload ++ (10 ∷ [])))))

unfoldable pub start_line : ℕ → List ℕ
start_line n = 83 ∷ number n ++ (10 ∷ [])

unfoldable pub action_lines : List Frame → List ℕ
action_lines [] = []
action_lines (a ∷ l) = action_line a ++ action_lines l

-- what is said of event n
unfoldable pub lines : ℕ → Outcome → List ℕ
lines n x = event_line n x.number (length x.actions) ++ action_lines x.actions
