-- A number in decimal can be read back, and does not begin with a zero. Assumes nothing.
use Rattle.std.specs.Prelude.{ℕ, zero, suc, ◌+◌, ◌*◌, ◌-◌, ◌/◌, ◌%◌, ◌^◌, ◌≤◌, ◌<◌, ◌≡◌, refl, Bool, true, false, cond, ◌≢◌, List, [], ◌∷◌, ◌++◌, length, get_or, ltb}
use Rattle.std.proofs.Common.{sym, ◌∙◌, arith, pow-suc, length-append, ltb-false}
use Rattle.std.proofs.Math.ListN.{get_or-append}
use Rattle.logs.specs.Rule.Line.{digits, decimal}

-- ---- read back

-- the number that digits say after those that say v
unfoldable pub value_after : ℕ → List ℕ → ℕ
value_after v [] = v
value_after v (d ∷ l) = value_after (10 * v + (d - 48)) l

abbrev pub value : List ℕ → ℕ
value l = value_after 0 l

value_append : (v : ℕ) (l m : List ℕ) → value_after v (l ++ m) ≡ value_after (value_after v l) m
unfolding value_after
value_append v [] m = refl
value_append v (d ∷ l) m = value_append (10 * v + (d - 48)) l m

value_digit : (v d : ℕ) → value_after v ((48 + d) ∷ []) ≡ 10 * v + d
unfolding value_after
value_digit v d = omega arith

-- one digit, or those of a tenth and one more
said : (b : Bool) (x : ℕ) (l : List ℕ) → ltb x 10 ≡ b → value l ≡ x / 10
    → value (cond b ((48 + x) ∷ []) (l ++ ((48 + x % 10) ∷ []))) ≡ x
said true x l e h = value_digit 0 x ∙ omega arith
said false x l e h = value_append 0 l ((48 + x % 10) ∷ []) ∙ value_digit (value l) (x % 10) ∙ omega arith

value_digits : (w x : ℕ) → x < 10 ^ w → value (digits w x) ≡ x
unfolding digits value_after
value_digits zero x h = omega arith
value_digits (suc w) x h =
    let p = pow-suc 10 w in said (ltb x 10) x (digits w (x / 10)) refl (value_digits w (x / 10) (omega arith))

pub value_decimal : (x : ℕ) → x < 100000000000000000000 → value (decimal x) ≡ x
unfolding decimal
value_decimal x h = value_digits 20 x h

-- ---- no zero in front

abbrev Leads : List ℕ → Type 0
Leads l = (0 < length l) × (get_or l 0 0 ≢ 48)

led : (b : Bool) (x : ℕ) (l : List ℕ) → ltb x 10 ≡ b → 1 ≤ x → (10 ≤ x → Leads l)
    → Leads (cond b ((48 + x) ∷ []) (l ++ ((48 + x % 10) ∷ [])))
led true x l e h k = (omega arith, λ q. omega arith)
led false x l e h k =
    let a = k (ltb-false x 10 e) in
    let m = (48 + x % 10) ∷ [] in
    (simp length-append (omega arith), λ q. a.1 (sym (get_or-append l m 0 0 a.0) ∙ q))

leads : (w x : ℕ) → 1 ≤ x → x < 10 ^ w → Leads (digits w x)
unfolding digits
leads zero x h k = absurd (omega arith)
leads (suc w) x h k =
    let p = pow-suc 10 w in led (ltb x 10) x (digits w (x / 10)) refl h (λ t. leads w (x / 10) (omega arith) (omega arith))

pub decimal_leads : (x : ℕ) → 1 ≤ x → x < 100000000000000000000 → get_or (decimal x) 0 0 ≢ 48
unfolding decimal
decimal_leads x h k = (leads 20 x h k).1
