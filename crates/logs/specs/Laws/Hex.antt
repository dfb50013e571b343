-- Laws of bytes in hex: how long they are, their digits, and one byte more. Assumes nothing.
use Rattle.std.specs.Prelude.{ℕ, ◌+◌, ◌*◌, ◌/◌, ◌%◌, ◌≤◌, ◌<◌, ◌≡◌, refl, List, [], ◌∷◌, ◌++◌, length, get_or, take}
use Rattle.std.proofs.Common.{ap, ap₂, sym, ◌∙◌, arith, add-one, length-take-le, take-suc, take_all, lt-ltb, le-ltb}
use Rattle.logs.specs.Rule.Line.{hex_digit, hex}
use Rattle.rules.specs.Inner.{Wrote}
use Rattle.rules.proofs.Laws.Wrote.{wrote_none, wrote_three, wrote_is}

pub hex_figure : (d : ℕ) → d < 10 → hex_digit d ≡ 48 + d
unfolding hex_digit
hex_figure d h = rw (lt-ltb d 10 h)

pub hex_letter : (d : ℕ) → 10 ≤ d → hex_digit d ≡ 87 + d
unfolding hex_digit
hex_letter d h = rw (le-ltb d 10 h)

pub length_hex : (x : List ℕ) → length (hex x) ≡ 2 * length x
unfolding hex
length_hex [] = refl
length_hex (x ∷ l) = let h = length_hex l in omega arith

pub hex_append : (x y : List ℕ) → hex (x ++ y) ≡ hex x ++ hex y
unfolding hex
hex_append [] y = refl
hex_append (x ∷ l) y = ap (λ m. hex_digit (x / 16) ∷ hex_digit (x % 16) ∷ m) (hex_append l y)

-- the two digits of a byte
pub hex_byte : (v : ℕ) → hex (v ∷ []) ≡ hex_digit (v / 16) ∷ hex_digit (v % 16) ∷ []
unfolding hex
hex_byte v = refl

-- ---- a loop that has written i bytes of x

pub record Hexed (o : List ℕ) (at : ℕ) (x u : List ℕ) (to i : ℕ) : Type 0 where
  pub some : i ≤ length x
  pub same : length u ≡ length o
  pub wrote : Wrote o at (hex (take i x)) u to

pub hexed_none : (o : List ℕ) (at : ℕ) (x : List ℕ) → Hexed o at x o at 0
unfolding hex
hexed_none o at x = record { some = omega arith; same = refl; wrote = wrote_none o at }

-- where the next digit goes
pub hexed_at : {o : List ℕ} {at : ℕ} {x u : List ℕ} {to i : ℕ} → Hexed o at x u to i → to ≡ at + 2 * i
hexed_at {x = x} {i = i} w =
    omega (arith, w.wrote.next, length_hex (take i x), length-take-le i x w.some)

pub hexed_more : {o : List ℕ} {at : ℕ} {x u : List ℕ} {to i : ℕ} {a b : ℕ} {u₁ : List ℕ} {to₁ : ℕ} {u₂ : List ℕ} {to₂ : ℕ}
    → at + 2 * length x ≤ length o → i < length x → Hexed o at x u to i → a ≡ hex_digit (get_or x i 0 / 16)
    → b ≡ hex_digit (get_or x i 0 % 16) → Wrote u to (a ∷ []) u₁ to₁ → length u₁ ≡ length u
    → Wrote u₁ to₁ (b ∷ []) u₂ to₂ → length u₂ ≡ length u₁ → Hexed o at x u₂ to₂ (i + 1)
hexed_more {x = x} {i = i} {a = a} {b = b} h l w p q one same₁ two same₂ =
    let v = get_or x i 0 in
    let digits : hex (v ∷ []) ≡ a ∷ b ∷ [] = hex_byte v ∙ ap₂ (λ c d. c ∷ d ∷ []) (sym p) (sym q) in
    let more : hex (take (i + 1) x) ≡ hex (take i x) ++ (a ∷ b ∷ []) =
    ap hex (ap (λ n. take n x) (add-one i) ∙ take-suc x i 0 l) ∙ hex_append (take i x) (v ∷ [])
    ∙ ap (λ m. hex (take i x) ++ m) digits in
    let e = hexed_at w in
    record {
      some = omega arith;
      same = same₂ ∙ same₁ ∙ w.same;
      wrote = wrote_is (sym more) refl (wrote_three {x = hex (take i x)} {y = a ∷ []} (omega arith) w.wrote one two);
    }

pub hexed_all : {o : List ℕ} {at : ℕ} {x u : List ℕ} {to i : ℕ} → length x ≤ i → Hexed o at x u to i → Wrote o at (hex x) u to
hexed_all {x = x} {i = i} h w = wrote_is (ap hex (take_all i x h)) refl w.wrote
