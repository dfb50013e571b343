-- Numbers of any width at any offset: what is read after a write, once over the offset and the width. Assumes nothing.
use Rattle.std.specs.Prelude.{◌≡◌, refl, List, ◌≢◌, ℕ, zero, suc, ◌+◌, ◌-◌, ◌*◌, ◌/◌, ◌%◌, ◌^◌, ◌≤◌, ◌<◌, length, get_or, set, drop, take, [], ◌∷◌, ◌++◌}
use Rattle.std.specs.Int.{w64, bytes_high_first, to_be_bytes}
use Rattle.std.proofs.Common.{ap, ap₂, ◌∙◌, sym, pow-suc, div-lt_iff_lt-mul, add-one, add-zero, zero-add, zero-mul, mul_comm, arith, lit<, append_assoc, drop-cons, length-append, length-drop, length-take-le, take-append-drop, length-set, get_or-set_same, get_or-set_other, subst, add-suc, mul-one}
use Rattle.std.proofs.lemmas.List.{set_at, take_all}
use Rattle.std.proofs.Math.Nat.{div-div-eq-div-mul, pow-le-pow_right}
use borrow.Rule.Slice.PartMut.{put_mid}
use Rattle.terms.specs.Rule.Num.{num, put}

-- ---- by the last byte

pub num_zero : (t : List ℕ) (at : ℕ) → num t at 0 ≡ 0
unfolding num
num_zero t at = refl

pub num_suc : (t : List ℕ) (at w : ℕ) → num t at (suc w) ≡ num t at w * 256 + get_or t (at + w) 0
unfolding num
num_suc t at w = refl

-- ---- read after write

-- none of the w bytes from a is one of the v bytes from b
abbrev pub Apart : ℕ → ℕ → ℕ → ℕ → Type 0
Apart a w b v = (i j : ℕ) → i < w → j < v → a + i ≢ b + j

pub length_put : (t : List ℕ) (at w x : ℕ) → length (put t at w x) ≡ length t
unfolding put
length_put t at zero x = refl
length_put t at (suc w) x = simp length-set (length_put t at w (x / 256))

-- a byte outside is as it was
byte_put : (t : List ℕ) (at w x j : ℕ) → ((i : ℕ) → i < w → j ≢ at + i) → get_or (put t at w x) j 0 ≡ get_or t j 0
unfolding put
byte_put t at zero x j h = refl
byte_put t at (suc w) x j h =
    get_or-set_other (put t at w (x / 256)) (at + w) j (x % 256) 0 (h w (omega arith))
    ∙ byte_put t at w (x / 256) j (λ i l. h i (omega arith))

-- a number is read byte by byte
pub num_ext : (t u : List ℕ) (at w : ℕ) → ((i : ℕ) → i < w → get_or t (at + i) 0 ≡ get_or u (at + i) 0) → num t at w ≡ num u at w
unfolding num
num_ext t u at zero h = refl
num_ext t u at (suc w) h = ap₂ (λ (a b : ℕ). a * 256 + b) (num_ext t u at w (λ i l. h i (omega arith))) (h w (omega arith))

-- read after write, elsewhere
pub num_other : (t : List ℕ) (at w x at' w' : ℕ) → Apart at' w' at w → num (put t at w x) at' w' ≡ num t at' w'
num_other t at w x at' w' h = num_ext (put t at w x) t at' w' (λ i l. byte_put t at w x (at' + i) (λ j m. h i j l m))

-- read after write, in the same place
pub num_same : (t : List ℕ) (at w x : ℕ) → at + w ≤ length t → x < 256 ^ w → num (put t at w x) at w ≡ x
unfolding num put
num_same t at zero x r h = omega arith
num_same t at (suc w) x r h =
    let u = put t at w (x / 256) in
    let q : x / 256 < 256 ^ w = (div-lt_iff_lt-mul {k = 256} {x = x} {y = 256 ^ w} (omega arith)).1 (rw pow-suc at h) in
    let e : num (set u (at + w) (x % 256)) at w ≡ x / 256
    = num_ext (set u (at + w) (x % 256)) u at w (λ i l. get_or-set_other u (at + w) (at + i) (x % 256) 0 (λ y. omega arith))
    ∙ num_same t at w (x / 256) (omega arith) q in
    let d : get_or (set u (at + w) (x % 256)) (at + w) 0 ≡ x % 256
    = get_or-set_same u (at + w) (x % 256) 0 (rw length_put (omega arith)) in
    omega (arith, e, d)

-- bytes that are bytes make a number that fits
pub num_lt : (t : List ℕ) (at w : ℕ) → ((i : ℕ) → get_or t i 0 < 256) → num t at w < 256 ^ w
unfolding num
num_lt t at zero h = omega arith
num_lt t at (suc w) h = let a = num_lt t at w h in let b = h (at + w) in rw pow-suc (omega arith)

-- a number of few enough bytes, and the byte behind it, is one of a byte more, and fits
pub num_more : (t : List ℕ) (at w : ℕ) → num t at (w + 1) ≡ num t at w * 256 + get_or t (at + w) 0
num_more t at w = rw add-one (num_suc t at w)

pub num_fits : (t : List ℕ) (at w : ℕ) → ((i : ℕ) → get_or t i 0 < 256) → w < 8 → num t at w * 256 + get_or t (at + w) 0 < 2 ^ 64
num_fits t at w h l =
    let a = num_lt t at (suc w) h in
    let b : 256 ^ suc w ≤ 256 ^ 8 = pow-le-pow_right (lit< tt) {i = suc w} {j = 8} l in
    omega (arith, num_suc t at w)

-- two numbers that adjoin are one, read and written
pub num_add : (t : List ℕ) (at v w : ℕ) → num t at (v + w) ≡ num t at v * 256 ^ w + num t (at + v) w
unfolding num
num_add t at v zero = simp (add-zero, mul-one)
num_add t at v (suc w) =
    let e = num_add t at v w in
    let a : at + (v + w) ≡ at + v + w = omega arith in
    rw (add-suc, e, a) (simp (pow-suc) (omega arith))

pub put_add : (t : List ℕ) (at v w x : ℕ) → put t at (v + w) x ≡ put (put t at v (x / 256 ^ w)) (at + v) w x
unfolding put
put_add t at v zero x = rw (add-zero) (ap (λ (y : ℕ). put t at v y) (omega arith))
put_add t at v (suc w) x =
    let d : x / 256 ^ suc w ≡ x / 256 / 256 ^ w
    = ap (λ (y : ℕ). x / y) (pow-suc 256 w ∙ mul_comm (256 ^ w) 256) ∙ sym (div-div-eq-div-mul x 256 (256 ^ w)) in
    let a : at + (v + w) ≡ at + v + w = omega arith in
    subst (λ y. put t at (v + suc w) x ≡ put (put t at v y) (at + v) (suc w) x) (sym d)
    (rw add-suc (ap₂ (λ (l : List ℕ) (p : ℕ). set l p (x % 256)) (put_add t at v w (x / 256)) a))

-- ---- the widths in use

pub num1 : (t : List ℕ) (at : ℕ) → num t at 1 ≡ get_or t at 0
unfolding num
num1 t at = simp (add-zero, zero-mul, zero-add)

pub num2 : (t : List ℕ) (at : ℕ) → num t at 2 ≡ get_or t at 0 * 256 + get_or t (at + 1) 0
unfolding num
num2 t at = simp (add-zero, zero-mul, zero-add)

pub num4 : (t : List ℕ) (at : ℕ) → num t at 4 ≡ num t at 2 * 65536 + num t (at + 2) 2
num4 t at = num_add t at 2 2

pub put1 : (t : List ℕ) (at x : ℕ) → x < 256 → put t at 1 x ≡ set t at x
unfolding put
put1 t at x h = ap₂ (λ (p y : ℕ). set t p y) (add-zero at) (omega arith)

pub put2 : (t : List ℕ) (at x : ℕ) → x < 65536 → put t at 2 x ≡ set (set t at (x / 256)) (at + 1) (x % 256)
unfolding put
put2 t at x h = ap₂ (λ (p y : ℕ). set (set t p y) (at + 1) (x % 256)) (add-zero at) (omega arith)

-- of a number only its last bytes are written
put2_low : (t : List ℕ) (at x : ℕ) → put t at 2 (x % 65536) ≡ put t at 2 x
unfolding put
put2_low t at x =
    let a : x % 65536 / 256 % 256 ≡ x / 256 % 256 = omega arith in
    let b : x % 65536 % 256 ≡ x % 256 = omega arith in
    rw (a, b)

pub put4 : (t : List ℕ) (at x : ℕ) → put t at 4 x ≡ put (put t at 2 (x / 65536)) (at + 2) 2 (x % 65536)
put4 t at x = put_add t at 2 2 x ∙ sym (put2_low (put t at 2 (x / 65536)) (at + 2) x)

-- ---- written by std's `to_be_bytes`

-- a quotient by a byte more
quotient : (x w : ℕ) → x / 256 ^ suc w ≡ x / 256 / 256 ^ w
quotient x w = ap (λ (y : ℕ). x / y) (pow-suc 256 w ∙ mul_comm (256 ^ w) 256) ∙ sym (div-div-eq-div-mul x 256 (256 ^ w))

-- the low bytes of a number, the highest first, are those of its quotient, and then the last
high_last : (w x : ℕ) → bytes_high_first (suc w) x ≡ bytes_high_first w (x / 256) ++ x % 256 ∷ []
high_last zero x = refl
high_last (suc zero) x = refl
high_last (suc (suc w)) x = ap₂ (λ (y : ℕ) (l : List ℕ). y % 256 ∷ l) (quotient x (suc w)) (high_last (suc w) x)

length_high : (w x : ℕ) → length (bytes_high_first w x) ≡ w
length_high zero x = refl
length_high (suc w) x = ap (λ (n : ℕ). suc n) (length_high w x)

drop_high : (k w x : ℕ) → drop k (bytes_high_first (k + w) x) ≡ bytes_high_first w x
drop_high zero w x = ap (λ (n : ℕ). bytes_high_first n x) (zero-add w)
drop_high (suc k) w x =
    let e : suc k + w ≡ suc (k + w) = omega arith in
    rw e (drop_high k w x)

-- one byte more of a list written
set_mid : (t ys : List ℕ) (at w v : ℕ) → length ys ≡ w → at + w < length t
    → set (put_mid at w t ys) (at + w) v ≡ put_mid at (suc w) t (ys ++ v ∷ [])
set_mid t ys at w v l r =
    let n : w < length (drop at t) = omega (arith, length-drop at t) in
    let m : length (take at t ++ ys) ≡ at + w = omega (arith, length-append (take at t) ys, length-take-le at t (omega arith)) in
    rw (drop-cons (drop at t) w 0 n, ← append_assoc (take at t) ys (get_or (drop at t) w 0 ∷ drop (suc w) (drop at t)))
    (set_at (take at t ++ ys) (get_or (drop at t) w 0) (drop (suc w) (drop at t)) v (at + w) m
    ∙ simp append_assoc)

put_high : (t : List ℕ) (at w x : ℕ) → at + w ≤ length t → put t at w x ≡ put_mid at w t (bytes_high_first w x)
unfolding put
put_high t at zero x r = sym (take-append-drop at t)
put_high t at (suc w) x r =
    ap (λ (l : List ℕ). set l (at + w) (x % 256)) (put_high t at w (x / 256) (omega arith))
    ∙ set_mid t (bytes_high_first w (x / 256)) at w (x % 256) (length_high w (x / 256)) (omega arith)
    ∙ ap (λ (l : List ℕ). put_mid at (suc w) t l) (sym (high_last w x))

pub put_be : (t : List ℕ) (at n x : ℕ) → at + n ≤ length t → n ≤ 8
    → put_mid at (at + n - at) t (take (8 - (8 - n)) (drop (8 - n) (to_be_bytes w64 x))) ≡ put t at n x
put_be t at n x r l =
    let m : at + n - at ≡ n = omega arith in
    let k : 8 - (8 - n) ≡ n = omega arith in
    let e : 8 - n + n ≡ 8 = omega arith in
    let d : drop (8 - n) (to_be_bytes w64 x) ≡ bytes_high_first n x
    = ap (λ (j : ℕ). drop (8 - n) (bytes_high_first j x)) (sym e) ∙ drop_high (8 - n) n x in
    let a : take n (bytes_high_first n x) ≡ bytes_high_first n x = take_all n (bytes_high_first n x) (omega (arith, length_high n x)) in
    ap₂ (λ (i : ℕ) (l : List ℕ). put_mid at i t l) m (ap₂ (λ (i : ℕ) (l : List ℕ). take i l) k d ∙ a)
    ∙ sym (put_high t at n x r)
