-- A read behind what is unread, from what the move of the rest and the read say of the buffer. Assumes nothing.
use Rattle.std.specs.Prelude.{ℕ, zero, suc, ◌+◌, ◌-◌, ◌≤◌, false, ◌≡◌, refl, List, length, take, drop, eqb}
use Rattle.std.proofs.Common.{sym, ap, ap₂, ◌∙◌, arith, add-zero, length-drop, length-take-le, take-take, eq-eqb, ne_eqb}
use Rattle.std.proofs.Math.Dec.{eqb-suc-zero}
use Rattle.reader.specs.Held.{Sound, held, Filled}
use Rattle.reader.specs.declared.place.Place.{Place}

-- how much is held
pub length_held : (buf : List ℕ) (p : Place) → Sound p (length buf) → length (held buf p) ≡ p.have - p.place
unfolding held
length_held buf p w =
    let a = w.ahead in
    let i = w.inside in
    length-take-le (p.have - p.place) (drop p.place buf) (omega (arith, length-drop p.place buf))

-- as many as before, and so none more
none_more : (n got : ℕ) → eqb got 0 ≡ eqb (n + got) n
none_more n zero = sym (eq-eqb (n + 0) n (add-zero n))
none_more n (suc k) = eqb-suc-zero k ∙ sym (ne_eqb (n + suc k) n (λ e. omega arith))

pub filled_is : (buf buf₁ buf₂ : List ℕ) (p : Place) (got : ℕ) → Sound p (length buf)
    → take (p.have - p.place) buf₁ ≡ take (p.have - p.place) (drop p.place buf) → length buf₁ ≡ length buf
    → p.have - p.place + got ≤ length buf₁ → take (p.have - p.place) buf₂ ≡ take (p.have - p.place) buf₁
    → length buf₂ ≡ length buf₁
    → Filled buf p buf₂
    (record {
      place = 0;
      have = p.have - p.place + got;
      number = p.number;
      filled = 0;
      ended = eqb got 0;
      done = false;
    })
unfolding held
filled_is buf buf₁ buf₂ p got s moved l₁ room kept l₂ =
    let n = p.have - p.place in
    let was = length_held buf p s in
    let all : n + got - 0 ≡ n + got = omega arith in
    let now : length (take (n + got - 0) buf₂) ≡ n + got =
    ap (λ (k : ℕ). length (take k buf₂)) all ∙ length-take-le (n + got) buf₂ (omega arith) in
    record {
      sound = record { ahead = omega arith; inside = omega arith };
      kept =
          ap₂ (λ (k m : ℕ). take k (take m buf₂)) was all ∙ take-take n (n + got) buf₂ (omega arith) ∙ kept ∙ moved;
      ended= = none_more n got ∙ sym (ap₂ eqb now was);
      number= = refl;
      filled= = refl;
      done= = refl;
    }
