-- What is promised of the question as `ask` puts it, which seats and asksuffix call: it has one answer. Assumes nothing.
use Rattle.std.specs.Prelude.{ℕ, ◌≡◌, refl, List, [], Result, Ok, Err, IfOk, IfErr}
use Rattle.std.proofs.Common.{sym, ◌∙◌, arith}
use Rattle.terms.specs.Names.{suffix_of, Answered}
use Rattle.terms.specs.Laws.Answer.{Equal, suffix_determined}
use Rattle.names.specs.Number.{number_of}
use Rattle.names.specs.declared.NoSuffix.{NoSuffix}
use Rattle.names.specs.declared.NoSuffix.TheVariants.{UnsoundBook, Unfit}

-- a part is anything of which it is known where it points and which bytes it has
module _ {Part : Type 0} (at : Part → ℕ × ℕ) (bytes : Part → List ℕ) where
  -- the two clauses of the contract of `ask`
  pub record Asked (h b : List ℕ) (host : ℕ × ℕ) (r : Result Part NoSuffix) : Type 0 where
    pub given : IfOk r (λ part. Answered (suffix_of h b) host (at part) (bytes part) 0)
    pub refused : IfErr r (λ why. Answered (suffix_of h b) host host [] (number_of why))

  pub data SameAnswer : Result Part NoSuffix → Result Part NoSuffix → Type 0 where
    same_part : {x y : Part} → Equal (at x) (at y) (bytes x) (bytes y) 0 0 → SameAnswer (Ok x) (Ok y)
    same_reason : {x y : NoSuffix} → x ≡ y → SameAnswer (Err x) (Err y)

  one_reason : (x y : NoSuffix) → number_of x ≡ number_of y → x ≡ y
  one_reason UnsoundBook UnsoundBook e = refl
  one_reason UnsoundBook Unfit e = absurd (omega (arith, e))
  one_reason Unfit UnsoundBook e = absurd (omega (arith, e))
  one_reason Unfit Unfit e = refl

  no_reason : {P : Type 0} (x : NoSuffix) → 0 ≡ number_of x → P
  no_reason UnsoundBook e = absurd (omega (arith, e))
  no_reason Unfit e = absurd (omega (arith, e))

  -- Any two outcomes that the contract of `ask` allows are equal.
  pub ask_determined : (h b : List ℕ) (host : ℕ × ℕ) (r r' : Result Part NoSuffix) → Asked h b host r → Asked h b host r' → SameAnswer r r'
  ask_determined h b host (Ok x) (Ok y) w v =
      same_part (suffix_determined h b host (at x) (at y) (bytes x) (bytes y) 0 0 w.given v.given)
  ask_determined h b host (Err x) (Err y) w v = same_reason (one_reason x y (w.refused.says ∙ sym v.refused.says))
  ask_determined h b host (Ok x) (Err y) w v = no_reason y (w.given.says ∙ sym v.refused.says)
  ask_determined h b host (Err x) (Ok y) w v = no_reason x (v.given.says ∙ sym w.refused.says)
