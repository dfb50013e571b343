-- Laws of tests: conjunctions taken apart, ranges, two tests that agree. Assumes nothing.
use Rattle.std.specs.Prelude.{◌≡◌, refl, Bool, true, false, ◌&&◌, ◌||◌, ◌⊎◌, ℕ, ◌≤◌, ◌<◌, leb}
use Rattle.std.proofs.Common.{sym, inl, inr, leb-true, le-leb}
use Rattle.std.proofs.lemmas.Bool.{false≢true, lt-leb}
use Rattle.terms.specs.Base.{within, Range}

pub and_left : (a b : Bool) → a && b ≡ true → a ≡ true
and_left true b e = refl
and_left false b e = e

pub and_right : (a b : Bool) → a && b ≡ true → b ≡ true
and_right true b e = e
and_right false b e = absurd (false≢true e)

pub and_both : (a b : Bool) → a ≡ true → b ≡ true → a && b ≡ true
and_both a b p q = rw (p, q)

pub or_case : (a b : Bool) → a || b ≡ true → (a ≡ true) ⊎ (b ≡ true)
or_case true b e = inl refl
or_case false b e = inr e

pub or_right : (a b : Bool) → b ≡ true → a || b ≡ true
or_right true b e = refl
or_right false b e = e

pub or_fails : (a b : Bool) → a || b ≡ false → (a ≡ false) × (b ≡ false)
or_fails true b e = absurd (false≢true (sym e))
or_fails false b e = (refl, e)

-- a test that cannot hold fails
pub fails : (a : Bool) → (a ≡ true → ⊥) → a ≡ false
fails true h = absurd (h refl)
fails false h = refl

-- two tests that hold together are one
pub agree : (a b : Bool) → (a ≡ true → b ≡ true) → (b ≡ true → a ≡ true) → a ≡ b
agree true b f g = sym (f refl)
agree false true f g = g refl
agree false false f g = refl

-- a test by its two cases
pub cases : {P : Type 0} (a : Bool) → (a ≡ true → P) → (a ≡ false → P) → P
cases true f g = f refl
cases false f g = g refl

pub within_in : (lo hi x : ℕ) → lo ≤ x → x ≤ hi → within lo hi x ≡ true
within_in lo hi x h k = simp (le-leb lo x h, le-leb x hi k)

pub within_low : (lo hi x : ℕ) → x < lo → within lo hi x ≡ false
within_low lo hi x h = simp (lt-leb lo x h)

pub within_high : (lo hi x : ℕ) → hi < x → within lo hi x ≡ false
within_high lo hi x h = go (leb lo x)
  where
    go : (b : Bool) → b && leb x hi ≡ false
    go true = lt-leb x hi h
    go false = refl

pub within_at : (lo hi x : ℕ) → within lo hi x ≡ true → Range lo hi x
within_at lo hi x e =
    record {
      low = leb-true lo x (and_left (leb lo x) (leb x hi) e);
      high = leb-true x hi (and_right (leb lo x) (leb x hi) e);
    }
