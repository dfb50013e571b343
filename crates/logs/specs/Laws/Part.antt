-- What stands from a place of a list on, as a part of a slice is lent. Assumes nothing.
use Rattle.std.specs.Prelude.{ℕ, ◌-◌, ◌≡◌, List, length, take, drop}
use Rattle.std.proofs.Common.{arith, length-drop, take_all}

abbrev pub from : List ℕ → ℕ → List ℕ
from s at = take (length s - at) (drop at s)

pub from_is : (s : List ℕ) (at : ℕ) → from s at ≡ drop at s
from_is s at = take_all (length s - at) (drop at s) (omega (arith, length-drop at s))
