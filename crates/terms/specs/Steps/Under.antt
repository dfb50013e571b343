-- The two ways that src/under.rt goes. Assumes nothing.
use Rattle.std.specs.Prelude.{◌≡◌, ◌&&◌, List, ℕ, ◌-◌, ◌<◌, length, get_or, drop, eqb}
use Rattle.std.proofs.Common.{arith}
use Rattle.terms.specs.Rule.Under.{same, under}
use Rattle.terms.specs.Laws.Labels.{dot_unseen}
use Rattle.terms.specs.Laws.Lists.{take_rest}
use Rattle.terms.specs.Laws.Under.{under_flat, under_long}

-- a host that is longer has a dot before its last bytes, and those are equal
pub under_longer : (h t : List ℕ) → length t < length h
    → under h t ≡ eqb (get_or h (length h - length t - 1) 0) 46 && same (drop (length h - length t) h) t
under_longer h t l =
    rw (under_long h t (length h - length t) (omega arith) (omega arith), dot_unseen (get_or h (length h - length t - 1) 0))

pub ruleset under_is = (under_flat, under_longer, take_rest)
