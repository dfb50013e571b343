-- How the code reads a name, in one pass from byte to byte. It is not the rule: that is `is_name` of Rule.Name, and Laws.Walk
-- proves the two equal. Assumes nothing.
use Rattle.std.specs.Prelude.{Option, Some, None, ℕ, ◌+◌, Bool, true, false, not, ◌&&◌, cond, List, [], ◌∷◌, ltb, eqb}
use Rattle.terms.specs.Rule.Name.{dot, hyphen, is_letter, is_digit}
use Rattle.terms.specs.declared.walk.Class.{Class}
use Rattle.terms.specs.declared.walk.Class.TheVariants.{Dot, Hyphen, Digit, Letter, Other}
use Rattle.terms.specs.declared.walk.Label.{Label}

-- what a byte is to a name
unfoldable pub class_of : ℕ → Class
class_of x = cond (eqb x dot) Dot (cond (eqb x hyphen) Hyphen (cond (is_digit x) Digit (cond (is_letter x) Letter Other)))

-- before a label's first byte
unfoldable pub fresh : Label
fresh = record { len = 0; hyphen = false; digits = true }

-- one byte more in the label, of at most 63: whether it is a hyphen, and whether all of the label is digits
unfoldable pub grown : Label → Bool → Bool → Option Label
grown l h d = cond (ltb l.len 63) (Some (record { len = l.len + 1; hyphen = h; digits = d })) None

-- the label may end here: it has a byte, and the last is no hyphen
unfoldable pub is_whole : Label → Bool
is_whole l = ltb 0 l.len && not l.hyphen

-- the label after a byte of a class
unfoldable pub next : Label → Class → Option Label
next l Dot = cond (is_whole l) (Some fresh) None
next l Hyphen = cond (ltb 0 l.len) (grown l true false) None
next l Digit = grown l false l.digits
next l Letter = grown l false false
next l Other = None

unfoldable pub onward : Option Label → ℕ → Option Label
onward (Some l) x = next l (class_of x)
onward None x = None

-- the walk over some bytes
unfoldable pub walk : Option Label → List ℕ → Option Label
walk w [] = w
walk w (x ∷ s) = walk (onward w x) s

-- a name may end here: its last label may, and is not all digits
unfoldable pub may_end : Option Label → Bool
may_end (Some l) = is_whole l && not l.digits
may_end None = false
