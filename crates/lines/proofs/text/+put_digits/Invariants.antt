-- It calls itself with one digit less. Assumes nothing.
use Rattle.lines.proofs.text.+put_digits.Given as goal

abbrev pub decreases-put_digits : goal.decreases-put_digits
decreases-put_digits l = l.w
