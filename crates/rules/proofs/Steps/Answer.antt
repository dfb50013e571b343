-- The packed answer as its sum, and what is read out of it as remainders. Assumes nothing.
use Rattle.std.specs.Prelude.{ℕ, ◌+◌, ◌*◌, ◌/◌, ◌%◌, ◌≡◌, refl, Result, Ok, Err}
use Rattle.std.proofs.Common.{sym}
use Rattle.rules.specs.Rule.Refusal.{number_of}
use Rattle.rules.specs.Rule.Step.{packed, number_in, actions_in, bytes_in}
use Rattle.rules.specs.Held.{number_given, actions_given, written_given}
use Rattle.rules.specs.declared.verdict.Done.{Done}
use Rattle.rules.specs.declared.verdict.Refusal.{Refusal}

pub packed_is : (n actions written : ℕ) → n + 256 * actions + 65536 * written ≡ packed n actions written
unfolding packed
packed_is n actions written = refl

module _ {g : Result Done Refusal} {r : ℕ} where
  pub packed_done : (d : Done) → g ≡ Ok d → r ≡ packed 0 d.actions d.written
      → r ≡ packed (number_given g) (actions_given g) (written_given g)
  packed_done d e p = rw e p

  pub packed_refused : {m : ℕ} (why : Refusal) → g ≡ Err why → m ≡ number_of why → r ≡ packed m 0 0
      → r ≡ packed (number_given g) (actions_given g) (written_given g)
  packed_refused why e a p = rw (e, sym a) p

pub number_in_is : (r : ℕ) → number_in r ≡ r % 256
unfolding number_in
number_in_is r = refl

pub actions_in_is : (r : ℕ) → actions_in r ≡ r / 256 % 256
unfolding actions_in
actions_in_is r = refl

pub bytes_in_is : (r : ℕ) → bytes_in r ≡ r / 65536 % 65536
unfolding bytes_in
bytes_in_is r = refl
