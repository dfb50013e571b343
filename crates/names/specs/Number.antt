-- Document 01, "at a refusal to 6 or 7": the number of each reason why a host has no suffix. Assumes nothing.
use Rattle.std.specs.Prelude.{ℕ}
use Rattle.names.specs.declared.NoSuffix.{NoSuffix}
use Rattle.names.specs.declared.NoSuffix.TheVariants.{UnsoundBook, Unfit}

abbrev pub number_of : NoSuffix → ℕ
number_of UnsoundBook = 6
number_of Unfit = 7
