-- A mark as a number. Assumes nothing.
use Rattle.std.proofs.Common.{refl, ◌+◌, ◌≡◌}
use denote.Enum.Declared.{tag_of}
use Rattle.fields.specs.Table.{weight}
use Rattle.fields.specs.declared.mark.Mark.{Mark}
use Rattle.fields.specs.declared.mark.Mark.TheVariants.{Cookie, Document}
use Rattle.fields.specs.contracts.mark.Mark.{the_type}
use Rattle.fields.specs.Steps.Mark.{weight_cookie, weight_document}

pub number_is : (m : Mark) → tag_of the_type m + 1 ≡ weight m
number_is Cookie = weight_cookie refl
number_is Document = weight_document refl
