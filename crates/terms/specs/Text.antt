-- The bytes of a text that has no character above 127, so that an example reads as the document prints it.
-- Open, as Base is. Assumes nothing.
use Rattle.std.specs.Prelude.{ℕ, List}
use Prim.Native.Char.{code}
use Prim.Native.String.{String, [], ◌∷◌}
use mathlib.Core.List as L

unfoldable pub bytes : String → List ℕ
bytes [] = L.[]
bytes (c ∷ s) = L.◌∷◌ (code c) (bytes s)
