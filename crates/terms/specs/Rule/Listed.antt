-- Listed names, document 01, "Order book": their order, and which lists of them are sound. Assumes nothing.
use Rattle.std.specs.Prelude.{ℕ, Bool, true, false, ◌&&◌, ◌||◌, List, [], ◌∷◌, length, ltb, eqb}
use Rattle.terms.specs.Base.{within, every, rising}
use Rattle.terms.specs.Rule.Name.{is_name, is_folded}

-- "in byte order (a name before its continuations)"
unfoldable pub before : List ℕ → List ℕ → Bool
before [] [] = false
before [] (y ∷ t) = true
before (x ∷ s) [] = false
before (x ∷ s) (y ∷ t) = ltb x y || eqb x y && before s t

-- "folded name of 1 to 62"
unfoldable pub is_listed : List ℕ → Bool
is_listed n = within 1 62 (length n) && is_name n && is_folded n

-- "names strictly rising in byte order"
unfoldable pub sound_names : List (List ℕ) → Bool
sound_names ns = every is_listed ns && rising before ns
