-- The words that soundness and the rules are said in, document 01, "Table": live, a seat's owner, a row's name, the tabs that point
-- at a row. Said of a view. Assumes nothing.
use Rattle.std.specs.Prelude.{ℕ, Bool, not, ◌&&◌, List, eqb, take}
use Rattle.terms.specs.Names.{owner_of}
use Rattle.fields.specs.Base.{sum, count, series}
use Rattle.fields.specs.Rule.View.{View, tenant, options, serial, row, number, size, letter}

-- "serial (2; 0 = free)", "number (4; 0 = free)"
unfoldable pub live : View → ℕ → ℕ → Bool
live v s k = not (eqb (v (serial s k)) 0)

unfoldable pub used : View → ℕ → Bool
used v p = not (eqb (v (number p)) 0)

-- the owner of a seat, by its own record
unfoldable pub owner_at : View → ℕ → ℕ
owner_at v s = owner_of s (v (tenant s)) (v (options s))

-- "name in 64 bytes": as many of them as the name length says
unfoldable pub name_of : View → ℕ → List ℕ
name_of v p = take (v (size p)) (series 64 (λ j. v (letter p j)))

-- "live tabs pointing at it"
unfoldable pub points : View → ℕ → ℕ → ℕ → Bool
points v p s k = live v s k && eqb (v (row s k)) p

unfoldable pub pointing : View → ℕ → ℕ
pointing v p = sum 8 (λ s. count 10 (λ k. points v p s k))
