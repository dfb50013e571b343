-- What holds if nothing stands against a seat, and against a suffix. Assumes nothing.
use Rattle.std.specs.Prelude.{ℕ, ◌≡◌, true, ◌≢◌, List, length}
use Rattle.terms.specs.Names.{is_name, has_dot}
use Rattle.terms.specs.Base.{Range}
use Rattle.fields.specs.Table.{view, tenant, sound_table}

-- a sound table, and a seat of it
pub record Seated (t : List ℕ) (s : ℕ) : Type 0 where
  pub sound : sound_table t ≡ true
  pub seat : Range 1 8 s

-- ".. that is let"
pub record LetSeat (t : List ℕ) (s : ℕ) : Type 0 where
  pub seated : Seated t s
  pub is_let : view t (tenant s) ≢ 0

-- a name that a process can have
pub record Suffixed (s : List ℕ) : Type 0 where
  pub name : is_name s ≡ true
  pub dotted : has_dot s ≡ true
  pub long : Range 3 64 (length s)
