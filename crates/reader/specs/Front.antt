-- The front of a list, by how long it is, and how much of a room was read into. Assumes nothing.
use Rattle.std.specs.Prelude.{ℕ, ◌≤◌, ◌≡◌, List, length, take, Ok, Err, Result}
use Rattle.reader.specs.declared.front.Broken.{Broken}

-- so many are there, and the front has just as many; the second follows from the first
abbrev pub IsPrefixLen : ℕ → List ℕ → Type 0
IsPrefixLen n xs = (n ≤ length xs) × (n ≡ length (take n xs))

-- how many bytes came, also where a read failed
abbrev pub bytes_come : Result ℕ Broken → ℕ
bytes_come (Ok n) = n
bytes_come (Err e) = e.have
