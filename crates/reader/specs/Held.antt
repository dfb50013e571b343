-- What is held of a stream: the bytes of the buffer that were read and are not yet given. A read puts what came behind them;
-- which bytes come no contract can say. Assumes nothing.
use Rattle.std.specs.Prelude.{ℕ, ◌-◌, ◌≤◌, false, ◌≡◌, List, length, take, drop, eqb}
use Rattle.reader.specs.declared.place.Place.{Place}

-- where a program begins: nothing is read, and nothing given
abbrev pub outset : Place
outset = record { place = 0; have = 0; number = 0; filled = 0; ended = false; done = false }

-- the unread bytes lie in a buffer of n bytes
pub record Sound (p : Place) (n : ℕ) : Type 0 where
  pub ahead : p.place ≤ p.have
  pub inside : p.have ≤ n

unfoldable pub held : List ℕ → Place → List ℕ
held buf p = take (p.have - p.place) (drop p.place buf)

-- a read: what was held is held still, and what came stands behind it; where nothing came, the stream has ended
pub record Filled (buf : List ℕ) (p : Place) (buf' : List ℕ) (p' : Place) : Type 0 where
  pub sound : Sound p' (length buf)
  pub kept : take (length (held buf p)) (held buf' p') ≡ held buf p
  pub ended= : p'.ended ≡ eqb (length (held buf' p')) (length (held buf p))
  pub number= : p'.number ≡ p.number
  pub filled= : p'.filled ≡ 0
  pub done= : p'.done ≡ false

-- what it brought
unfoldable pub came : List ℕ → Place → List ℕ → Place → List ℕ
came buf p buf' p' = drop (length (held buf p)) (held buf' p')

-- a read that brings c
pub record Comes (buf : List ℕ) (p : Place) (c : List ℕ) : Type 0 where
  pub buf' : List ℕ
  pub p' : Place
  pub filled : Filled buf p buf' p'
  pub bytes : came buf p buf' p' ≡ c
  pub seen : p'.ended ≡ eqb (length c) 0
  pub as_long : length buf' ≡ length buf
