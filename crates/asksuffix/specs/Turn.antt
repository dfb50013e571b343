-- A turn of the program. `held` is what is unread of the stream. Where that begins with a whole host, the turn answers it, and
-- the line lies at the front of the room; else it reads, and what came stands behind what is held; or, where the end was seen,
-- it stops. Which bytes a read brings no contract can say. Assumes nothing.
use Rattle.std.specs.Prelude.{ℕ, ◌+◌, ◌≤◌, ◌<◌, true, false, ◌≡◌, List, length, drop}
use Rattle.rules.specs.Sheet.{over}
use Rattle.reader.specs.Held.{Sound, held, Filled}
use Rattle.asksuffix.specs.Rule.Hosts.{most_bytes, host_bytes, host_whole, first_host}
use Rattle.asksuffix.specs.Rule.Answers.{most_text, answer_line}
use Rattle.reader.specs.declared.place.Place.{Place}

-- ---- what is asked

-- memory for every turn: the buffer holds any host, and the room takes any line
pub record AskBuffers (buf o : List ℕ) : Type 0 where
  pub holds : most_bytes ≤ length buf
  pub roomy : most_text ≤ length o

-- one more host can be counted
abbrev pub Countable : Place → Type 0
Countable p = p.number < 18446744073709551615

-- a whole host is at the front of s, and where it ends is a place
pub record Answerable (s o : List ℕ) (p : Place) : Type 0 where
  pub whole : host_whole s ≡ true
  pub inside : p.place + length s < 18446744073709551616
  pub roomy : most_text ≤ length o
  pub counted : Countable p

-- ---- what is left

-- past the host at the front of s, its line in the room
unfoldable pub past : List ℕ → List ℕ → Place → Place
past b s p =
    record {
      place = p.place + host_bytes s;
      have = p.have;
      number = p.number + 1;
      filled = length (answer_line b (first_host s));
      ended = p.ended;
      done = false;
    }

-- where the last host was answered before
unfoldable pub last : Place → Place
last p =
    record { place = p.place; have = p.have; number = p.number; filled = 0; ended = p.ended; done = true }

-- the host at the front of s was answered
pub record Gave (s b o : List ℕ) (p : Place) (o' : List ℕ) (p' : Place) : Type 0 where
  pub text : o' ≡ over o 0 (answer_line b (first_host s))
  pub moved : p' ≡ past b s p

pub record HostAnswered (buf b o : List ℕ) (p : Place) (buf' o' : List ℕ) (p' : Place) : Type 0 where
  pub whole : host_whole (held buf p) ≡ true
  pub same : buf' ≡ buf
  pub gave : Gave (held buf p) b o p o' p'
  pub sound : Sound p' (length buf)
  pub rest : held buf' p' ≡ drop (host_bytes (held buf p)) (held buf p)

pub record Stopped (buf o : List ℕ) (p : Place) (buf' o' : List ℕ) (p' : Place) : Type 0 where
  pub cut : host_whole (held buf p) ≡ false
  pub off : p.ended ≡ true
  pub same : buf' ≡ buf
  pub room : o' ≡ o
  pub moved : p' ≡ last p

-- there was room for what came
pub record Read (buf o : List ℕ) (p : Place) (buf' o' : List ℕ) (p' : Place) : Type 0 where
  pub cut : host_whole (held buf p) ≡ false
  pub on : p.ended ≡ false
  pub short : length (held buf p) < most_bytes
  pub room : o' ≡ o
  pub filled : Filled buf p buf' p'

pub data Turn (buf b o : List ℕ) (p : Place) (buf' o' : List ℕ) (p' : Place) : Type 0 where
  answered : HostAnswered buf b o p buf' o' p' → Turn buf b o p buf' o' p'
  stopped : Stopped buf o p buf' o' p' → Turn buf b o p buf' o' p'
  read : Read buf o p buf' o' p' → Turn buf b o p buf' o' p'
