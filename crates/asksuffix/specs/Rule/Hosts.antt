-- The hosts of a stream: "each as a length of 2 bytes (big-endian) and that many bytes .. A length cut short ends it; a host
-- cut short ends it too." Assumes nothing.
use Rattle.std.specs.Prelude.{ℕ, zero, suc, ◌+◌, ◌/◌, ◌%◌, Bool, ◌&&◌, cond, false, List, [], ◌∷◌, ◌++◌, length, take, drop, leb, ◌≡◌}
use Rattle.terms.specs.Names.{num}

-- no host takes more bytes, its length among them
abbrev pub most_bytes : ℕ
most_bytes = 65537

-- how many bytes the first host takes, by the length that the stream begins with
unfoldable pub host_bytes : List ℕ → ℕ
host_bytes s = 2 + num s 0 2

-- the stream begins with a length and all of the host that it announces
unfoldable pub host_whole : List ℕ → Bool
host_whole s = leb 2 (length s) && leb (host_bytes s) (length s)

unfoldable pub first_host : List ℕ → List ℕ
first_host s = take (num s 0 2) (drop 2 s)

-- the hosts of a stream, n at most
unfoldable pub hosts_in : ℕ → List ℕ → List (List ℕ)
hosts_in zero s = []
hosts_in (suc n) s = cond (host_whole s) (first_host s ∷ hosts_in n (drop (host_bytes s) s)) []

-- a host takes two bytes at least, so these are all
unfoldable pub hosts : List ℕ → List (List ℕ)
hosts s = hosts_in (length s) s

-- ---- the other way round

-- a host as it stands in a stream; it has 65,535 bytes at most, else the first of these were no byte
unfoldable pub laid_host : List ℕ → List ℕ
laid_host h = length h / 256 ∷ length h % 256 ∷ h

unfoldable pub laid_hosts : List (List ℕ) → List ℕ
laid_hosts [] = []
laid_hosts (h ∷ l) = laid_host h ++ laid_hosts l

-- l, laid end to end, is the front of s, and no whole host is left
pub record HostsLaid (s : List ℕ) (l : List (List ℕ)) : Type 0 where
  pub rest : List ℕ
  pub same : laid_hosts l ++ rest ≡ s
  pub cut : host_whole rest ≡ false
