-- What a tab may ask for, document 01, "Rules of a step", its fourth point. What a cookie's domain and what a socket's host
-- must be are two definitions, though they say the same today. Assumes nothing.
use Rattle.std.specs.Prelude.{ℕ, Bool, not, ◌&&◌, ◌||◌, List, length, take, eqb, ltb}
use Rattle.terms.specs.Base.{within, every, alike}
use Rattle.terms.specs.Names.{is_name, under}
use Rattle.terms.specs.Text as Text

-- "Store, retrieve: the domain must be a name under the suffix"
unfoldable pub cookie_domain : List ℕ → List ℕ → Bool
cookie_domain domain suffix = is_name domain && under domain suffix

-- ".. the host is a name under the suffix"
unfoldable pub socket_host : List ℕ → List ℕ → Bool
socket_host host suffix = is_name host && under host suffix

-- "Socket: allowed if the port is not 0 and .."
unfoldable pub socket_allowed : ℕ → List ℕ → List ℕ → Bool
socket_allowed port host suffix = not (eqb port 0) && socket_host host suffix

-- "beginning http:// or https:// with a byte after it"
unfoldable pub goes_on : List ℕ → List ℕ → Bool
goes_on scheme u = ltb (length scheme) (length u) && alike (take (length scheme) u) scheme

unfoldable pub http : List ℕ
http = Text.bytes "http://"

unfoldable pub https : List ℕ
https = Text.bytes "https://"

-- "8 to 2,048 bytes, all 33 to 126, .."
unfoldable pub is_url : List ℕ → Bool
is_url u = within 8 2048 (length u) && every (λ x. within 33 126 x) u && (goes_on http u || goes_on https u)
