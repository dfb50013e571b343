-- One name under another, document 01, "Names", and the domain match of RFC 6265, section 5.1.3, beside it.
-- Assumes nothing.
use Rattle.std.specs.Prelude.{ℕ, ◌-◌, Bool, ◌&&◌, ◌||◌, List, ◌∷◌, length, take, drop, leb}
use Rattle.terms.specs.Base.{alike}
use Rattle.terms.specs.Rule.Name.{dot, folded, ends, is_name}

-- equal: "Letters are folded to lower case before comparing"
unfoldable pub same : List ℕ → List ℕ → Bool
same s t = alike (folded s) (folded t)

-- what of h the last bytes, as many as t has, leave over
unfoldable pub uncovered : List ℕ → List ℕ → List ℕ
uncovered h t = take (length h - length t) h

-- h ends with t
unfoldable pub ends_with : List ℕ → List ℕ → Bool
ends_with h t = leb (length t) (length h) && same (drop (length h - length t) h) t

-- "h is under t if they are equal or h ends with a dot followed by t"
unfoldable pub under : List ℕ → List ℕ → Bool
under h t = same h t || ends_with h (dot ∷ t)

-- RFC 6265, 5.1.3: the two are identical in lower case; or the domain is a suffix of the string, the last character
-- that it does not cover is a dot, and the string is a host name and no address
unfoldable pub domain_matches : List ℕ → List ℕ → Bool
domain_matches h t = same h t || ends_with h t && ends (uncovered h t) dot && is_name h
