-- Names, document 01, "Names", its first two sentences: what a name is, by its labels, and the fold to lower case.
-- Numbers are bytes: 48 to 57 are the digits, 65 to 90 A to Z, 97 to 122 a to z.
-- Assumes nothing.
use Rattle.std.specs.Prelude.{ℕ, ◌+◌, ◌-◌, Bool, not, ◌&&◌, ◌||◌, cond, List, [], ◌∷◌, map, length, get_or, eqb}
use Rattle.terms.specs.Base.{within, every, some, last_of}

-- the dot and the hyphen; each is its number everywhere
abbrev pub dot : ℕ
dot = 46

abbrev pub hyphen : ℕ
hyphen = 45

-- "Letters are folded to lower case": A to Z become a to z, every other byte stays
unfoldable pub lower : ℕ → ℕ
lower x = cond (within 65 90 x) (x + 32) x

-- a name folded
unfoldable pub folded : List ℕ → List ℕ
folded s = map lower s

-- nothing in it is left to fold
unfoldable pub is_folded : List ℕ → Bool
is_folded s = every (λ x. eqb (lower x) x) s

-- "a-z, A-Z"
unfoldable pub is_letter : ℕ → Bool
is_letter x = within 97 122 x || within 65 90 x

-- "0-9"
unfoldable pub is_digit : ℕ → Bool
is_digit x = within 48 57 x

-- what a label is made of: "from a-z, A-Z, 0-9 and hyphen"
unfoldable pub is_label_byte : ℕ → Bool
is_label_byte x = is_letter x || is_digit x || eqb x hyphen

-- how a label begins and ends
unfoldable pub begins : List ℕ → ℕ → Bool
begins l x = eqb (get_or l 0 0) x

unfoldable pub ends : List ℕ → ℕ → Bool
ends l x = eqb (get_or l (length l - 1) 0) x

-- "labels of 1 to 63"; "no label begins or ends with a hyphen"
unfoldable pub is_label : List ℕ → Bool
is_label l = within 1 63 (length l) && every is_label_byte l && not (begins l hyphen) && not (ends l hyphen)

-- a byte before the first of some labels
unfoldable pub onto : ℕ → List (List ℕ) → List (List ℕ)
onto x [] = (x ∷ []) ∷ []
onto x (l ∷ ls) = (x ∷ l) ∷ ls

-- "joined by single dots": what stands between the dots, so two dots together have an empty label between them
unfoldable pub labels : List ℕ → List (List ℕ)
labels [] = [] ∷ []
labels (x ∷ s) = cond (eqb x dot) ([] ∷ labels s) (onto x (labels s))

-- "so an address is no name": its last label is all digits
unfoldable pub is_address : List ℕ → Bool
is_address s = every is_digit (last_of (labels s))

-- "A name is 1 to 253 bytes: labels .., joined by single dots; ..; the last label is not all digits"
unfoldable pub is_name : List ℕ → Bool
is_name s = within 1 253 (length s) && every is_label (labels s) && not (is_address s)

-- it has a dot somewhere
unfoldable pub has_dot : List ℕ → Bool
has_dot s = some (λ x. eqb x dot) s
