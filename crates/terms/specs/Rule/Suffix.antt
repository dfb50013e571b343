-- The suffix of a host under a book, document 01, "Names", its last paragraph. Assumes nothing.
use Rattle.std.specs.Prelude.{ℕ, ◌+◌, ◌-◌, max, ◌&&◌, cond, List, [], ◌∷◌, ◌≡◌, length, take, drop, ltb}
use Rattle.terms.specs.Base.{within, last_of}
use Rattle.terms.specs.Rule.Name.{labels, is_name}
use Rattle.terms.specs.Rule.Under.{under}
use Rattle.terms.specs.Rule.Book.{listed, sound_book}

-- "the longest listed name that the host is under": how many bytes it has, 0 where nothing listed fits
unfoldable pub matched : List ℕ → List (List ℕ) → ℕ
matched h [] = 0
matched h (n ∷ ns) = max (cond (under h n) (length n) 0) (matched h ns)

-- how many of a host's last bytes are public under a book: those of that name
unfoldable pub public_of : List ℕ → List ℕ → ℕ
public_of b h = matched h (listed b)

-- "add one label": how many bytes of the host the last m and the label before them take with the dot between;
-- 0 where m is 0 or no label is left
unfoldable pub with_label : List ℕ → ℕ → ℕ
with_label h m = cond (ltb 0 m && ltb m (length h)) (length (last_of (labels (take (length h - (m + 1)) h))) + 1 + m) 0

-- an answer: the number, the part of the host, and from which of the host's bytes on it stands
pub record Answer : Type 0 where
  pub why : ℕ
  pub part : List ℕ
  pub from : ℕ

-- "at a refusal to 6 or 7 with an empty part given": the one at the host's beginning
abbrev pub no_part : ℕ → Answer
no_part n = record { why = n; part = []; from = 0 }

-- "that part of the host's own bytes, case kept": its last r bytes; and all of them
abbrev pub last_part : List ℕ → ℕ → Answer
last_part h r = record { why = 0; part = drop (length h - r) h; from = length h - r }

abbrev pub all_of : List ℕ → Answer
all_of h = record { why = 0; part = h; from = 0 }

-- "Refused 7 if .. nothing listed fits, no label is left, or the result exceeds 64 bytes"
unfoldable pub last_bytes : List ℕ → ℕ → Answer
last_bytes h r = cond (within 1 64 r) (last_part h r) (no_part 7)

-- "take the longest ..; add one label. Refused 7 if the host is malformed, ..", whichever part of a host is public
unfoldable pub suffix_by : (List ℕ → ℕ) → List ℕ → Answer
suffix_by public h = cond (is_name h) (last_bytes h (with_label h (public h))) (no_part 7)

-- "an unsound book is refused 6 first"
unfoldable pub suffix_of : List ℕ → List ℕ → Answer
suffix_of h b = cond (sound_book b) (suffix_by (public_of b) h) (no_part 6)

-- what a call leaves that gives an answer, of a host that is lent at a pointer (a block of memory, and a byte of it): the
-- number lent beside it, the bytes of the part that it gives, and where that points: into the host's own bytes
pub record Answered (a : Answer) (host given : ℕ × ℕ) (part : List ℕ) (why : ℕ) : Type 0 where
  pub says : why ≡ a.why
  pub gives : part ≡ a.part
  pub block : given.0 ≡ host.0
  pub byte : given.1 ≡ host.1 + a.from
