-- What a word has to be for a piece, and the bytes that a piece stands for. Assumes nothing.
use Rattle.std.specs.Prelude.{◌≡◌, ◌≢◌, ℕ, ◌%◌, Some, List, [], ◌∷◌, ◌++◌, replicate}
use Rattle.std.specs.Int.{to_be_bytes, w16, w32}
use Rattle.runs.specs.Decimal.{decimal}
use Rattle.runs.specs.Words.{part}
use Rattle.runs.specs.declared.pieces.Piece.{Piece}
use Rattle.runs.specs.declared.pieces.Piece.TheVariants.{Text, Byte, Two, Four, Repeated}

abbrev pub bytes_of : Piece → List ℕ
bytes_of (Text text) = text.now
bytes_of (Byte x) = x ∷ []
bytes_of (Two x) = to_be_bytes w16 x
bytes_of (Four x) = to_be_bytes w32 x
bytes_of (Repeated times letter) = replicate times letter

-- 34 is a quote, 42 an asterisk and 58 a colon
abbrev pub Says : List ℕ → Piece → Type 0
Says w (Text text) = w ≡ 34 ∷ text.now ++ 34 ∷ []
Says w (Byte x) = (n : ℕ) × (decimal w ≡ Some n) × (x ≡ n % 256)
Says w (Two x) = (n : ℕ) × (decimal (part 58 w 0) ≡ Some 2) × (decimal (part 58 w 1) ≡ Some n) × (x ≡ n % 65536)
Says w (Four x) = (n : ℕ) × (decimal (part 58 w 0) ≡ Some 4) × (decimal (part 58 w 1) ≡ Some n) × (x ≡ n % 4294967296)
Says w (Repeated times letter) = (decimal (part 42 w 0) ≡ Some times) × (part 42 w 1 ≡ letter ∷ [])
