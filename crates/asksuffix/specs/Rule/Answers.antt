-- The answer to a host: "a line with the number (0, 6 or 7) and the part given back in lower-case hex, or `-` for none". The
-- question is document 01's, "Names"; the words are the desk log's. Assumes nothing.
use Rattle.std.specs.Prelude.{ℕ, List, [], ◌∷◌, ◌++◌}
use Rattle.terms.specs.Names.{suffix_of}
use Rattle.logs.specs.Log.{decimal, payload}
use Rattle.asksuffix.specs.Rule.Hosts.{hosts}

-- no line is longer
abbrev pub most_text : ℕ
most_text = 131

-- of book b and host h; 10 is the line feed
unfoldable pub answer_line : List ℕ → List ℕ → List ℕ
answer_line b h = decimal (suffix_of h b).why ++ (payload (suffix_of h b).part ++ (10 ∷ []))

unfoldable pub answer_lines : List ℕ → List (List ℕ) → List ℕ
answer_lines b [] = []
answer_lines b (h ∷ l) = answer_line b h ++ answer_lines b l

-- all that the program says, of a book and a stream
unfoldable pub answers : List ℕ → List ℕ → List ℕ
answers b s = answer_lines b (hosts s)
