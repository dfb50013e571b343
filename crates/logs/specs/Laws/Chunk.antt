-- Laws of what reads brought, chunk by chunk. Assumes nothing.
use Rattle.std.specs.Prelude.{ℕ, ◌<◌, ◌≡◌, refl, List, [], ◌∷◌, ◌++◌, length}
use Rattle.std.proofs.Common.{sym, ap, ◌∙◌, append-nil, append_assoc, arith}
use Rattle.logs.specs.Rule.Stream.{joined}
use Rattle.logs.specs.Rule.Reading.{chunk}

pub chunk_empty : {c : List ℕ} → c ≡ [] → chunk c ≡ []
unfolding chunk
chunk_empty e = rw e

pub chunk_some : (c : List ℕ) → 0 < length c → chunk c ≡ c ∷ []
unfolding chunk
chunk_some [] h = absurd (omega arith)
chunk_some (x ∷ l) h = refl

pub joined_append : (l m : List (List ℕ)) → joined (l ++ m) ≡ joined l ++ joined m
unfolding joined
joined_append [] m = refl
joined_append (x ∷ l) m = ap (λ y. x ++ y) (joined_append l m) ∙ sym (append_assoc x (joined l) (joined m))

joined_chunk : (c : List ℕ) → joined (chunk c) ≡ c
unfolding joined chunk
joined_chunk [] = refl
joined_chunk (x ∷ l) = append-nil (x ∷ l)

-- one read more
pub joined_then : (cs : List (List ℕ)) (c : List ℕ) → joined (cs ++ chunk c) ≡ joined cs ++ c
joined_then cs c = joined_append cs (chunk c) ∙ ap (λ y. joined cs ++ y) (joined_chunk c)
