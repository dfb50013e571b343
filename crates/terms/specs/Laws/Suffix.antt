-- What a suffix under a book is: a name of 3 to 64 bytes with a dot, that the host is under and that is all of its own suffix;
-- and that the question does not see case. Assumes nothing.
use Rattle.std.specs.Prelude.{◌≡◌, refl, Bool, true, false, cond, List, ℕ, ◌-◌, length, drop}
use Rattle.std.proofs.Common.{◌∙◌, arith}
use Rattle.terms.specs.Base.{within}
use Rattle.terms.specs.Rule.Name.{folded, is_name}
use Rattle.terms.specs.Rule.Book.{sound_book}
use Rattle.terms.specs.Rule.Suffix.{public_of, with_label, Answer, no_part, suffix_by, suffix_of}
use Rattle.terms.specs.Laws.Answer.{Way, unsound, refused7, given, suffix_way, suffix_sound}
use Rattle.terms.specs.Laws.Public.{SuffixBy, by_given, folded_answer, by_folded}
use Rattle.terms.specs.Laws.Matched.{book_public}

abbrev pub Suffix : List ℕ → List ℕ → List ℕ → Type 0
Suffix h b part = SuffixBy (λ x. suffix_of x b) h part

suffix_given : (h b : List ℕ) → sound_book b ≡ true → is_name h ≡ true → within 1 64 (with_label h (public_of b h)) ≡ true
    → Suffix h b (drop (length h - with_label h (public_of b h)) h)
suffix_given h b s n i =
    let w = by_given (public_of b) (book_public b) h n i in
    record {
      host_name = w.host_name;
      name = w.name;
      above = w.above;
      dotted = w.dotted;
      size = w.size;
      own = suffix_sound (drop (length h - with_label h (public_of b h)) h) b s ∙ w.own;
    }

-- the question answered 0 gives a name of 3 to 64 bytes with a dot, that the host is under and that is all of its own suffix
pub suffix_facts : (h b : List ℕ) → (suffix_of h b).why ≡ 0 → Suffix h b (suffix_of h b).part
suffix_facts h b e = go (suffix_way h b) e
  where
    go : {a : Answer} → Way h b a → a.why ≡ 0 → Suffix h b a.part
    go (unsound s) k = absurd (omega arith)
    go (refused7 s) k = absurd (omega arith)
    go (given s n i) k = suffix_given h b s n i

-- a folded host has the folded suffix, from the same byte on, and the same number
pub suffix_folded : (h b : List ℕ) → suffix_of (folded h) b ≡ folded_answer (suffix_of h b)
unfolding suffix_of folded_answer folded
suffix_folded h b = rw (by_folded (public_of b) (book_public b) h) (go (sound_book b) (suffix_by (public_of b) h))
  where
    go : (s : Bool) (a : Answer) → cond s (folded_answer a) (no_part 6) ≡ folded_answer (cond s a (no_part 6))
    go true a = refl
    go false a = refl
