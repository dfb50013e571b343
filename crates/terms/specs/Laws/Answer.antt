-- Laws of an answer to the suffix question: its ways, its numbers, and that the contract leaves one outcome.
-- Assumes nothing.
use Rattle.std.specs.Prelude.{◌≡◌, refl, Bool, true, false, not, cond, ◌⊎◌, List, [], ℕ, drop, eqb}
use Rattle.std.proofs.Common.{sym, ◌∙◌, inl, inr, arith}
use Rattle.terms.specs.Base.{within}
use Rattle.terms.specs.Rule.Name.{is_name}
use Rattle.terms.specs.Rule.Book.{sound_book}
use Rattle.terms.specs.Rule.Suffix.{public_of, with_label, Answer, no_part, last_part, last_bytes, suffix_by, suffix_of, Answered}

-- ---- the ways of an answer

pub suffix_unsound : (h b : List ℕ) → sound_book b ≡ false → suffix_of h b ≡ no_part 6
unfolding suffix_of
suffix_unsound h b e = rw e

pub suffix_sound : (h b : List ℕ) → sound_book b ≡ true → suffix_of h b ≡ suffix_by (public_of b) h
unfolding suffix_of
suffix_sound h b e = rw e

pub suffix_malformed : (h b : List ℕ) → sound_book b ≡ true → is_name h ≡ false → suffix_of h b ≡ no_part 7
unfolding suffix_of suffix_by
suffix_malformed h b e f = rw (e, f)

pub by_named : (public : List ℕ → ℕ) (h : List ℕ) → is_name h ≡ true → suffix_by public h ≡ last_bytes h (with_label h (public h))
unfolding suffix_by
by_named public h f = rw f

pub suffix_named : (h b : List ℕ) → sound_book b ≡ true → is_name h ≡ true
    → suffix_of h b ≡ last_bytes h (with_label h (public_of b h))
suffix_named h b e f = suffix_sound h b e ∙ by_named (public_of b) h f

pub last_bytes_in : (h : List ℕ) (r : ℕ) → within 1 64 r ≡ true → last_bytes h r ≡ last_part h r
unfolding last_bytes
last_bytes_in h r e = rw e

pub last_bytes_out : (h : List ℕ) (r : ℕ) → within 1 64 r ≡ false → last_bytes h r ≡ no_part 7
unfolding last_bytes
last_bytes_out h r e = rw e

-- an answer is a refusal 6 of an unsound book, a refusal 7, or a suffix of a named host under a sound book
pub data Way (h b : List ℕ) : Answer → Type 0 where
  unsound : sound_book b ≡ false → Way h b (no_part 6)
  refused7 : sound_book b ≡ true → Way h b (no_part 7)
  given : sound_book b ≡ true → is_name h ≡ true → within 1 64 (with_label h (public_of b h)) ≡ true
      → Way h b (last_part h (with_label h (public_of b h)))

pub suffix_way : (h b : List ℕ) → Way h b (suffix_of h b)
unfolding suffix_of suffix_by last_bytes
suffix_way h b = go (sound_book b) (is_name h) (within 1 64 r) refl refl refl
  where
    r : ℕ
    r = with_label h (public_of b h)

    go : (s n w : Bool) → sound_book b ≡ s → is_name h ≡ n → within 1 64 r ≡ w
        → Way h b (cond s (cond n (cond w (last_part h r) (no_part 7)) (no_part 7)) (no_part 6))
    go false n w es en ew = unsound es
    go true false w es en ew = refused7 es
    go true true false es en ew = refused7 es
    go true true true es en ew = given es en ew

-- ---- its numbers

pub suffix_number : (h b : List ℕ) → ((suffix_of h b).why ≡ 0) ⊎ (((suffix_of h b).why ≡ 6) ⊎ ((suffix_of h b).why ≡ 7))
suffix_number h b = go (suffix_way h b)
  where
    go : {a : Answer} → Way h b a → (a.why ≡ 0) ⊎ ((a.why ≡ 6) ⊎ (a.why ≡ 7))
    go (unsound s) = inr (inl refl)
    go (refused7 s) = inr (inr refl)
    go (given s n i) = inl refl

pub suffix_empty : (h b : List ℕ) → ((suffix_of h b).why ≡ 0 → ⊥) → (suffix_of h b).part ≡ []
suffix_empty h b = go (suffix_way h b)
  where
    go : {a : Answer} → Way h b a → (a.why ≡ 0 → ⊥) → a.part ≡ []
    go (unsound s) k = refl
    go (refused7 s) k = refl
    go (given s n i) k = absurd (k refl)

-- a part is what stands in the host from there on
pub suffix_from : (h b : List ℕ) → (suffix_of h b).why ≡ 0 → (suffix_of h b).part ≡ drop (suffix_of h b).from h
suffix_from h b = go (suffix_way h b)
  where
    go : {a : Answer} → Way h b a → a.why ≡ 0 → a.part ≡ drop a.from h
    go (unsound s) k = absurd (omega arith)
    go (refused7 s) k = absurd (omega arith)
    go (given s n i) k = refl

-- 6 is said of an unsound book and of nothing else
pub suffix_six : (h b : List ℕ) → eqb (suffix_of h b).why 6 ≡ not (sound_book b)
suffix_six h b = go (suffix_way h b)
  where
    go : {a : Answer} → Way h b a → eqb a.why 6 ≡ not (sound_book b)
    go (unsound s) = rw s
    go (refused7 s) = rw s
    go (given s n i) = rw s

-- ---- any two outcomes that the contract allows are equal

pub record Equal (to to' : ℕ × ℕ) (part part' : List ℕ) (why why' : ℕ) : Type 0 where
  pub number : why ≡ why'
  pub bytes : part ≡ part'
  pub block : to.0 ≡ to'.0
  pub byte : to.1 ≡ to'.1

pub suffix_determined : (h b : List ℕ) (host to to' : ℕ × ℕ) (part part' : List ℕ) (why why' : ℕ)
    → Answered (suffix_of h b) host to part why → Answered (suffix_of h b) host to' part' why' → Equal to to' part part' why why'
suffix_determined h b host to to' part part' why why' a c =
    record {
      number = a.says ∙ sym c.says;
      bytes = a.gives ∙ sym c.gives;
      block = a.block ∙ sym c.block;
      byte = a.byte ∙ sym c.byte;
    }
