-- The outcomes of names/src/lib.rt: what a refusal and a part given leave is what the contract asks. Assumes nothing.
use Rattle.std.specs.Prelude.{◌≡◌, refl, true, false, Some, None, List, [], ℕ, zero, suc, ◌+◌, ◌-◌, ◌≤◌, ◌<◌, take, drop, length}
use Rattle.std.proofs.Common.{sym, ap, subst, ◌∙◌, arith}
use Rattle.terms.specs.Base.{within, if_any}
use Rattle.terms.specs.Rule.Name.{is_name}
use Rattle.terms.specs.Rule.Book.{sound_book}
use Rattle.terms.specs.Rule.Suffix.{public_of, with_label, Answer, no_part, last_part, last_bytes, suffix_of, Answered}
use Rattle.terms.specs.Laws.Bools.{within_in, within_low, within_high}
use Rattle.terms.specs.Laws.Lists.{take_rest}
use Rattle.terms.specs.Laws.Answer.{suffix_unsound, suffix_malformed, suffix_named, last_bytes_in, last_bytes_out}
use Rattle.terms.specs.Steps.Longest.{no_label, label_fits}

-- ---- a count that may be none

none_any : (n : ℕ) → if_any n ≡ None → n ≡ 0
none_any zero e = refl
none_any (suc n) e = cc

record Any (n r : ℕ) : Type 0 where
  is : n ≡ r
  some : 0 < r

some_any : (n r : ℕ) → if_any n ≡ Some r → Any n r
some_any zero r e = cc
some_any (suc n) r e = let q : suc n ≡ r = cc in record { is = q; some = omega arith }

pub taken_fits : (h : List ℕ) (m r : ℕ) → if_any (with_label h m) ≡ Some r → r ≤ length h
taken_fits h m r e = omega (arith, (some_any (with_label h m) r e).is, label_fits h m)

-- ---- the outcomes

-- a host and a book, and where the host is lent
module _ (h b : List ℕ) (host : ℕ × ℕ) where
  -- a call is refused with a number
  abbrev Refused : ℕ → Type 0
  Refused n = Answered (suffix_of h b) host host [] n

  refused : (n : ℕ) → suffix_of h b ≡ no_part n → Refused n
  refused n e =
      subst (λ (a : Answer). Answered a host host [] n) (sym e)
      (record { says = refl; gives = refl; block = refl; byte = omega arith })

  pub refused_unsound : sound_book b ≡ false → Refused 6
  refused_unsound s = refused 6 (suffix_unsound h b s)

  module _ (s : sound_book b ≡ true) where
    pub refused_malformed : is_name h ≡ false → Refused 7
    refused_malformed n = refused 7 (suffix_malformed h b s n)

    module _ (n : is_name h ≡ true) where
      refused_out : within 1 64 (with_label h (public_of b h)) ≡ false → Refused 7
      refused_out o = refused 7 (suffix_named h b s n ∙ last_bytes_out h (with_label h (public_of b h)) o)

      -- no label is added to none
      none_added : with_label h (public_of b h) ≡ 0 → Refused 7
      none_added e = refused_out (rw e (within_low 1 64 0 (omega arith)))

      pub refused_unlisted : if_any (public_of b h) ≡ None → Refused 7
      refused_unlisted e = none_added (rw (none_any (public_of b h) e) (none_any (with_label h 0) (no_label h 0 refl)))

      -- m of the host's bytes are public
      module _ (m : ℕ) (e : if_any (public_of b h) ≡ Some m) where
        public : with_label h (public_of b h) ≡ with_label h m
        public = ap (with_label h) ((some_any (public_of b h) m e).is)

        pub refused_whole : if_any (with_label h m) ≡ None → Refused 7
        refused_whole f = none_added (public ∙ none_any (with_label h m) f)

        -- and r with one label more
        module _ (r : ℕ) (f : if_any (with_label h m) ≡ Some r) where
          taken : with_label h (public_of b h) ≡ r
          taken = public ∙ (some_any (with_label h m) r f).is

          pub refused_long : 64 < r → Refused 7
          refused_long l = refused_out (rw taken (within_high 1 64 r l))

          pub given : r ≤ 64
              → Answered (suffix_of h b) host (host.0, length h - r + host.1) (take (length h - (length h - r)) (drop (length h - r) h)) 0
          given l =
              let k = (some_any (with_label h m) r f).some in
              let e : suffix_of h b ≡ last_part h r =
              suffix_named h b s n ∙ ap (last_bytes h) taken ∙ last_bytes_in h r (within_in 1 64 r k l) in
              subst (λ (a : Answer). Answered a host (host.0, length h - r + host.1) (take (length h - (length h - r)) (drop (length h - r) h)) 0)
              (sym e) (record { says = refl; gives = take_rest (length h - r) h; block = refl; byte = omega arith })
