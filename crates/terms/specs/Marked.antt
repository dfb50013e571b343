-- P1 to P12, document 01, "Marked name facts": one table of facts, one test computed over it, one theorem.
-- Assumes nothing.
use Rattle.std.specs.Prelude.{ℕ, ◌≡◌, refl, Bool, true, not, ◌&&◌, List, [], ◌∷◌, ◌++◌, eqb}
use Prim.Native.String.{String}
use Rattle.terms.specs.Base.{every, rising, last_of, alike}
use Rattle.terms.specs.Text.{bytes}
use Rattle.terms.specs.Rule.Num.{num}
use Rattle.terms.specs.Rule.Name.{lower, folded, is_folded, is_letter, is_digit, is_label_byte, begins, ends, is_label, onto}
use Rattle.terms.specs.Rule.Name.{labels, is_address, is_name}
use Rattle.terms.specs.Rule.Under.{same, ends_with, under}
use Rattle.terms.specs.Rule.Order.{sound_orders}
use Rattle.terms.specs.Rule.Listed.{before, is_listed, sound_names}
use Rattle.terms.specs.Rule.Book.{trailer, orders_at, orders_count, book_form, names_at, names_count, orders_from, name_at}
use Rattle.terms.specs.Rule.Book.{next_at, names_from, end_from, orders, listed, legal_form, adjoins, sound_book}
use Rattle.terms.specs.Rule.Suffix.{matched, public_of, with_label, last_bytes, suffix_by, suffix_of}

-- "Book co.uk, com, uk": no orders, three names
pub book : List ℕ
book =
    5 ∷ bytes "co.uk" ++ 3 ∷ bytes "com" ++ 2 ∷ bytes "uk"
    ++ 0 ∷ 0 ∷ 0 ∷ 0 ∷ 0 ∷ 0 ∷ 0 ∷ 3 ∷ []

pub data Fact : Type 0 where
  is_under : String → String → Fact
  not_under : String → String → Fact
  malformed : String → Fact
  gives : String → String → Fact
  refused7 : String → Fact

-- a fact holds of the definitions
pub holds : Fact → Bool
holds (is_under h t) = under (bytes h) (bytes t)
holds (not_under h t) = not (under (bytes h) (bytes t))
holds (malformed s) = not (is_name (bytes s))
holds (gives h p) = eqb (suffix_of (bytes h) book).why 0 && alike (suffix_of (bytes h) book).part (bytes p)
holds (refused7 h) = eqb (suffix_of (bytes h) book).why 7 && alike (suffix_of (bytes h) book).part []

-- P1 to P12, in this order
pub facts : List Fact
facts =
    is_under "www.a.com" "a.com"
    ∷ is_under "a.com" "a.com"
    ∷ not_under "ba.com" "a.com"
    ∷ not_under "a.com" "www.a.com"
    ∷ is_under "A.COM" "a.com"
    ∷ malformed ""
    ∷ malformed "a..com"
    ∷ malformed "-a.com"
    ∷ gives "www.b.co.uk" "b.co.uk"
    ∷ refused7 "co.uk"
    ∷ gives "b.uk" "b.uk"
    ∷ refused7 "a.org"
    ∷ []

pub marked : every holds facts ≡ true
unfolding bytes book holds facts every rising last_of alike lower folded is_folded is_letter is_digit is_label_byte begins
    ends is_label onto labels is_address is_name same ends_with under sound_orders before is_listed sound_names num trailer
    orders_at orders_count book_form names_at names_count orders_from name_at next_at names_from end_from orders listed legal_form
    adjoins sound_book matched public_of with_label last_bytes suffix_by suffix_of
marked = refl
