-- The freight forwarder's order book, and what it says: desk 1 is let to tenant 7 with a cookie store of its own, desks 2 and 3
-- are let to tenant 7 without, and com is listed. Computed once, for the worked history of the layers above. Assumes nothing.
use Rattle.std.specs.Prelude.{ℕ, ◌≡◌, refl, true, List, [], ◌∷◌, ◌++◌}
use Rattle.terms.specs.Base.{every, rising, last_of, alike}
use Rattle.terms.specs.Text.{bytes}
use Rattle.terms.specs.Rule.Num.{num}
use Rattle.terms.specs.Rule.Name.{lower, folded, is_folded, is_letter, is_digit, is_label_byte, begins, ends, is_label, onto}
use Rattle.terms.specs.Rule.Name.{labels, is_address, is_name}
use Rattle.terms.specs.Rule.Under.{same, ends_with, under}
use Rattle.terms.specs.Rule.Order.{legal_options, is_separate, is_order, seat_before, sound_orders, letting_of, tenant_of}
use Rattle.terms.specs.Rule.Order.{options_of, owner_of}
use Rattle.terms.specs.Rule.Listed.{before, is_listed, sound_names}
use Rattle.terms.specs.Rule.Book.{trailer, orders_at, orders_count, book_form, names_at, names_count, order_at, orders_from}
use Rattle.terms.specs.Rule.Book.{name_at, next_at, names_from, end_from, orders, listed, legal_form, adjoins, sound_book, owner_by}
use Rattle.terms.specs.Rule.Suffix.{matched, public_of, with_label, all_of, last_bytes, suffix_of}
use Rattle.terms.specs.Laws.Order.{owner_by_is}
use Rattle.terms.specs.Laws.Answer.{suffix_named}

-- three orders, one name, and the trailer
pub forwarder : List ℕ
forwarder =
    1 ∷ 7 ∷ 1
    ∷ 2 ∷ 7 ∷ 0
    ∷ 3 ∷ 7 ∷ 0
    ∷ 3 ∷ bytes "com"
    ++ 0 ∷ 0 ∷ 3 ∷ 0 ∷ 0 ∷ 9 ∷ 0 ∷ 1 ∷ []

pub forwarder_sound : sound_book forwarder ≡ true
unfolding bytes forwarder every rising last_of alike lower folded is_folded is_letter is_digit is_label_byte begins ends
    is_label onto labels is_address is_name legal_options is_order seat_before sound_orders before is_listed sound_names num
    trailer orders_at orders_count book_form names_at names_count order_at orders_from name_at next_at names_from end_from orders
    listed legal_form adjoins sound_book
forwarder_sound = refl

-- ---- the desks

-- what the book says of a desk: its tenant, and whose cookies it has
pub record Says (s tenant owner : ℕ) : Type 0 where
  pub tenant= : tenant_of (letting_of s (orders forwarder)) ≡ tenant
  pub owner= : owner_by forwarder s ≡ owner

pub first : Says 1 7 101
unfolding bytes forwarder trailer orders_count order_at orders_from orders letting_of tenant_of options_of is_separate owner_of
first = record { tenant= = refl; owner= = owner_by_is forwarder 1 }

pub second : Says 2 7 7
unfolding bytes forwarder trailer orders_count order_at orders_from orders letting_of tenant_of options_of is_separate owner_of
second = record { tenant= = refl; owner= = owner_by_is forwarder 2 }

pub third : Says 3 7 7
unfolding bytes forwarder trailer orders_count order_at orders_from orders letting_of tenant_of options_of is_separate owner_of
third = record { tenant= = refl; owner= = owner_by_is forwarder 3 }

-- ---- the names

-- all of a name is its suffix, and it folds to another
pub record Typed (x y : List ℕ) : Type 0 where
  pub suffix= : suffix_of x forwarder ≡ all_of x
  pub folds : folded x ≡ y

pub typed_small : Typed (bytes "a.com") (bytes "a.com")
unfolding bytes forwarder every last_of alike lower folded is_letter is_digit is_label_byte begins ends is_label onto labels
    is_address is_name same ends_with under num trailer names_at names_count name_at next_at names_from listed matched public_of
    with_label last_bytes
typed_small = record { suffix= = suffix_named (bytes "a.com") forwarder forwarder_sound refl; folds = refl }

pub typed_capital : Typed (bytes "A.com") (bytes "a.com")
unfolding bytes forwarder every last_of alike lower folded is_letter is_digit is_label_byte begins ends is_label onto labels
    is_address is_name same ends_with under num trailer names_at names_count name_at next_at names_from listed matched public_of
    with_label last_bytes
typed_capital = record { suffix= = suffix_named (bytes "A.com") forwarder forwarder_sound refl; folds = refl }

-- a name under another
pub record Inside (x y : List ℕ) : Type 0 where
  pub name : is_name x ≡ true
  pub inside : under x y ≡ true

pub www_inside : Inside (bytes "www.a.com") (bytes "a.com")
unfolding bytes every last_of alike lower folded is_letter is_digit is_label_byte begins ends is_label onto labels is_address
    is_name same ends_with under
www_inside = record { name = refl; inside = refl }
