-- The definitions that only the functions of this crate and of the crate names speak of, shut as those of Names are: the parts
-- of a book, the longest match, the walk. Their proofs reason by Laws and Steps. Assumes nothing.
pub use Rattle.terms.specs.Rule.Name.{is_letter, is_digit, labels}
pub use Rattle.terms.specs.Rule.Order.{is_order, sound_orders}
pub use Rattle.terms.specs.Rule.Listed.{before, is_listed, sound_names}
pub use Rattle.terms.specs.Rule.Book.{trailer_size, order_size, trailer, orders_at, orders_count, book_form, names_at, names_count}
pub use Rattle.terms.specs.Rule.Book.{order_at, orders_from, name_at, next_at, names_from, end_from, legal_form, adjoins}
pub use Rattle.terms.specs.Rule.Suffix.{matched, public_of, with_label, no_part}
pub use Rattle.terms.specs.Walk.{class_of, fresh, grown, is_whole, next, onward, walk}
