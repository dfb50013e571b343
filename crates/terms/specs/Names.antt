-- What leaves this crate: the definitions of Rule under their names, shut. The layers above cite these and reason by Laws;
-- nothing outside this crate's specs/ can open one. Assumes nothing.
pub use Rattle.terms.specs.Rule.Num.{num, put}
pub use Rattle.terms.specs.Rule.Name.{lower, folded, is_folded, is_name, has_dot}
pub use Rattle.terms.specs.Rule.Under.{same, under, domain_matches}
pub use Rattle.terms.specs.Rule.Order.{legal_options, is_separate, letting_of, tenant_of, options_of, owner_of}
pub use Rattle.terms.specs.Rule.Book.{orders, listed, sound_book, owner_by}
pub use Rattle.terms.specs.Rule.Suffix.{Answer, all_of, suffix_of, Answered}
