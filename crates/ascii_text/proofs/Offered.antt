-- The lemmas of this crate that the proofs of the crates above cite. No other module of its proofs is public.

pub use Rattle.ascii_text.proofs.AppendedTexts.{Extends-append, join-one_more}
pub use Rattle.ascii_text.proofs.LineEnds.{is_blank-without_last, list-by_last, without_last-append, without_last-push, without_trailing_space-without_last}
pub use Rattle.ascii_text.proofs.NumberLemmas.{ParsesToNumber-from_some, number_in-none, number_in-ok}
pub use Rattle.ascii_text.proofs.FullLines.{first_len-bound, first_len-some, first_len-take, length-first, full_lines-first}
pub use Rattle.ascii_text.proofs.WhiteSpace.{blank-after, ends-before_blank, ends-before_other, is_blank-trimmed, is_blank-without_trailing_space, leads-after_blank, leads-after_other, leads-blank, leads-ends, length-without_leading_space, take-without_trailing_space, without_trailing_space-other}
pub use Rattle.ascii_text.proofs.TokenLemmas.{leads-first_token, leads-no_token, tokens_in-at_space, tokens_in-ends}
