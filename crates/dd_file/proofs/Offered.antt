-- The lemmas of this crate that the proofs of the crates above cite. No other module of its proofs is public.

pub use Rattle.dd_file.proofs.Reading.BytesTaken.{next_item-takes, next_line-takes}
pub use Rattle.dd_file.proofs.Rewriting.KnownBytes.{append-part, appends-append, part-append, part-part}
pub use Rattle.dd_file.proofs.TextLines.CutAgain.{IsOutputOf, full_lines-output, has_blank_line-lines, text_of-end}
pub use Rattle.dd_file.proofs.TextLines.EqualButReturns.{lines-ends}
pub use Rattle.dd_file.proofs.TextLines.LastNewlines.{double_end-after, double_end-pushed, ends_with-append, rest-more}
pub use Rattle.dd_file.proofs.ScriptGrammar.CallAfterCall.{AgreesInTurn, agrees-in_turn, consumes-append, script_from-followed}
pub use Rattle.dd_file.proofs.ScriptGrammar.GivenItems.{all-filter}
