-- The lemmas of this crate that the proofs of the crates above cite. No other module of its proofs is public.

pub use Rattle.conf_session.proofs.SameAnswer.{same-answer}
pub use Rattle.conf_session.proofs.ReplyLines.{all-append, and-both, and-first, and-second, changes-tokens_in, conf_state-in_lines, spaced-bytes, spaced-tokens_in, reply_line-bytes, undo_fault-in_lines}
pub use Rattle.conf_session.proofs.U64Ids.{HasU64Saved, IsU64, NameU64, after_leave-u64, changes-u64, either-u64, empty-u64, leave-u64, line-u64, moves-u64, named-u64, numbers-u64, outcome-u64, planned-u64, planned_from_single-u64, union-u64, where-u64}
