-- The lemmas of this crate that the proofs of the crates above cite. No other module of its proofs is public.

pub use Rattle.ascii_text.proofs.Offered.{Extends-append}
pub use Rattle.conf_change.proofs.Configurations.Equality.{is_same-equal, is_same-is_equality, is_same_set-equal, is_same_set-refl}
pub use Rattle.conf_change.proofs.Configurations.Validity.{ValidByMember-from_is_valid, has-none_in_empty, is_empty-no_ids, is_valid-from_members}
pub use Rattle.conf_change.proofs.Configurations.Violations.{is_valid-from_valid_of}
pub use Rattle.conf_change.proofs.ListsOfChanges.ResultOfEach.{configuration-by_members, has-incoming_after, has-learners_after, has-next_after, last_effective-one, result_of-none, result_of-push, result_of-update}
pub use Rattle.conf_change.proofs.MemberProgress.Entries.{item-copied}
pub use Rattle.conf_change.proofs.MemberProgress.OfEachId.{any-members, has-all_members}
pub use Rattle.conf_change.proofs.Steps.Acceptance.{EnterTaken-from_outcome, LeaveTaken-from_outcome, SimpleTaken-from_outcome, outcome-enter_accepted, outcome-leave_accepted, outcome-simple_accepted, outgoing-none}
pub use Rattle.conf_change.proofs.Steps.ChangerAfter.{Accepts-from_changer_after, changer_after-from_Accepts}
pub use Rattle.conf_change.proofs.Steps.OneChange.{one_change-one_voter}
pub use Rattle.conf_change.proofs.Steps.Soundness.{get-after, has-after_leave, moved_to-is_sound, outcome-are_neighbours, outcome-has_voter, outcome-is_restorable, outcome-is_valid, outcome-overlaps}
pub use Rattle.conf_change.proofs.Texts.ChangeTokens.{AllZip-from_ok, changes_in_tokens-ok}
pub use Rattle.conf_change.proofs.Texts.ConfStateLine.{DenotesConfState-from_some, DenotesConfState-printed, ParsesToNumbers-spaced, conf_state_in-ok, trimmed-bracketed_line}
