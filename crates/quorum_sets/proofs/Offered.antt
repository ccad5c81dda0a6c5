-- The lemmas of this crate that the proofs of the crates above cite. No other module of its proofs is public.

pub use Rattle.quorum_sets.proofs.Quorums.Counts.{count_by-none}
pub use Rattle.quorum_sets.proofs.IdSets.Difference.{count_of-common, count_of-rest, difference_count-with_id, difference_count-without_id, size-with_id}
pub use Rattle.quorum_sets.proofs.IdSets.Members.{ascending-ids_of, ascending-is_sorted, ascending-no_ids, has-ascending, has-ids_of, has-ids_where, has-no_ids, has-same_ids, has-with_id, has-without_id}
pub use Rattle.quorum_sets.proofs.IdSets.Union.{has-union}
pub use Rattle.quorum_sets.proofs.IdSets.WrittenOut.{written_out}
pub use Rattle.quorum_sets.proofs.KeptSets.AscendingList.{ascending-is_ascending, ascends-insert, ascends-sorted, has-goes, search-in_ascending, sorted-ascends}
pub use Rattle.quorum_sets.proofs.ListPositions.{slice_get-not_past, slice_get-split, take-one_more}
pub use Rattle.quorum_sets.proofs.Quorums.Overlap.{CommittedMeetsWon-from_neighbours, CommittedMeetsWon-from_neighbours_back, QuorumsMeet-from_neighbours, QuorumsMeet-from_neighbours_back}
pub use Rattle.quorum_sets.proofs.Quorums.Tolerance.{Tolerates-from_counts, commits_without-majority_passes, counted-all, counts-from_Tolerates, is_quorum-without}
