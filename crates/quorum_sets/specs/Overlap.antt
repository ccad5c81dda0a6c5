-- The overlap of the quorums of two pairs of voter sets, before and after a change.
use Rattle.std.specs.Prelude.{◌≡◌, ℕ, ◌≤◌, false, IsTrue, Option, IsSome, IfSome, IfNone, OnSome}
use Rattle.quorum_sets.specs.Ids.{Ids, has, is_empty}
use Rattle.quorum_sets.specs.Voters.{Voters, is_quorum, AreNeighbours}
use Rattle.quorum_sets.specs.Committed.{Acks, acked_index, joint_committed_index}
use Rattle.quorum_sets.specs.Votes.{Votes, is_yes, joint_vote_result}
use Rattle.quorum_sets.specs.declared.voting.VoteResult.TheVariants.{VoteWon}

-- the id is in both sets
pub record IsCommon (first second : Ids) (id : ℕ) : Type 0 where
  pub in_first : IsTrue (has first id)
  pub in_second : IsTrue (has second id)

-- the smallest id in both sets
pub record IsLeastCommon (first second : Ids) (id : ℕ) : Type 0 where
  pub common : IsCommon first second id
  pub least : (other : ℕ) → IsCommon first second other → id ≤ other

-- the first set is a quorum of the first pair, and the second of the second
pub record AreQuorums (before after : Voters) (first second : Ids) : Type 0 where
  pub quorum_before : IsTrue (is_quorum before first)
  pub quorum_after : IsTrue (is_quorum after second)

-- each quorum of the first pair shares an id with each quorum of the second
abbrev pub QuorumsMeet : Voters → Voters → Type 0
QuorumsMeet before after = (first second : Ids) → AreQuorums before after first second → (id : ℕ) × IsCommon first second id

-- the id has acknowledged the index, and voted yes
pub record HasAcknowledgedAndVoted (acks : Acks) (votes : Votes) (index id : ℕ) : Type 0 where
  pub acknowledged : index ≤ acked_index acks id
  pub voted : IsTrue (is_yes votes id)

-- the result is the smallest id that two quorums share; it is none if one of the sets is not a quorum or they share no
-- id; quorums of neighbours share one
pub record IsCommonMember (before after : Voters) (first second : Ids) (answer : Option ℕ) : Type 0 where
  pub quorums : OnSome answer (AreQuorums before after first second)
  pub least : IfSome answer (IsLeastCommon first second)
  pub none : IfNone answer (AreQuorums before after first second → (id : ℕ) → ¬ IsCommon first second id)
  pub neighbours : AreNeighbours before after → AreQuorums before after first second → IsSome answer

-- both pairs have incoming voters; the first has committed the index, and the vote of the second is won
pub record CommitsAndWins (one other : Voters) (acks : Acks) (votes : Votes) (index : ℕ) : Type 0 where
  pub one_has_voters : is_empty one.incoming ≡ false
  pub other_has_voters : is_empty other.incoming ≡ false
  pub committed : index ≤ joint_committed_index one acks
  pub won : joint_vote_result other votes ≡ VoteWon

-- if the first pair has committed an index and a vote of the second is won, then some id voted yes and has acknowledged
-- the index
abbrev pub CommittedMeetsWon : Voters → Voters → Type 0
CommittedMeetsWon one other = (acks : Acks) (votes : Votes) (index : ℕ) → CommitsAndWins one other acks votes index → (id : ℕ) × HasAcknowledgedAndVoted acks votes index id

-- the quorums before and after share ids, and in each vote won on one side some id that voted yes has acknowledged what
-- is committed on the other
pub record Overlap (before after : Voters) : Type 0 where
  pub quorums : QuorumsMeet before after
  pub quorums_back : QuorumsMeet after before
  pub committed_before : CommittedMeetsWon before after
  pub committed_after : CommittedMeetsWon after before
