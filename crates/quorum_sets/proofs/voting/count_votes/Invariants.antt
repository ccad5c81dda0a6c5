use Rattle.std.proofs.Common.{◌≡◌, ◌≤◌, take}
use Rattle.std.specs.Prelude.{count_by}
use Rattle.quorum_sets.specs.Ids.{ascending}
use Rattle.quorum_sets.specs.Votes.{is_yes, may_be_yes}
use Rattle.quorum_sets.proofs.voting.count_votes.Given as goal

abbrev pub invariant-loop-position : goal.invariant-loop-position
invariant-loop-position g l = record {
  vote : l.yes_votes ≡ count_by (is_yes (g.V.VoteSource.votes l.votes)) (take l.position (ascending (g.S.MemberSet.ids l.set)));
  may_vote : l.possible_yes_votes ≡ count_by (may_be_yes (g.V.VoteSource.votes l.votes)) (take l.position (ascending (g.S.MemberSet.ids l.set)));
  vote_small : l.yes_votes ≤ l.position;
  may_vote_small : l.possible_yes_votes ≤ l.position;
}
