use Rattle.quorum_sets.specs.Tolerance.{may_be_down}
use Rattle.quorum_sets.proofs.Quorums.Tolerance.{IsMostDown-may_be_down, IsMostDown-alone, may_be_down-all, may_be_down-no_voter, commits_without-is_some}
use Rattle.quorum_sets.proofs.laws.most_down_by_counting.Goals as goal

pub returns : goal.returns
returns c = record {
  fits = IsMostDown-may_be_down;
  alone = λ voters uncounted answer is. IsMostDown-alone voters uncounted answer (may_be_down voters uncounted) is (IsMostDown-may_be_down voters uncounted);
  all_count = may_be_down-all;
  no_voter = may_be_down-no_voter;
  commits = commits_without-is_some;
}
