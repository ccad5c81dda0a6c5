use Rattle.std.proofs.Common.{arith}
use Rattle.quorum_sets.proofs.IdSets.Members.{has-no_ids, has-with_id, has-without_id, has-ascending, ascending-is_sorted, has-same_ids}
use Rattle.quorum_sets.proofs.IdSets.Union.{has-union}
use Rattle.quorum_sets.proofs.laws.sets_by_member.Goals as goal

pub returns : goal.returns
returns c = grind (arith, has-no_ids, has-with_id, has-without_id, has-union, has-ascending, ascending-is_sorted, has-same_ids)
