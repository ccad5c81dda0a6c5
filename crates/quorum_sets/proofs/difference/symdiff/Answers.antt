use Rattle.std.proofs.Common.{arith}
use Rattle.quorum_sets.proofs.IdSets.Difference.{difference_count-common}
use Rattle.quorum_sets.proofs.difference.symdiff.Goals as goal

pub returns : goal.returns
returns g c = grind (arith, difference_count-common, c.common_count-common.ensures.count)
