use Rattle.std.proofs.Common.{◌≡◌, nat_le, count_by, take}
use Rattle.quorum_sets.proofs.commit.most_reach.Given as goal

abbrev pub invariant-loop-index : goal.invariant-loop-index
invariant-loop-index l = l.count ≡ count_by (nat_le l.fn.least) (take l.index-index l.indexes)
