use Rattle.std.proofs.Common.{◌≤◌, nat_lt, count_by, take}
use Rattle.quorum_sets.proofs.commit.index_between.Given as goal

abbrev pub invariant-loop-index : goal.invariant-loop-index
invariant-loop-index l = count_by (nat_lt l.fn.least) (take l.index-index l.indexes) ≤ count_by (nat_lt l.fn.greatest) (take l.index-index l.indexes)
