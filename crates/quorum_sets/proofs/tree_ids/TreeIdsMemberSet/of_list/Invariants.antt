use Rattle.std.proofs.Common.{◌≡◌, take}
use Rattle.quorum_sets.specs.Ids.{ids_of}
use Rattle.quorum_sets.proofs.tree_ids.TreeIdsMemberSet.of_list.Given as goal

abbrev pub invariant-loop-id : goal.invariant-loop-id
invariant-loop-id l = l.set ≡ ids_of (take l.id-index l.list)
