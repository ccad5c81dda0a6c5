use Rattle.std.proofs.Common.{◌≡◌, take}
use Rattle.quorum_sets.specs.Ids.{ascending}
use Rattle.quorum_sets.proofs.lists.list_of.Given as goal

abbrev pub invariant-loop-position : goal.invariant-loop-position
invariant-loop-position g l = l.list.items ≡ take l.position (ascending (g.S.MemberSet.ids l.set))
