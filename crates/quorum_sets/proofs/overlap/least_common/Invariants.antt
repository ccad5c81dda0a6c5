use Rattle.quorum_sets.proofs.KeptSets.Positions.{NoneBefore}
use Rattle.quorum_sets.proofs.overlap.least_common.Given as goal

abbrev pub invariant-loop-position : goal.invariant-loop-position
invariant-loop-position g l = NoneBefore (g.S.MemberSet.ids l.a) (g.S.MemberSet.ids l.b) l.position
