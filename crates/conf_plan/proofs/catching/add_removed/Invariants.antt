use Rattle.conf_plan.proofs.OnTheWay.CatchingUp.{RemovedSoFar}
use Rattle.conf_plan.proofs.catching.add_removed.Given as goal

abbrev pub invariant-loop-change : goal.invariant-loop-change
invariant-loop-change g l = RemovedSoFar (g.S.MemberSet.ids l.fn.removed) l.changes l.change-index (g.S.MemberSet.ids l.removed)
