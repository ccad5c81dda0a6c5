use Rattle.std.proofs.Common.{arith}
use Rattle.std.proofs.lemmas.Grind.{common_steps}
use Rattle.conf_plan.proofs.planner.is_same.Goals as goal

pub returns : goal.returns
returns g c = rw (← c.start.view_is, ← c.target.view_is, ← c.empty-none.ensures) (grind (arith, common_steps))
