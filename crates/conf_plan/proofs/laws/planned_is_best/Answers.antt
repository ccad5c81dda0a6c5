use Rattle.conf_plan.proofs.BestPlan.Theorem.{planned-is_best}
use Rattle.conf_plan.proofs.laws.planned_is_best.Goals as goal

pub returns : goal.returns
returns c = planned-is_best
