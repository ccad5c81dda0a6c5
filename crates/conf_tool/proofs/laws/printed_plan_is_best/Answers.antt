use Rattle.conf_tool.proofs.Theorems.BestPlan.{printed-best}
use Rattle.conf_tool.proofs.laws.printed_plan_is_best.Goals as goal

pub returns : goal.returns
returns c = printed-best c.planned_is_best.ensures
