use Rattle.conf_plan.proofs.PlanText.PlanFromLines.{plan_in-from_path}
use Rattle.conf_plan.proofs.text.read_plan.Goals as goal

pub returns : goal.returns
returns c = plan_in-from_path c.args.text.now c.read_path.result c.at_most_four.result c.read_path.ensures c.at_most_four.ensures
