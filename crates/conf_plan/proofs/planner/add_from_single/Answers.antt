use Rattle.std.proofs.Common.{sym, ◌∙◌}
use Rattle.conf_plan.proofs.planner.add_from_single.Goals as goal

pub returns-else-is_joint : goal.returns-else-is_joint
returns-else-is_joint g c = rw (sym c.is_same.ensures ∙ c.if-is_same.false, sym c.is_joint.ensures ∙ c.if-is_joint.false, ← c.target.view_is) c.add_single_steps.ensures
