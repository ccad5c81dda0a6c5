use Rattle.conf_tool.specs.PlanScript.{default_session}
use Rattle.conf_tool.proofs.run.plan_script.default_session.Goals as goal

pub returns : goal.returns
unfolding default_session
returns c = c.with_floor.ensures
