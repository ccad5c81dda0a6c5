use Rattle.std.proofs.Common.{refl, arith}
use Rattle.conf_tool.proofs.Modes.Plan.{plan_left-begin}
use Rattle.conf_tool.proofs.run.plan.PlanningHandlerLine.new.Goals as goal

pub returns-clause-unanswered : goal.returns-clause-unanswered
returns-clause-unanswered c = record { counted = refl; few = omega arith; valid = tt }

pub returns-clause-all : goal.returns-clause-all
returns-clause-all c = plan_left-begin c.args.options.plan _ _ _ _ _ c.in_ok-default_session.ensures refl refl refl refl
