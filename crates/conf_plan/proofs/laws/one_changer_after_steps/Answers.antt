use Rattle.conf_plan.proofs.Runs.ChangerAfter.{after_steps-from_Takes, Takes-from_after_steps, after_steps-from_IsRun}
use Rattle.conf_plan.proofs.laws.one_changer_after_steps.Goals as goal

pub returns-clause-taken : goal.returns-clause-taken
returns-clause-taken c = λ before after steps. (after_steps-from_Takes before after steps, Takes-from_after_steps before after steps)

pub returns-clause-run : goal.returns-clause-run
returns-clause-run c = after_steps-from_IsRun
