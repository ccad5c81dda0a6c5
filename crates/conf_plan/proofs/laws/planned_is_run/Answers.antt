use Rattle.conf_plan.proofs.PlannedSteps.RunToTarget.{planned-is_run, planned-at_most_four}
use Rattle.conf_plan.proofs.laws.planned_is_run.Goals as goal

pub returns-clause-run : goal.returns-clause-run
returns-clause-run c = planned-is_run

pub returns-clause-at_most_four : goal.returns-clause-at_most_four
returns-clause-at_most_four c = λ now target now_valid_with_voter valid_with_voter. planned-at_most_four now target
