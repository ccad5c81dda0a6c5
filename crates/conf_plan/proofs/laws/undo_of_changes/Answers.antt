use Rattle.std.proofs.Common.{◌∙◌}
use Rattle.std.proofs.lemmas.List.{length-map}
use Rattle.conf_change.specs.Transition.{step_for, steps_for}
use Rattle.conf_plan.proofs.Runs.Chains.{run-is_valid}
use Rattle.conf_plan.proofs.PlannedSteps.RunToTarget.{planned-is_run, planned-at_most_four, undo_of_one-at_most_three}
use Rattle.conf_plan.proofs.laws.undo_of_changes.Goals as goal

pub returns-clause-back : goal.returns-clause-back
returns-clause-back c = λ before after lists valid_with_voter run. planned-is_run after before (run-is_valid before after (steps_for lists) valid_with_voter run) valid_with_voter

pub returns-clause-at_most_four : goal.returns-clause-at_most_four
returns-clause-at_most_four c = λ before after lists valid_with_voter run. planned-at_most_four after before

pub returns-clause-at_most_three : goal.returns-clause-at_most_three
returns-clause-at_most_three c = λ before after lists valid_with_voter run one.
    undo_of_one-at_most_three before after (steps_for lists) run (length-map lists (λ list. step_for list.0 list.1) ∙ one)
