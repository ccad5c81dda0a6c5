-- The plan is the best there is.
use Rattle.std.proofs.Common.{arith}
use Rattle.std.proofs.Common.{◌≡◌, List, [], ◌∷◌}
use Rattle.quorum_sets.specs.Overlap.{Overlap}
use Rattle.conf_change.specs.Changer.{ChangerState}
use Rattle.conf_change.specs.Configuration.{Configuration, voters_of}
use Rattle.conf_change.specs.declared.step.Step.{Step}
use Rattle.conf_change.proofs.Offered.{outcome-overlaps}
use Rattle.conf_plan.specs.Best.{IsBest}
use Rattle.conf_plan.specs.Planned.{planned}
use Rattle.conf_plan.specs.Run.{IsValidWithVoter, IsRun, IsRunWith, Takes}
use Rattle.conf_plan.proofs.BestPlan.FewestNames.{planned-fewest}
use Rattle.conf_plan.proofs.BestPlan.PlainChanges.{planned-is_plain}
use Rattle.conf_plan.proofs.PlannedSteps.RunToTarget.{planned-is_run}
use Rattle.conf_plan.proofs.BestPlan.FewestSteps.{planned-shortest}
use Rattle.conf_plan.proofs.BestPlan.PreservedMembers.{planned-preserved, planned-preserving}
use Rattle.conf_plan.proofs.Runs.TakenInOrder.{Takes-to_target}

-- along any run the voters overlap
pub run-overlaps : (before after : Configuration) (steps : List Step) → IsRun before steps after
    → IsRunWith (λ at step next. Overlap (voters_of at) (voters_of next)) before steps after
run-overlaps before after [] run = run
run-overlaps before after (step ∷ steps) run =
    (run.0, (run.1, outcome-overlaps before run.0 step run.1), run-overlaps run.0 after steps run.2)

pub planned-is_best : (now target : Configuration) → IsValidWithVoter now → IsValidWithVoter target → IsBest now (planned now target) target
planned-is_best now target now_valid_with_voter valid_with_voter = record {
  run = planned-is_run now target now_valid_with_voter valid_with_voter;
  shortest = λ other run. planned-shortest now target other now_valid_with_voter valid_with_voter run;
  preserving = planned-preserving now target now_valid_with_voter valid_with_voter;
  preserved = λ id. planned-preserved now target id now_valid_with_voter valid_with_voter;
  fewest = λ other id run. planned-fewest now target other id now_valid_with_voter valid_with_voter run;
  plain = planned-is_plain now target now_valid_with_voter valid_with_voter;
  overlap = run-overlaps now target (planned now target) (planned-is_run now target now_valid_with_voter valid_with_voter);
}

-- a changer that took the plan made for it is where the plan leads, and no run there is better
pub Takes-best : (a b : ChangerState) (steps : List Step) (target : Configuration) → Takes a steps b → steps ≡ planned a.tracker.config target
    → IsValidWithVoter a.tracker.config → IsValidWithVoter target → IsBest a.tracker.config steps b.tracker.config
Takes-best a b steps target taken made now_valid_with_voter valid_with_voter = grind (arith, Takes-to_target, planned-is_run, planned-is_best)
