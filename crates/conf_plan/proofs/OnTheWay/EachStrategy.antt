-- Each strategy keeps what it promises.
use Rattle.std.proofs.Common.{◌≡◌, true}
use Rattle.quorum_sets.specs.Ids.{Ids}
use Rattle.conf_change.specs.Configuration.{Configuration}
use Rattle.conf_plan.specs.PathBy.{has_path, path_by, KeepsPromises}
use Rattle.conf_plan.specs.Planned.{planned}
use Rattle.conf_plan.specs.Run.{IsValidWithVoter}
use Rattle.conf_plan.specs.declared.strategy.Strategy.{Strategy}
use Rattle.conf_plan.specs.declared.strategy.Strategy.TheVariants.{Shortest, LearnersFirst, OneAtATime}
use Rattle.conf_plan.proofs.OnTheWay.LearnersFirst.{learners_first-keeps_promises}
use Rattle.conf_plan.proofs.OnTheWay.OneAtATimePath.{one_at_a_time-keeps_promises}
use Rattle.conf_plan.proofs.OnTheWay.Quorums.{KeepsTolerance-from_quorums, planned-keeps_quorums}
use Rattle.conf_plan.proofs.BestPlan.Theorem.{planned-is_best}
use Rattle.conf_plan.proofs.PlannedSteps.RunToTarget.{planned-at_most_four}

pub path_by-keeps_promises : (strategy : Strategy) (down : Ids) (now target : Configuration) → IsValidWithVoter now → IsValidWithVoter target → has_path strategy now target ≡ true
    → KeepsPromises strategy down now (path_by strategy down now target) target
path_by-keeps_promises Shortest down now target now_valid_with_voter valid_with_voter way =
    let quorums = planned-keeps_quorums now target now_valid_with_voter valid_with_voter in
    record {
      best = planned-is_best now target now_valid_with_voter valid_with_voter;
      at_most_four = planned-at_most_four now target;
      quorums = quorums;
      tolerance = λ down. KeepsTolerance-from_quorums down now target (planned now target) quorums;
    }
path_by-keeps_promises LearnersFirst down now target now_valid_with_voter valid_with_voter way = learners_first-keeps_promises now target now_valid_with_voter valid_with_voter
path_by-keeps_promises OneAtATime down now target now_valid_with_voter valid_with_voter way = one_at_a_time-keeps_promises down now target now_valid_with_voter valid_with_voter way
