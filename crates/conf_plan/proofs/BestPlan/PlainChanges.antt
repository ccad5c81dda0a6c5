-- The plan names no id 0, and makes no update.
use Rattle.std.proofs.Common.{List, [], ◌∷◌, sym, ap, ◌∙◌, arith}
use Rattle.std.specs.List.{All}
use Rattle.std.proofs.lemmas.List.Elements.{All-nil, All-cons, All-weaker}
use Rattle.quorum_sets.specs.Ids.{Ids, no_ids, has, union}
use Rattle.conf_change.specs.Configuration.{Configuration}
use Rattle.conf_change.specs.Step.{changes_of}
use Rattle.conf_change.specs.declared.step.Step.{Step}
use Rattle.conf_change.proofs.Offered.{ValidByMember-from_is_valid}
use Rattle.conf_plan.specs.Best.{IsPlain}
use Rattle.conf_plan.specs.Planned.{kind_of_move, moves, planned_from_single, planned}
use Rattle.conf_plan.specs.Run.{IsValidWithVoter, IsRunWith}
use Rattle.conf_plan.specs.declared.strategy.Strategy.TheVariants.{Shortest}
use Rattle.conf_plan.proofs.FindingMoves.OfEachId.{IsFor, filter_map-each, kind_by-no_update}
use Rattle.conf_plan.proofs.FindingMoves.ResultingConfiguration.{IsSingle, AreWanted, kind_of_move-zero, own-are_wanted}
use Rattle.conf_plan.proofs.PlannedSteps.AlongPath.{planned_from_single-holds, path_by-holds}
use Rattle.conf_plan.proofs.PlannedSteps.IntoJoint.{outgoing-are_wanted, incoming-are_wanted}

moves-are_plain : (c : Configuration) (voters learners : Ids) → IsSingle c → AreWanted voters learners → All IsPlain (moves c voters learners)
moves-are_plain c voters learners single wanted =
    let kind_for = kind_of_move c voters learners in
    let zero = kind_of_move-zero c voters learners (ValidByMember-from_is_valid c single.valid_with_voter.valid) wanted in
    All-weaker (IsFor kind_for) IsPlain (λ change is. record {
      named = λ none. let never = sym is ∙ ap kind_for none ∙ zero in cc;
      no_update = λ update.
          let other = kind_by-no_update (has voters change.id) (has learners change.id) (has c.incoming change.id) (has c.learners change.id) in
          grind (arith, is, update, other);
    }) (moves c voters learners) (filter_map-each kind_for _)

abbrev ArePlain : Configuration → Step → Configuration → Type 0
ArePlain before step after = All IsPlain (changes_of step)

planned_from_single-is_plain : (c target : Configuration) → IsSingle c → IsValidWithVoter target → IsRunWith ArePlain c (planned_from_single c target) target
planned_from_single-is_plain c target single valid_with_voter =
    planned_from_single-holds ArePlain AreWanted c target single valid_with_voter (record {
      apart = λ apart. own-are_wanted target valid_with_voter;
      outgoing = outgoing-are_wanted c target valid_with_voter;
      simple = λ voters learners wants wanted. moves-are_plain c voters learners single wanted;
      enters = λ voters learners wanted moved. moves-are_plain c voters learners single wanted;
      leaves = λ voters learners wanted moved. All-nil IsPlain;
      into = λ d single_d has_all. moves-are_plain d target.incoming (union target.learners target.learners_next) single_d (incoming-are_wanted target valid_with_voter);
    })

each_step : (now target : Configuration) (steps : List Step) → IsRunWith ArePlain now steps target → All (λ step. All IsPlain (changes_of step)) steps
each_step now target [] run = All-nil _
each_step now target (step ∷ steps) run = All-cons (λ step. All IsPlain (changes_of step)) step steps run.1.1 (each_step run.0 target steps run.2)

pub planned-is_plain : (now target : Configuration) → IsValidWithVoter now → IsValidWithVoter target → All (λ step. All IsPlain (changes_of step)) (planned now target)
planned-is_plain now target now_valid_with_voter valid_with_voter =
    each_step now target (planned now target) (path_by-holds Shortest no_ids ArePlain now target now_valid_with_voter (All-nil IsPlain)
    (λ differs c single same. planned_from_single-is_plain c target single valid_with_voter))
