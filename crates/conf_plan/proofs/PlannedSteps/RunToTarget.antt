-- The plan is a run, of at most four steps.
use Rattle.std.proofs.Common.{◌≡◌, ◌+◌, ◌≤◌, Bool, false, cond, ◌&&◌, List, [], ◌∷◌, ◌++◌, length, arith}
use Rattle.std.specs.Prelude.{Ok, nat_le}
use Rattle.std.proofs.lemmas.Bool.{and_left, and_right}
use Rattle.quorum_sets.specs.Ids.{difference_count}
use Rattle.conf_change.specs.Configuration.{Configuration, is_joint, is_same, is_same_set}
use Rattle.conf_change.specs.Outcome.{outcome, after_leave}
use Rattle.conf_change.specs.declared.step.Step.{Step}
use Rattle.conf_change.specs.declared.step.Step.TheVariants.{LeaveJoint}
use Rattle.conf_change.proofs.Offered.{outcome-are_neighbours}
use Rattle.conf_plan.specs.Run.{IsValidWithVoter, IsRun}
use Rattle.conf_plan.specs.Planned.{planned_from_single, planned}
use Rattle.conf_plan.proofs.OnTheWay.Quorums.{planned-keeps_quorums}
use Rattle.conf_plan.proofs.Runs.Chains.{IsRun-from_IsRunWith}
use Rattle.conf_plan.proofs.Runs.JointEnds.{is_joint-from_no_outgoing}

pub planned-is_run : (now target : Configuration) → IsValidWithVoter now → IsValidWithVoter target → IsRun now (planned now target) target
planned-is_run now target now_valid_with_voter valid_with_voter = grind (arith, IsRun-from_IsRunWith, planned-keeps_quorums)

-- ---- how long it is
-- at most two steps, and one more into a joint configuration
planned_from_single-length : (c target : Configuration) → length (planned_from_single c target) ≤ 2 + cond (is_joint target) 1 0
planned_from_single-length c target =
    by_case (is_same c target) (is_joint target) (is_same_set c.incoming target.outgoing) (nat_le (difference_count c.incoming target.outgoing) 1) (nat_le (difference_count c.incoming target.incoming) 1) _ _ _ _ _
  where
    by_case : (same joint at_once few_out few : Bool) (a b enter d e : Step)
        → length (cond same [] (cond joint (cond at_once [] (cond few_out (a ∷ []) (b ∷ LeaveJoint ∷ [])) ++ enter ∷ []) (cond few (d ∷ []) (e ∷ LeaveJoint ∷ [])))) ≤ 2 + cond joint 1 0
    by_case same joint at_once few_out few a b enter d e = grind arith

-- a fourth step is for going from one joint configuration to another
planned-length : (now target : Configuration) → length (planned now target) ≤ 3 + cond (is_joint now && is_joint target) 1 0
planned-length now target =
    by_case (is_same now target) (is_joint now) (is_joint target) _ _ (planned_from_single-length (after_leave now) target) (planned_from_single-length now target)
  where
    by_case : (same leaves enters : Bool) (xs ys : List Step) → length xs ≤ 2 + cond enters 1 0 → length ys ≤ 2 + cond enters 1 0
        → length (cond same [] (cond leaves (LeaveJoint ∷ xs) ys)) ≤ 3 + cond (leaves && enters) 1 0
    by_case same leaves enters xs ys after_leaving apart = grind (arith, after_leaving, apart)

pub planned-at_most_four : (now target : Configuration) → length (planned now target) ≤ 4
planned-at_most_four now target = grind (arith, planned-length now target)

planned-at_most_three : (now target : Configuration) → (is_joint now && is_joint target) ≡ false → length (planned now target) ≤ 3
planned-at_most_three now target one = rw one at (planned-length now target)

-- ---- back over one step
-- which does not lead from one joint configuration to another
one_is_single : (before after : Configuration) (step : Step) → outcome before step ≡ Ok after → (is_joint after && is_joint before) ≡ false
one_is_single before after step e = grind (arith, outcome-are_neighbours, and_right, is_joint-from_no_outgoing, and_left)

pub undo_of_one-at_most_three : (before after : Configuration) (steps : List Step) → IsRun before steps after → length steps ≡ 1 → length (planned after before) ≤ 3
undo_of_one-at_most_three before after [] run one = cc
undo_of_one-at_most_three before after (step ∷ []) run one = grind (arith, planned-at_most_three, one_is_single)
undo_of_one-at_most_three before after (step ∷ next ∷ steps) run one = absurd (omega arith)
