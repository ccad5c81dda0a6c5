-- The plan from one configuration to another (own).
use Rattle.std.specs.Prelude.{ℕ, Bool, false, not, ◌&&◌, ◌||◌, List, [], ◌∷◌, ◌++◌, Option, Some, None, option_map, filter_map, fold, nat_le, if◌then◌else◌}
use Rattle.std.specs.Result.{result_unwrap_or}
use Rattle.quorum_sets.specs.Ids.{Ids, no_ids, has, ascending, ids_where, difference_count, union}
use Rattle.conf_change.specs.Configuration.{Configuration, is_joint, is_member, members, is_same_set, is_same}
use Rattle.conf_change.specs.Outcome.{outcome, after_leave}
use Rattle.conf_change.specs.declared.change.Change.{Change}
use Rattle.conf_change.specs.declared.change.Kind.{Kind}
use Rattle.conf_change.specs.declared.change.Kind.TheVariants.{Voter, Learner, Remove}
use Rattle.conf_change.specs.declared.step.Step.{Step}
use Rattle.conf_change.specs.declared.step.Step.TheVariants.{Simple, EnterJoint, LeaveJoint}

-- the kind of change that an id needs, if any, by its roles in the target (voter, learner) and now (incoming voter,
-- learner)
abbrev pub kind_by : Bool → Bool → Bool → Bool → Option Kind
kind_by target_voter target_learner voter learner =
    if target_voter then (if voter then None else Some Voter)
    else (if target_learner then (if learner then None else Some Learner)
    else (if voter || learner then Some Remove else None))

-- the kind of change that an id of a configuration needs, if any, on the way to these voters and learners
abbrev pub kind_of_move : Configuration → Ids → Ids → ℕ → Option Kind
kind_of_move c voters learners id = kind_by (has voters id) (has learners id) (has c.incoming id) (has c.learners id)

-- the change that an id needs, if any
abbrev pub move_of : Configuration → Ids → Ids → ℕ → Option Change
move_of c voters learners id = option_map (λ kind. record { kind = kind; id = id }) (kind_of_move c voters learners id)

-- the configuration that is not joint and has these voters and learners
abbrev pub single_with : Ids → Ids → Configuration
single_with voters learners = record { incoming = voters; outgoing = no_ids; learners = learners; learners_next = no_ids; auto_leave = false }

-- the changes from a configuration that is not joint to these voters and learners, by ascending id: from (1 2 3) to
-- (1 2 4) with the learner 3, l3 v4
abbrev pub moves : Configuration → Ids → Ids → List Change
moves c voters learners =
    filter_map (move_of c voters learners) (ascending (union (union voters learners) (union c.incoming c.learners)))

-- the steps from a configuration that is not joint to the one with these voters and learners that is not joint either:
-- one simple step if at most one voter differs, and through a joint configuration otherwise
abbrev pub single_steps : Configuration → Ids → Ids → List Step
single_steps c voters learners =
    if nat_le (difference_count c.incoming voters) 1
    then Simple (moves c voters learners) ∷ []
    else EnterJoint false (moves c voters learners) ∷ LeaveJoint ∷ []

-- the id is a member of the target, but not an outgoing voter of it
abbrev pub is_shared : Configuration → ℕ → Bool
is_shared target id = is_member target id && not (has target.outgoing id)

-- the members of both configurations that are not outgoing voters of the target; they are learners on the way, so that
-- they keep their progress
abbrev pub shared_members : Configuration → Configuration → Ids
shared_members c target = ids_where (is_shared target) (members c)

-- the steps that make the target's outgoing voters the incoming ones, if they are not yet
abbrev pub inserted_steps : Configuration → Configuration → List Step
inserted_steps c target =
    if is_same_set c.incoming target.outgoing then [] else single_steps c target.outgoing (shared_members c target)

-- the configuration that steps lead to; a step that is refused changes nothing
abbrev pub configuration_after : Configuration → List Step → Configuration
configuration_after c steps = fold (λ at step. result_unwrap_or (outcome at step) at) c steps

-- the step into a joint target, from a configuration whose incoming voters are the target's outgoing ones
abbrev pub entering_step : Configuration → Configuration → Step
entering_step c target = EnterJoint target.auto_leave (moves c target.incoming (union target.learners target.learners_next))

-- the steps from a configuration that is not joint to a joint one: the target's outgoing voters first become the
-- incoming ones
abbrev pub joint_steps : Configuration → Configuration → List Step
joint_steps c target = inserted_steps c target ++ entering_step (configuration_after c (inserted_steps c target)) target ∷ []

-- the plan from a configuration that is not joint
abbrev pub planned_from_single : Configuration → Configuration → List Step
planned_from_single c target =
    if is_same c target then []
    else (if is_joint target then joint_steps c target else single_steps c target.incoming target.learners)

-- the plan from one configuration to another: a joint one is left first
abbrev pub planned : Configuration → Configuration → List Step
planned now target =
    if is_same now target then []
    else (if is_joint now then LeaveJoint ∷ planned_from_single (after_leave now) target else planned_from_single now target)
