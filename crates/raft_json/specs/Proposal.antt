-- What to propose to etcd for a step, and where it leads etcd (etcd's `raftpb.ConfChangeV2`).
use Rattle.std.specs.Prelude.{ℕ, Bool, true, false, not, List, [], ◌∷◌, Option, Some, None, Ok, Err, slice_get, if◌then◌else◌}
use Rattle.std.specs.Result.{result_ok}
use Rattle.quorum_sets.specs.Ids.{ascending}
use Rattle.conf_change.specs.Configuration.{Configuration, is_joint}
use Rattle.conf_change.specs.Outcome.{Outcome, outcome, leave_outcome}
use Rattle.conf_change.specs.Transition.{step_for}
use Rattle.conf_change.specs.declared.change.Change.{Change}
use Rattle.conf_change.specs.declared.change.Kind.TheVariants.{Update}
use Rattle.conf_change.specs.declared.step.Step.{Step}
use Rattle.conf_change.specs.declared.step.Step.TheVariants.{Simple, EnterJoint, LeaveJoint}
use Rattle.conf_change.specs.declared.transition.Transition.{Transition}
use Rattle.conf_change.specs.declared.transition.Transition.TheVariants.{Auto, Implicit, Explicit}

-- one update of an id, if there is an id
abbrev pub update_of : Option ℕ → List Change
update_of None = []
update_of (Some id) = record { kind = Update; id = id } ∷ []

-- the changes, or if there are none, an update of the least incoming voter, since etcd's leader takes an empty list for
-- leaving
abbrev pub or_update : Configuration → List Change → List Change
or_update c [] = update_of (slice_get (ascending c.incoming) 0)
or_update c (change ∷ changes) = change ∷ changes

-- the changes to propose for a step
abbrev pub proposed_changes : Configuration → Step → List Change
proposed_changes c (Simple changes) = or_update c changes
proposed_changes c (EnterJoint _ changes) = or_update c changes
proposed_changes c LeaveJoint = []

-- the transition to propose for a step
abbrev pub transition_of : Step → Transition
transition_of (Simple _) = Auto
transition_of (EnterJoint true _) = Implicit
transition_of (EnterJoint false _) = Explicit
transition_of LeaveJoint = Auto

-- the step that etcd takes for the proposal
abbrev pub proposed_step : Configuration → Step → Step
proposed_step c step = step_for (transition_of step) (proposed_changes c step)

-- the outcome after auto-leave: a joint configuration with auto-leave is left automatically
abbrev pub after_auto_leave : Outcome → Outcome
after_auto_leave (Ok c) = if c.auto_leave then leave_outcome c else Ok c
after_auto_leave (Err why) = Err why

-- the outcome of a step that etcd takes, after any auto-leave
abbrev pub final_outcome : Configuration → Step → Outcome
final_outcome c step = after_auto_leave (outcome c step)

-- whether etcd's leader lets a proposal through (`stepLeader` of its package `raft`): without changes only in a joint
-- configuration, and with changes only in one that is not joint
abbrev pub is_let_through : Configuration → List Change → Bool
is_let_through c [] = is_joint c
is_let_through c (change ∷ changes) = not (is_joint c)

-- the configuration in which etcd's raft ends with a proposal, after any auto-leave, if its leader lets it through and
-- the step that it takes is accepted
abbrev pub carried_out : Configuration → Transition × List Change → Option Configuration
carried_out c proposal =
    if is_let_through c proposal.1 then result_ok (final_outcome c (step_for proposal.0 proposal.1)) else None

-- the proposal for a step
abbrev pub proposal_of : Configuration → Step → Transition × List Change
proposal_of c step = (transition_of step, proposed_changes c step)
