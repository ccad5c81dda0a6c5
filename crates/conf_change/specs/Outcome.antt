-- The three steps of a configuration (etcd's `Simple`, `EnterJoint` and `LeaveJoint` of its package `confchange`): the
-- result of each, or why it is refused.
use Rattle.std.specs.Prelude.{Bool, false, not, List, Result, Ok, Err, nat_lt, if◌then◌else◌}
use Rattle.quorum_sets.specs.Ids.{no_ids, union, difference_count}
use Rattle.conf_change.specs.Configuration.{Configuration, is_joint, has_voter}
use Rattle.conf_change.specs.Change.{result_of}
use Rattle.conf_change.specs.declared.change.Change.{Change}
use Rattle.conf_change.specs.declared.refused.Refused.{Refused}
use Rattle.conf_change.specs.declared.refused.Refused.TheVariants.{AlreadyJoint, ZeroVoterJoint, NotJoint, SimpleInJoint, RemovedAllVoters, MoreThanOneVoter}
use Rattle.conf_change.specs.declared.step.Step.{Step}
use Rattle.conf_change.specs.declared.step.Step.TheVariants.{Simple, EnterJoint, LeaveJoint}

-- the configuration after a step, or why the step is refused
abbrev pub Outcome : Type 0
Outcome = Result Configuration Refused

-- a simple step, after which at most one voter differs (Ongaro's dissertation, 4.1)
abbrev pub simple_outcome : Configuration → List Change → Outcome
simple_outcome c changes =
    let after = result_of c changes in
    if is_joint c then Err SimpleInJoint
    else (if not (has_voter after) then Err RemovedAllVoters
    else (if nat_lt 1 (difference_count c.incoming after.incoming) then Err MoreThanOneVoter
    else Ok after))

-- the joint configuration before its changes: the incoming voters are the outgoing ones too
abbrev pub with_outgoing : Configuration → Bool → Configuration
with_outgoing c auto_leave = record c { outgoing = c.incoming; auto_leave = auto_leave }

-- entering a joint configuration, in which the changes are made (Ongaro's dissertation, 4.3): (1 2 3) by v4 r1 becomes
-- (2 3 4)&&(1 2 3)
abbrev pub enter_outcome : Configuration → Bool → List Change → Outcome
enter_outcome c auto_leave changes =
    let after = result_of (with_outgoing c auto_leave) changes in
    if is_joint c then Err AlreadyJoint
    else (if not (has_voter c) then Err ZeroVoterJoint
    else (if not (has_voter after) then Err RemovedAllVoters
    else Ok after))

-- the configuration after leaving a joint one: the outgoing voters are removed, and the next learners become learners
abbrev pub after_leave : Configuration → Configuration
after_leave c = record {
  incoming = c.incoming;
  outgoing = no_ids;
  learners = union c.learners c.learners_next;
  learners_next = no_ids;
  auto_leave = false;
}

-- leaving a joint configuration: (2 3 4)&&(1 2 3) becomes (2 3 4)
abbrev pub leave_outcome : Configuration → Outcome
leave_outcome c = if is_joint c then Ok (after_leave c) else Err NotJoint

-- the outcome of a step
abbrev pub outcome : Configuration → Step → Outcome
outcome c (Simple changes) = simple_outcome c changes
outcome c (EnterJoint auto_leave changes) = enter_outcome c auto_leave changes
outcome c LeaveJoint = leave_outcome c
