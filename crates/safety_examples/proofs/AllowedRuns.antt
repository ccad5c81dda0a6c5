-- Runs of which each action is allowed: a voter is added, and one is removed by a joint change.
use Rattle.std.proofs.Common.{◌≡◌, false, List, [], ◌∷◌, ◌++◌, refl}
use Rattle.quorum_sets.specs.Ids.{ids_of}
use Rattle.conf_change.specs.declared.change.Kind.TheVariants.{Voter, Remove}
use Rattle.conf_change.specs.declared.step.Step.TheVariants.{EnterJoint, LeaveJoint}
use Rattle.raft_safety.specs.Logs.{ConfChange, Entry, Log}
use Rattle.raft_safety.specs.Configurations.{IsQuorumAfter}
use Rattle.raft_safety.specs.Cluster.{Leads, new_cluster}
use Rattle.raft_safety.specs.Steps.{AreAllowed}
use Rattle.safety_examples.proofs.ListedVoters.{Lists, configuration_of, quorum}
use Rattle.safety_examples.proofs.ListedRuns.{actions_of, after, are_allowed}
use Rattle.safety_examples.proofs.DecidedSteps.{ListedAction, Campaign, SeeTerm, GrantVote, BecomeLeader, Propose, Receive, Commit, Restart, steps, leads}
use Rattle.safety_examples.proofs.Beginnings.{voters, three, one_change, request, takes, x, election}

-- ---- server 4 becomes a voter. Server 1 commits the change by the three, and a command by the four. Server 4 hears of that,
-- forgets it in a restart, and is elected in term 2 by servers 1, 3 and 4
abbrev pub added_4 : Log
added_4 = one_change 1 Voter 4 ∷ []

abbrev pub used : Log
used = x ∷ added_4

abbrev pub voter_added : List ListedAction
voter_added =
    Campaign 1 1 [] ∷ GrantVote 2 (request 1 1 [] []) ∷ BecomeLeader (request 1 1 [] []) (1 ∷ 2 ∷ [])
    ∷ Propose 1 1 (one_change 1 Voter 4) ∷ takes 1 1 1 added_4 ∷ takes 2 1 1 added_4 ∷ Commit 1 1 added_4 [] (1 ∷ 2 ∷ [])
    ∷ Propose 1 1 x ∷ Receive 1 1 1 used added_4 used ∷ Receive 2 1 1 used added_4 used ∷ Receive 4 1 1 used added_4 used
    ∷ Commit 1 1 used added_4 (1 ∷ 2 ∷ 4 ∷ []) ∷ Receive 4 1 1 used used used ∷ Restart 4 added_4
    ∷ SeeTerm 3 2 ∷ Campaign 4 2 added_4 ∷ GrantVote 1 (request 2 4 used added_4) ∷ GrantVote 3 (request 2 4 used added_4)
    ∷ BecomeLeader (request 2 4 used added_4) (1 ∷ 3 ∷ 4 ∷ []) ∷ []

voter_added_is_allowed : AreAllowed (configuration_of three) new_cluster (actions_of steps new_cluster voter_added)
voter_added_is_allowed = (are_allowed steps three new_cluster voter_added).shows refl

-- server 2 does not know yet that the command is committed; server 4 leads with it
second_knows : ((after steps new_cluster voter_added).servers 2).committed ≡ added_4
second_knows = refl

fourth_leads : Leads (after steps new_cluster voter_added) 2 4 × (((after steps new_cluster voter_added).leaderships 2 4).log ≡ used)
fourth_leads = ((leads (after steps new_cluster voter_added) 2 4).shows refl, refl)

-- ---- servers 1 and 2 are the voters, and server 1 is removed through a joint configuration, in which both voter sets decide. It
-- is entered, and left, by what server 1 leads; then server 2 leads alone
abbrev both : Lists
both = voters (1 ∷ 2 ∷ [])

abbrev enter : Entry
enter = record { term = 1; payload = ConfChange (EnterJoint false (record { kind = Remove; id = 1 } ∷ [])) }

abbrev leave : Entry
leave = record { term = 1; payload = ConfChange LeaveJoint }

abbrev entered : Log
entered = enter ∷ []

abbrev left : Log
left = leave ∷ entered

-- in the joint configuration neither server decides alone; after it server 2 does
neither_alone : (¬ IsQuorumAfter (configuration_of both) entered (ids_of (1 ∷ []))) × (¬ IsQuorumAfter (configuration_of both) entered (ids_of (2 ∷ [])))
neither_alone = ((quorum both entered (1 ∷ [])).refutes refl, (quorum both entered (2 ∷ [])).refutes refl)

abbrev joint_change : List ListedAction
joint_change =
    election
    ++ (Propose 1 1 enter ∷ takes 1 1 1 entered ∷ takes 2 1 1 entered ∷ Commit 1 1 entered [] (1 ∷ 2 ∷ [])
    ∷ Propose 1 1 leave ∷ Receive 1 1 1 left entered left ∷ Receive 2 1 1 left entered left ∷ Commit 1 1 left entered (1 ∷ 2 ∷ [])
    ∷ Receive 2 1 1 left left left ∷ Campaign 2 2 left ∷ BecomeLeader (request 2 2 left left) (2 ∷ []) ∷ [])

joint_change_is_allowed : AreAllowed (configuration_of both) new_cluster (actions_of steps new_cluster joint_change)
joint_change_is_allowed = (are_allowed steps both new_cluster joint_change).shows refl

second_leads : Leads (after steps new_cluster joint_change) 2 2 × (((after steps new_cluster joint_change).leaderships 2 2).log ≡ left)
second_leads = ((leads (after steps new_cluster joint_change) 2 2).shows refl, refl)
