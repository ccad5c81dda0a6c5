-- Runs in which changes of the voters wait for the members. Each action is allowed.
use Rattle.std.proofs.Common.{◌≡◌, List, [], ◌∷◌, ◌++◌, map, refl}
use Rattle.conf_change.specs.declared.change.Kind.TheVariants.{Remove}
use Rattle.raft_safety.specs.Waiting.{Join, Leave, Campaign, Learn, Propose, Receive, Store, Crash, MayProposeWaiting, new_waiting_cluster, AreAllowedWaiting}
use Rattle.raft_safety.specs.WaitingOnDisk.{MayProposeStored, new_waiting_disks, AreAllowedWaitingOnDisk, done}
use Rattle.safety_examples.proofs.ListedVoters.{configuration_of}
use Rattle.safety_examples.proofs.DecidedDisk.{disks}
use Rattle.safety_examples.proofs.DecidedWaiting as waiting
use Rattle.safety_examples.proofs.DecidedWaiting.{ListedAction, Do, LeadBy, CommitBy, ListedDiskAction, OnDisk, decided, proposes_stored, waits, waits_on_disk}
use Rattle.safety_examples.proofs.ListedRuns.{actions_of, after, are_allowed}
use Rattle.safety_examples.proofs.Beginnings.{one, one_change, request, add, remove, added}
use Rattle.safety_examples.proofs.DiskRuns.{all_look, until_applied, until_both, until_crash, after_crash}

-- ---- server 1, the only voter, adds server 2; both are members. That server 1 is removed may be proposed only once server 2 has stored
-- the first change too, or that server 2 is removed once it is stopped for good
abbrev until_stored : List ListedAction
until_stored =
    Do (Join 1) ∷ Do (Join 2) ∷ Do (Campaign 1 1 []) ∷ LeadBy (request 1 1 [] []) (1 ∷ []) ∷ Do (Propose 1 1 add) ∷ Do (Receive 1 1 1 added [] added)
    ∷ CommitBy 1 1 added [] (1 ∷ []) ∷ Do (Receive 1 1 1 added added added) ∷ Do (Store 1 added) ∷ []

abbrev waited_for : List ListedAction
waited_for =
    until_stored
    ++ (Do (Receive 2 1 1 added added added) ∷ Do (Store 2 added) ∷ Do (Crash 2 added) ∷ Do (Propose 1 1 remove) ∷ Do (Learn 1 1 added) ∷ [])

waited_for_is_allowed : AreAllowedWaiting (configuration_of one) new_waiting_cluster (actions_of waits new_waiting_cluster waited_for)
waited_for_is_allowed = (are_allowed waits one new_waiting_cluster waited_for).shows refl

-- server 2 has not stored the change: the next one waits
waits_for_2 : ¬ MayProposeWaiting (configuration_of one) (after waits new_waiting_cluster until_stored) 1 1 remove
waits_for_2 = (decided one (after waits new_waiting_cluster until_stored) (Propose 1 1 remove)).refutes refl

-- server 2 is stopped for good, so nothing waits for it
abbrev replaced : List ListedAction
replaced = until_stored ++ (Do (Leave 2) ∷ Do (Propose 1 1 (one_change 1 Remove 2)) ∷ [])

replaced_is_allowed : AreAllowedWaiting (configuration_of one) new_waiting_cluster (actions_of waits new_waiting_cluster replaced)
replaced_is_allowed = (are_allowed waits one new_waiting_cluster replaced).shows refl

-- ---- the run of a server that looks at its log, by a member that waits and does not look. That server 1 is removed may be proposed only
-- once it has stored that server 2 was added
abbrev until_applied_waiting : List ListedDiskAction
until_applied_waiting = waiting.Join 1 ∷ map OnDisk until_applied

abbrev waited_on_disk : List ListedDiskAction
waited_on_disk = until_applied_waiting ++ (waiting.Store 1 added ∷ map OnDisk (until_both ++ until_crash ++ after_crash))

same_run : done (actions_of waits_on_disk new_waiting_disks waited_on_disk) ≡ actions_of disks all_look (until_applied ++ until_both ++ until_crash ++ after_crash)
same_run = refl

waited_on_disk_is_allowed : AreAllowedWaitingOnDisk (configuration_of one) new_waiting_disks (actions_of waits_on_disk new_waiting_disks waited_on_disk)
waited_on_disk_is_allowed = (are_allowed waits_on_disk one new_waiting_disks waited_on_disk).shows refl

-- server 1 has applied the first change, but not stored that: the next one waits
waits_for_1 : ¬ MayProposeStored (configuration_of one) (after waits_on_disk new_waiting_disks until_applied_waiting) 1 1 remove
waits_for_1 = (proposes_stored one (after waits_on_disk new_waiting_disks until_applied_waiting) 1 1 remove).refutes refl
