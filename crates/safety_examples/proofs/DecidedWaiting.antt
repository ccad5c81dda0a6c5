-- Whether the rules of Waiting.antt and WaitingOnDisk.antt allow an action is decided by computing, where sets of servers are
-- written as lists.
use Rattle.std.proofs.Common.{arith}
use Rattle.std.proofs.Common.{ℕ, ◌+◌, ◌≤◌, List, ◌∷◌, length, subst₂}
use Rattle.quorum_sets.specs.Ids.{ids_of}
use Rattle.raft_safety.specs.Logs.{Entry, Log, last_term}
use Rattle.raft_safety.specs.Configurations.{voter_changes}
use Rattle.raft_safety.specs.Cluster.{VoteRequest, Election, Cluster, In}
use Rattle.raft_safety.specs.Waiting.{HasChanges, HaveStored, WaitingCluster, new_waiting_cluster, WaitingAction, MayCommitWaiting, IsBetween, IsAllowedWaiting, after_waiting}
use Rattle.raft_safety.specs.Waiting as waiting
use Rattle.raft_safety.specs.WaitingOnDisk.{WaitingDisks, new_waiting_disks, WaitingDiskAction, MayCampaignStored, MayProposeStored, IsAllowedWaitingOnDisk, after_waiting_on_disk}
use Rattle.raft_safety.specs.WaitingOnDisk as stored
use Rattle.raft_safety.specs.DiskCluster.{in_memory}
use Rattle.raft_safety.specs.DiskRules as rules
use Rattle.safety_examples.proofs.Decisions.{Decision, yes, undecided, number_is, less, at_most, like, so, both, either, all_in, is_in, each_id}
use Rattle.safety_examples.proofs.ListedVoters.{Lists, configuration_of, quorum, changes, same_changes, one_change_beyond}
use Rattle.safety_examples.proofs.ListedRuns.{Level}
use Rattle.safety_examples.proofs.Equality.{prefix}
use Rattle.safety_examples.proofs.DecidedSteps as steps
use Rattle.safety_examples.proofs.DecidedSteps.{leads, acknowledged}
use Rattle.safety_examples.proofs.DecidedDisk as disk

-- ---- guards
abbrev pub HasLeaderChanges : Lists → Cluster → Log → Election → Type 0
HasLeaderChanges l c log e =
    voter_changes (configuration_of l) (c.leaderships e.request.term e.request.candidate).log ≤ voter_changes (configuration_of l) log + 1

pub changes_of : (l : Lists) (c : Cluster) (log : Log) → ((e : Election) → In e c.elections → HasLeaderChanges l c log e) → HasChanges (configuration_of l) c log
changes_of l c log each term leader leads = grind (arith, subst₂, configuration_of, leads)

abbrev pub has_changes : (l : Lists) → (c : Cluster) → (log : Log) → Decision (HasChanges (configuration_of l) c log)
has_changes l c log =
    so (changes_of l c log) (all_in (HasLeaderChanges l c log) (λ e. one_change_beyond l (c.leaderships e.request.term e.request.candidate).log log) c.elections)

abbrev pub have_stored : (l : Lists) → (log : Log) → (stored : ℕ → Log) → (members : List ℕ) → Decision (HaveStored (configuration_of l) log stored members)
have_stored l log stored members =
    all_in (λ member. voter_changes (configuration_of l) log ≤ voter_changes (configuration_of l) (stored member))
    (λ member. changes l (λ m n. m ≤ n) at_most log (stored member)) members

abbrev pub between : (low log high : Log) → Decision (IsBetween low log high)
between low log high = so (λ is. record { at_least = is.0; at_most = is.1 }) (both (prefix low log) (prefix log high))

abbrev pub commits : (l : Lists) → (w : WaitingCluster) → (term leader : ℕ) → (log counted : Log) → (servers : List ℕ)
    → Decision (MayCommitWaiting (configuration_of l) w leader (record { term = term; log = log; counted = counted; servers = ids_of servers }))
commits l w term leader log counted servers =
    let now = w.cluster.leaderships term leader in
    so (λ may. record {
      leads = may.0;
      member = may.1.0;
      longer_than = may.1.1.0;
      in_log = may.1.1.1.0;
      own_term = may.1.1.1.1.0;
      acknowledged = may.1.1.1.1.1.0;
      stored = may.1.1.1.1.1.1.0;
      counted = may.1.1.1.1.1.1.1.0;
      quorum = may.1.1.1.1.1.1.1.1;
    })
    (both (leads w.cluster term leader)
    (both (is_in number_is leader w.members)
    (both (less (length now.committed) (length log))
    (both (prefix log now.log)
    (both (number_is (last_term log) term)
    (both (each_id _ (λ server. acknowledged w.cluster term server log) servers)
    (both (prefix (w.stored leader) counted)
    (both (prefix counted now.committed)
    (quorum l counted servers)))))))))

-- the actions that have no sets
abbrev pub decided : (l : Lists) → (w : WaitingCluster) → (action : WaitingAction) → Decision (IsAllowedWaiting (configuration_of l) w action)
decided l w (waiting.Join server) = so (λ may. record { has_changes = may }) (has_changes l w.cluster (w.stored server))
decided l w (waiting.Leave server) = yes tt
decided l w (waiting.Campaign server term counted) =
    so (λ may. record { later = may.0; member = may.1.0; stored = may.1.1.0; known = may.1.1.1 })
    (both (less (w.cluster.servers server).term term)
    (both (is_in number_is server w.members)
    (both (prefix (w.stored server) counted)
    (prefix counted (w.known server)))))
decided l w (waiting.SeeTerm server term) = steps.is_allowed l w.cluster (steps.SeeTerm server term)
decided l w (waiting.GrantVote voter request) = steps.is_allowed l w.cluster (steps.GrantVote voter request)
decided l w (waiting.BecomeLeader request votes) = undecided
decided l w (waiting.Learn term leader known) =
    so (λ may. record { leads = may.0; same_term = may.1.0; known_of = may.1.1 })
    (both (leads w.cluster term leader) (both (number_is (w.cluster.servers leader).term term) (prefix known (w.known leader))))
decided l w (waiting.Propose term leader entry) =
    let log = (w.cluster.leaderships term leader).log in
    like (λ may. record { leads = may.0; own_term = may.1.0; waits = may.1.1 }) (λ may. (may.leads, (may.own_term, may.waits)))
    (both (leads w.cluster term leader)
    (both (number_is entry.term term)
    (either (same_changes l (entry ∷ log) log) (have_stored l log w.stored w.members))))
decided l w (waiting.Receive server term leader sent known after) = steps.is_allowed l w.cluster (steps.Receive server term leader sent known after)
decided l w (waiting.Commit leader m) = undecided
decided l w (waiting.Store server log) = between (w.stored server) log (w.known server)
decided l w (waiting.Crash server known) = between (w.stored server) known (w.known server)

-- ---- runs in which sets of servers are lists
pub data ListedAction : Type 0 where
  Do : (action : WaitingAction) → ListedAction
  LeadBy : (request : VoteRequest) → (votes : List ℕ) → ListedAction
  CommitBy : (term leader : ℕ) → (log counted : Log) → (servers : List ℕ) → ListedAction

abbrev pub action_of : ListedAction → WaitingAction
action_of (Do action) = action
action_of (LeadBy request votes) = waiting.BecomeLeader request (ids_of votes)
action_of (CommitBy term leader log counted servers) = waiting.Commit leader (record { term = term; log = log; counted = counted; servers = ids_of servers })

abbrev pub is_allowed : (l : Lists) → (w : WaitingCluster) → (a : ListedAction) → Decision (IsAllowedWaiting (configuration_of l) w (action_of a))
is_allowed l w (Do action) = decided l w action
is_allowed l w (LeadBy request votes) = steps.is_allowed l w.cluster (steps.BecomeLeader request votes)
is_allowed l w (CommitBy term leader log counted servers) = commits l w term leader log counted servers

abbrev pub waits : Level
waits = record {
  State = WaitingCluster;
  Action = WaitingAction;
  Listed = ListedAction;
  start = new_waiting_cluster;
  after_action = after_waiting;
  action_of = λ w a. action_of a;
  IsAllowed = IsAllowedWaiting;
  is_allowed = is_allowed;
}

-- ---- where memory and disk are apart
abbrev pub proposes_stored : (l : Lists) → (w : WaitingDisks) → (term leader : ℕ) → (entry : Entry) → Decision (MayProposeStored (configuration_of l) w term leader entry)
proposes_stored l w term leader entry =
    let log = (w.cluster.disk.cluster.leaderships term leader).log in
    like (λ may. record { leads = may.0; own_term = may.1.0; waits = may.1.1 }) (λ may. (may.leads, (may.own_term, may.waits)))
    (both (leads w.cluster.disk.cluster term leader)
    (both (number_is entry.term term)
    (either (same_changes l (entry ∷ log) log)
    (like (λ may. (may.0, may.1.0, may.1.1)) (λ may. (may.0, (may.1, may.2)))
    (both (is_in number_is leader w.members) (both (prefix (w.stored leader) (w.cluster.disk.applied term leader)) (have_stored l log w.stored w.members)))))))

abbrev pub campaigns_stored : (w : WaitingDisks) → (server term : ℕ) → Decision (MayCampaignStored w server term)
campaigns_stored w server term =
    let state = in_memory w.cluster server in
    so (λ may. record { later = may.0; member = may.1.0; stored = may.1.1.0; committed = may.1.1.1 })
    (both (less state.term term)
    (both (is_in number_is server w.members)
    (both (prefix (w.stored server) (w.cluster.applied server))
    (prefix (w.cluster.applied server) state.committed))))

pub data ListedDiskAction : Type 0 where
  Join : (server : ℕ) → ListedDiskAction
  Store : (server : ℕ) → (log : Log) → ListedDiskAction
  OnDisk : (action : disk.ListedAction) → ListedDiskAction

abbrev pub disk_action_of : WaitingDisks → ListedDiskAction → WaitingDiskAction
disk_action_of w (Join server) = stored.Join server
disk_action_of w (Store server log) = stored.Store server log
disk_action_of w (OnDisk action) = stored.Do (disk.action_of w.cluster action)

abbrev pub is_allowed_on_disk : (l : Lists) → (w : WaitingDisks) → (a : ListedDiskAction) → Decision (IsAllowedWaitingOnDisk (configuration_of l) w (disk_action_of w a))
is_allowed_on_disk l w (Join server) = has_changes l w.cluster.disk.cluster (w.stored server)
is_allowed_on_disk l w (Store server log) = prefix (w.stored server) log
is_allowed_on_disk l w (OnDisk (disk.Do (rules.Campaign server term))) = campaigns_stored w server term
is_allowed_on_disk l w (OnDisk (disk.Do (rules.Propose term leader entry))) = proposes_stored l w term leader entry
is_allowed_on_disk l w (OnDisk action) = disk.is_allowed l w.cluster action

abbrev pub waits_on_disk : Level
waits_on_disk = record {
  State = WaitingDisks;
  Action = WaitingDiskAction;
  Listed = ListedDiskAction;
  start = new_waiting_disks;
  after_action = after_waiting_on_disk;
  action_of = disk_action_of;
  IsAllowed = IsAllowedWaitingOnDisk;
  is_allowed = is_allowed_on_disk;
}
