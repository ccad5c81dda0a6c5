-- Waiting is enough: rules that ask nothing of the configuration in force. A server may count by an older configuration than
-- the one after all that it knows to be committed, forget in a restart that changes are committed, and campaign with changes
-- that it has not applied. In place of that, a change of the voters is proposed only when each member has applied the ones
-- before, and stored that it did; and a server becomes a member only when it has stored all but the last. All else is as in
-- Steps.antt. A snapshot is no step here, and what is said is on disk.
use Rattle.std.specs.Prelude.{◌≡◌, ℕ, ◌+◌, ◌<◌, ◌≤◌, ◌⊎◌, true, List, [], ◌∷◌, length, nat_eq, if◌then◌else◌}
use Rattle.quorum_sets.specs.Ids.{Ids, has}
use Rattle.conf_change.specs.Configuration.{Configuration}
use Rattle.raft_safety.specs.Runs.{after_all, AfterEach, AreAllAllowed, AtTwo}
use Rattle.raft_safety.specs.Logs.{Entry, Log, IsPrefix, last_term, longer}
use Rattle.raft_safety.specs.Configurations.{IsQuorumAfter, voter_changes}
use Rattle.raft_safety.specs.Cluster.{VoteRequest, Commitment, Cluster, HasAcknowledged, In, Leads, new_cluster, with_value}
use Rattle.raft_safety.specs.Steps.{Action, MayBecomeLeader, MayGrantVote, MayReceive, MaySeeTerm, after_action}
use Rattle.raft_safety.specs.Steps as core

-- a cluster; what each server knows now to be committed (in the cluster stands what it ever knew); up to where it has
-- applied and stored that, with the configuration, so that no crash takes it back; and its members, who may campaign and
-- commit. A server that is stopped for good leaves them (who has left may do all else here). One that was removed, and may
-- campaign or commit, has not left
pub record WaitingCluster : Type 0 where
  pub cluster : Cluster
  pub known : ℕ → Log
  pub stored : ℕ → Log
  pub members : List ℕ

abbrev pub new_waiting_cluster : WaitingCluster
new_waiting_cluster = record { cluster = new_cluster; known = λ server. []; stored = λ server. []; members = [] }

pub data WaitingAction : Type 0 where
  Join : (server : ℕ) → WaitingAction
  Leave : (server : ℕ) → WaitingAction
  Campaign : (server term : ℕ) → (counted : Log) → WaitingAction
  SeeTerm : (server term : ℕ) → WaitingAction
  GrantVote : (voter : ℕ) → (request : VoteRequest) → WaitingAction
  BecomeLeader : (request : VoteRequest) → (votes : Ids) → WaitingAction
  Learn : (term leader : ℕ) → (known : Log) → WaitingAction
  Propose : (term leader : ℕ) → (entry : Entry) → WaitingAction
  Receive : (server term leader : ℕ) → (sent known after : Log) → WaitingAction
  Commit : (leader : ℕ) → (commitment : Commitment) → WaitingAction
  Store : (server : ℕ) → (log : Log) → WaitingAction
  Crash : (server : ℕ) → (known : Log) → WaitingAction

-- the log has all changes of the voters in leaders' logs but the last
abbrev pub HasChanges : Configuration → Cluster → Log → Type 0
HasChanges first c stored =
    (term leader : ℕ) → Leads c term leader → voter_changes first (c.leaderships term leader).log ≤ voter_changes first stored + 1

-- the members have stored all changes of the voters in the log
abbrev pub HaveStored : Configuration → Log → (ℕ → Log) → List ℕ → Type 0
HaveStored first log stored members =
    (member : ℕ) → In member members → voter_changes first log ≤ voter_changes first (stored member)

-- a server may become a member once it has stored these
pub record MayJoin (first : Configuration) (w : WaitingCluster) (server : ℕ) : Type 0 where
  pub has_changes : HasChanges first w.cluster (w.stored server)

-- a member may campaign, and count by any configuration between what it has stored and what it knows to be committed
pub record MayCampaignWaiting (w : WaitingCluster) (server term : ℕ) (counted : Log) : Type 0 where
  pub later : (w.cluster.servers server).term < term
  pub member : In server w.members
  pub stored : IsPrefix (w.stored server) counted
  pub known : IsPrefix counted (w.known server)

-- a leader may learn what its server knows to be committed
pub record MayLearnWaiting (w : WaitingCluster) (term leader : ℕ) (known : Log) : Type 0 where
  pub leads : Leads w.cluster term leader
  pub same_term : (w.cluster.servers leader).term ≡ term
  pub known_of : IsPrefix known (w.known leader)

-- a leader may propose an entry; a change of the voters only when each member has stored all earlier ones
pub record MayProposeWaiting (first : Configuration) (w : WaitingCluster) (term leader : ℕ) (entry : Entry) : Type 0 where
  pub leads : Leads w.cluster term leader
  pub own_term : entry.term ≡ term
  pub waits : let log = (w.cluster.leaderships term leader).log in
      (voter_changes first (entry ∷ log) ≡ voter_changes first log) ⊎ HaveStored first log w.stored w.members

-- a leader may commit while it is a member, and count by any configuration between what it has stored and what it has
-- committed
pub record MayCommitWaiting (first : Configuration) (w : WaitingCluster) (leader : ℕ) (m : Commitment) : Type 0 where
  pub leads : Leads w.cluster m.term leader
  pub member : In leader w.members
  pub longer_than : length (w.cluster.leaderships m.term leader).committed < length m.log
  pub in_log : IsPrefix m.log (w.cluster.leaderships m.term leader).log
  pub own_term : last_term m.log ≡ m.term
  pub acknowledged : (server : ℕ) → has m.servers server ≡ true → HasAcknowledged w.cluster m.term server m.log
  pub stored : IsPrefix (w.stored leader) m.counted
  pub counted : IsPrefix m.counted (w.cluster.leaderships m.term leader).committed
  pub quorum : IsQuorumAfter first m.counted m.servers

-- a server may store what it knows, and a crash takes nothing of that back
pub record IsBetween (low log high : Log) : Type 0 where
  pub at_least : IsPrefix low log
  pub at_most : IsPrefix log high

abbrev pub IsAllowedWaiting : Configuration → WaitingCluster → WaitingAction → Type 0
IsAllowedWaiting first w (Join server) = MayJoin first w server
IsAllowedWaiting first w (Leave server) = Unit {0}
IsAllowedWaiting first w (Campaign server term counted) = MayCampaignWaiting w server term counted
IsAllowedWaiting first w (SeeTerm server term) = MaySeeTerm w.cluster server term
IsAllowedWaiting first w (GrantVote voter request) = MayGrantVote w.cluster voter request
IsAllowedWaiting first w (BecomeLeader request votes) = MayBecomeLeader first w.cluster request votes
IsAllowedWaiting first w (Learn term leader known) = MayLearnWaiting w term leader known
IsAllowedWaiting first w (Propose term leader entry) = MayProposeWaiting first w term leader entry
IsAllowedWaiting first w (Receive server term leader sent known after) =
    MayReceive w.cluster server term leader sent known after
IsAllowedWaiting first w (Commit leader m) = MayCommitWaiting first w leader m
IsAllowedWaiting first w (Store server log) = IsBetween (w.stored server) log (w.known server)
IsAllowedWaiting first w (Crash server known) = IsBetween (w.stored server) known (w.known server)

-- the numbers without one of them
abbrev pub without : ℕ → List ℕ → List ℕ
without number [] = []
without number (first ∷ rest) = if nat_eq first number then without number rest else first ∷ without number rest

-- the cluster after an action of Steps.antt
abbrev pub with_action : WaitingCluster → Action → WaitingCluster
with_action w action = record w { cluster = after_action w.cluster action }

abbrev pub after_waiting : WaitingCluster → WaitingAction → WaitingCluster
after_waiting w (Join server) = record w { members = server ∷ w.members }
after_waiting w (Leave server) = record w { members = without server w.members }
after_waiting w (Campaign server term counted) = with_action w (core.Campaign server term counted)
after_waiting w (SeeTerm server term) = with_action w (core.SeeTerm server term)
after_waiting w (GrantVote voter request) = with_action w (core.GrantVote voter request)
after_waiting w (BecomeLeader request votes) = with_action w (core.BecomeLeader request votes)
after_waiting w (Learn term leader known) = with_action w (core.Learn term leader known)
after_waiting w (Propose term leader entry) = with_action w (core.Propose term leader entry)
after_waiting w (Receive server term leader sent known after) = record w {
  cluster = after_action w.cluster (core.Receive server term leader sent known after);
  known = with_value w.known server (longer (w.known server) known);
}
after_waiting w (Commit leader m) = with_action w (core.Commit leader m)
after_waiting w (Store server log) = record w { stored = with_value w.stored server log }
after_waiting w (Crash server known) = record w { known = with_value w.known server known }

abbrev pub after_waitings : WaitingCluster → List WaitingAction → WaitingCluster
after_waitings = after_all after_waiting

abbrev pub AreAllowedWaiting : Configuration → WaitingCluster → List WaitingAction → Type 0
AreAllowedWaiting first = AreAllAllowed after_waiting (IsAllowedWaiting first)

-- the claim holds after each run that waits, whatever the first configuration is
abbrev pub AfterEachWaitingRun : (WaitingCluster → Type 0) → Type 0
AfterEachWaitingRun Claim = (first : Configuration) → AfterEach after_waiting (IsAllowedWaiting first) new_waiting_cluster Claim

-- the claim holds of an earlier moment of each such run and its end
abbrev pub AtTwoWaitingMoments : (WaitingCluster → WaitingCluster → Type 0) → Type 0
AtTwoWaitingMoments Claim = (first : Configuration) → AtTwo after_waiting (IsAllowedWaiting first) new_waiting_cluster Claim
