-- The rules as etcd's raft means them: what a server may do next, and when. Each condition is one of etcd's, in words, but
-- that a server may look at its own log before it campaigns. They differ from those of Steps.antt in what a server can see:
-- it gets entries and a commit index by a message, it counts by the configuration that it has applied, and after a restart it
-- knows what is durable of its commit index.
--
-- What etcd's raft does, and as what it happens here:
-- - a MsgApp: Send when the leader sends it, Receive when a server takes it, as often as it arrives
-- - a MsgSnap: the same, of the entries from index 0 up to the snapshot's index, which is committed. The configuration
--   that comes with it is the one after these entries
-- - an answer to a MsgApp that ends before what the server knows to be committed: Answer
-- - a heartbeat: Heartbeat. It is not kept as a message: what it may have only grows, so one that comes late has less
-- - a leader takes its own entries: Receive at its server, as at any other
-- - a Ready that is written: a part of Receive, Campaign and GrantVote, which leave their results durable at once. What may
--   be done before it is written is in DiskRules.antt
-- - ApplyConfChange at a leader: Apply. At any other server what is applied only matters when it campaigns
-- - a restart, which applies entries again from a snapshot on: Restart; and what is applied again, when it campaigns
-- - PreVote, CheckQuorum, reads, a leader that steps down: nothing; a transfer of leadership: Campaign of its target
use Rattle.std.specs.Prelude.{◌≡◌, ℕ, ◌<◌, ◌≤◌, ◌⊎◌, Bool, true, false, ◌∷◌, ◌++◌, length}
use Rattle.quorum_sets.specs.Ids.{Ids, has}
use Rattle.conf_change.specs.Configuration.{Configuration}
use Rattle.raft_safety.specs.Logs.{Entry, Log, IsPrefix, last_term}
use Rattle.raft_safety.specs.Configurations.{IsQuorumAfter, IsOneChangeBeyond, voter_changes}
use Rattle.raft_safety.specs.Cluster.{Server, VoteRequest, HasAcknowledged, HasVoted, In, Leads}
use Rattle.raft_safety.specs.Steps.{MaySeeTerm, MayGrantVote}
use Rattle.raft_safety.specs.Appending.{term_at}
use Rattle.raft_safety.specs.EtcdCluster.{Append, Candidacy, EtcdCluster}

-- what may happen next
pub data EtcdAction : Type 0 where
  Campaign : (server term : ℕ) → (applied : Log) → EtcdAction
  SeeTerm : (server term : ℕ) → EtcdAction
  GrantVote : (voter : ℕ) → (request : VoteRequest) → EtcdAction
  BecomeLeader : (candidacy : Candidacy) → (votes : Ids) → EtcdAction
  Propose : (term leader : ℕ) → (entry : Entry) → EtcdAction
  Send : (term leader : ℕ) → (before entries : Log) → EtcdAction
  Receive : (server : ℕ) → (append : Append) → EtcdAction
  Answer : (server term leader : ℕ) → EtcdAction
  Heartbeat : (server term leader : ℕ) → (known : Log) → EtcdAction
  Commit : (term leader : ℕ) → (log : Log) → (servers : Ids) → EtcdAction
  Apply : (term leader : ℕ) → (log : Log) → EtcdAction
  Restart : (server : ℕ) → (known : Log) → EtcdAction

-- a server is ready to campaign: if it looks at its own log, it has applied all changes of voters there but one; if it does
-- not, all that it knows to be committed
abbrev pub IsReady : Configuration → Bool → Server → Log → Type 0
IsReady first true state applied = IsOneChangeBeyond first state.log applied
IsReady first false state applied = voter_changes first applied ≡ voter_changes first state.committed

-- a server may campaign
pub record MayCampaignApplied (first : Configuration) (e : EtcdCluster) (server term : ℕ) (applied : Log) : Type 0 where
  -- a campaign is in a later term
  pub later : (e.cluster.servers server).term < term
  -- what is applied is committed
  pub committed : IsPrefix applied (e.cluster.servers server).committed
  pub ready : IsReady first (e.looks server) (e.cluster.servers server) applied

-- a candidate counts votes by the configuration after this log: it may apply more, but of what it knew to be committed when it
-- campaigned, for a server that learns of more is no candidate any more
pub record HasAppliedSince (candidacy : Candidacy) (counted : Log) : Type 0 where
  pub at_least : IsPrefix candidacy.applied counted
  pub at_most : IsPrefix counted candidacy.request.committed

-- a candidate may become leader
pub record MayBecomeLeaderApplied (first : Configuration) (e : EtcdCluster) (candidacy : Candidacy) (votes : Ids) : Type 0 where
  -- it campaigned
  pub asked : In candidacy e.candidacies
  -- and does not lead the term yet
  pub not_yet : ¬ Leads e.cluster candidacy.request.term candidacy.request.candidate
  -- these servers voted for it in its term
  pub voted : (voter : ℕ) → has votes voter ≡ true
      → HasVoted e.cluster candidacy.request.term voter candidacy.request.candidate
  -- votes are counted by the configuration in force at the candidate
  pub counted : Log
  pub in_force : HasAppliedSince candidacy counted
  pub quorum : IsQuorumAfter first counted votes

-- a leader may append an entry to its log
pub record MayProposeApplied (first : Configuration) (e : EtcdCluster) (term leader : ℕ) (entry : Entry) : Type 0 where
  pub leads : Leads e.cluster term leader
  -- an entry has the term of the leader that proposes it
  pub own_term : entry.term ≡ term
  -- one change at a time: a change of voters is proposed only if all earlier ones of the log are applied. What is refused
  -- once it is applied (as the joint configuration left twice) is not one
  pub one_at_a_time :
      let log = (e.cluster.leaderships term leader).log in
      (voter_changes first (entry ∷ log) ≡ voter_changes first log)
      ⊎ (voter_changes first log ≡ voter_changes first (e.applied term leader))

-- a leader may send entries
pub record MaySend (e : EtcdCluster) (term leader : ℕ) (before entries : Log) : Type 0 where
  pub leads : Leads e.cluster term leader
  -- an append has entries of the leader's log, and what is before them there
  pub sent_of : IsPrefix (entries ++ before) (e.cluster.leaderships term leader).log

-- the term is not past for the server: it ignores messages of past terms
abbrev pub IsNotPast : EtcdCluster → ℕ → ℕ → Type 0
IsNotPast e server term = (e.cluster.servers server).term ≤ term

-- a server may take an append
pub record MayTake (e : EtcdCluster) (server : ℕ) (append : Append) : Type 0 where
  pub sent : In append e.appends
  pub not_past : IsNotPast e server append.term
  -- an append is taken only where the log has an entry at its index, of its term
  pub matches : term_at (e.cluster.servers server).log append.index ≡ append.index_term

-- a server may answer an append that ends before what it knows to be committed, by that
pub record MayAnswer (e : EtcdCluster) (server term leader : ℕ) : Type 0 where
  pub leads : Leads e.cluster term leader
  pub not_past : IsNotPast e server term

-- a server may take a heartbeat
pub record MayTakeHeartbeat (e : EtcdCluster) (server term leader : ℕ) (known : Log) : Type 0 where
  pub leads : Leads e.cluster term leader
  pub not_past : IsNotPast e server term
  -- a heartbeat has no more than the leader's commit index
  pub committed : IsPrefix known (e.cluster.leaderships term leader).committed
  -- nor more than what the server acknowledged in the term
  pub acknowledged : HasAcknowledged e.cluster term server known

-- a leader may commit its log up to an entry
pub record MayCommitApplied (first : Configuration) (e : EtcdCluster) (term leader : ℕ) (log : Log) (servers : Ids) : Type 0 where
  pub leads : Leads e.cluster term leader
  -- the commit index rises
  pub longer_than : length (e.cluster.leaderships term leader).committed < length log
  pub in_log : IsPrefix log (e.cluster.leaderships term leader).log
  -- a leader counts acknowledgements only for an entry of its own term
  pub own_term : last_term log ≡ term
  -- these servers acknowledged it, in this term
  pub acknowledged : (server : ℕ) → has servers server ≡ true → HasAcknowledged e.cluster term server log
  -- acknowledgements are counted by the configuration in force at the leader, which is the one that it has applied
  pub quorum : IsQuorumAfter first (e.applied term leader) servers

-- a leader may apply more of its log
pub record MayApply (e : EtcdCluster) (term leader : ℕ) (log : Log) : Type 0 where
  pub leads : Leads e.cluster term leader
  -- entries are applied in order
  pub more : IsPrefix (e.applied term leader) log
  -- what is applied is committed
  pub committed : IsPrefix log (e.cluster.leaderships term leader).committed

-- a server may restart. Its term, its votes and its log are durable, and no other server has its id before or after
pub record MayRestartDurable (e : EtcdCluster) (server : ℕ) (known : Log) : Type 0 where
  -- of its commit index it may lose what was not durable yet, and all if it looks at its log before it campaigns
  pub at_least : e.looks server ≡ false → IsPrefix (e.durable server) known
  pub at_most : IsPrefix known (e.cluster.servers server).committed

-- the rules allow the action. For a later term, and for votes (one a term, to a log that is up to date), they are those of
-- Steps.antt
abbrev pub IsAllowedByEtcd : Configuration → EtcdCluster → EtcdAction → Type 0
IsAllowedByEtcd first e (Campaign server term applied) = MayCampaignApplied first e server term applied
IsAllowedByEtcd first e (SeeTerm server term) = MaySeeTerm e.cluster server term
IsAllowedByEtcd first e (GrantVote voter request) = MayGrantVote e.cluster voter request
IsAllowedByEtcd first e (BecomeLeader candidacy votes) = MayBecomeLeaderApplied first e candidacy votes
IsAllowedByEtcd first e (Propose term leader entry) = MayProposeApplied first e term leader entry
IsAllowedByEtcd first e (Send term leader before entries) = MaySend e term leader before entries
IsAllowedByEtcd first e (Receive server append) = MayTake e server append
IsAllowedByEtcd first e (Answer server term leader) = MayAnswer e server term leader
IsAllowedByEtcd first e (Heartbeat server term leader known) = MayTakeHeartbeat e server term leader known
IsAllowedByEtcd first e (Commit term leader log servers) = MayCommitApplied first e term leader log servers
IsAllowedByEtcd first e (Apply term leader log) = MayApply e term leader log
IsAllowedByEtcd first e (Restart server known) = MayRestartDurable e server known
