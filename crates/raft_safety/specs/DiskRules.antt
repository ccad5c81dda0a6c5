-- Memory and disk apart: when a server may save, say and apply what its raft has done in memory. EtcdRules.antt saves at
-- once whatever a server does; here it does it in memory first, and a crash loses what is not saved.
--
-- What etcd's raft and its program do, and as what it happens here:
-- - Step and Tick at a server: Campaign, Take. They change the memory of raft; what a Ready then has of a HardState (term,
--   vote, commit index) and of entries is what is not saved yet
-- - a Ready is saved: Save, of the oldest part of that. MustSync is about when a save has ended: one that was not synced has
--   not, and what it wrote is saved with a later one, or lost. The commit index alone needs no save
-- - its messages are sent: Say of what asks for votes, votes and acknowledges; Send of entries
-- - its committed entries are applied: Apply, and ApplyAsLeader where the server leads. Advance is no step
-- - a leader works in memory: Lead, Propose, Send, Raise and Use do not wait for its own disk. Its server takes what it sends
--   as any other does. A candidate leads here once its own vote is saved too; before that it may send nothing as a leader
-- - a restart: Crash, whether or not the server was down. A leader that has crashed may go on here, which allows more
use Rattle.std.specs.Prelude.{◌≡◌, ℕ, ◌<◌, true, false, List, ◌++◌, length}
use Rattle.quorum_sets.specs.Ids.{Ids, has}
use Rattle.conf_change.specs.Configuration.{Configuration}
use Rattle.raft_safety.specs.Logs.{Entry, Log, IsPrefix, last_term}
use Rattle.raft_safety.specs.Configurations.{IsQuorumAfter, IsOneChangeBeyond}
use Rattle.raft_safety.specs.Cluster.{HasAcknowledged, In, Leads}
use Rattle.raft_safety.specs.EtcdCluster.{Candidacy, EtcdCluster}
use Rattle.raft_safety.specs.EtcdRules.{EtcdAction, HasAppliedSince, MayCampaignApplied, MayProposeApplied, MaySend, MayApply, MayRestartDurable, IsAllowedByEtcd}
use Rattle.raft_safety.specs.EtcdRules as etcd
use Rattle.raft_safety.specs.EtcdRuns.{after_etcd_actions}
use Rattle.raft_safety.specs.DiskCluster.{Message, Ask, Grant, Acknowledge, Raised, DiskCluster, HasSaidAcknowledged, HasSaidVote, memory, in_memory}

-- what a message speaks of is on disk: the term and the vote; the term and the entries
abbrev pub IsSaved : EtcdCluster → Message → Type 0
IsSaved e (Ask request) = In request e.cluster.requests
IsSaved e (Grant vote) = In vote e.cluster.votes
IsSaved e (Acknowledge acknowledgement) = In acknowledgement e.cluster.acknowledgements

-- the action is one of the server itself, and none of a leader
abbrev pub IsOwn : ℕ → EtcdAction → Type 0
IsOwn server (etcd.Campaign s term applied) = s ≡ server
IsOwn server (etcd.SeeTerm s term) = s ≡ server
IsOwn server (etcd.GrantVote voter request) = voter ≡ server
IsOwn server (etcd.Receive s append) = s ≡ server
IsOwn server (etcd.Answer s term leader) = s ≡ server
IsOwn server (etcd.Heartbeat s term leader known) = s ≡ server
IsOwn server action = ⊥

-- the server has heard what the action answers. Campaign is no answer
abbrev pub IsHeard : DiskCluster → EtcdAction → Type 0
IsHeard d (etcd.Campaign s term applied) = ⊥
IsHeard d (etcd.GrantVote voter request) = In (Ask request) d.said
IsHeard d action = Unit {0}

-- what may happen next
pub data DiskAction : Type 0 where
  Campaign : (server term : ℕ) → DiskAction
  Take : (server : ℕ) → (action : EtcdAction) → DiskAction
  Save : (server : ℕ) → (saved rest : List EtcdAction) → (commit : Log) → DiskAction
  Say : (message : Message) → DiskAction
  Lead : (candidacy : Candidacy) → (votes : Ids) → DiskAction
  Propose : (term leader : ℕ) → (entry : Entry) → DiskAction
  Send : (term leader : ℕ) → (before entries : Log) → DiskAction
  Raise : (term leader : ℕ) → (log : Log) → (servers : Ids) → DiskAction
  Use : (raised : Raised) → DiskAction
  ApplyAsLeader : (term leader : ℕ) → (log : Log) → DiskAction
  Apply : (server : ℕ) → (log : Log) → DiskAction
  Crash : (server : ℕ) → (known applied configured : Log) → DiskAction

-- a server may do in memory what EtcdRules.antt allows
pub record MayTakeInMemory (first : Configuration) (d : DiskCluster) (server : ℕ) (action : EtcdAction) : Type 0 where
  pub own : IsOwn server action
  pub heard : IsHeard d action
  pub allowed : IsAllowedByEtcd first (memory d server) action

-- a server may save the oldest part of what it has done
pub record MaySave (first : Configuration) (d : DiskCluster) (server : ℕ) (saved rest : List EtcdAction) (commit : Log) : Type 0 where
  -- what is on disk is what memory was at some moment: no entries without the term and the vote that came with or before them
  pub in_order : d.unsaved server ≡ saved ++ rest
  -- the commit index on disk is one that the server has
  pub committed : IsPrefix commit ((after_etcd_actions d.disk saved).cluster.servers server).committed
  -- and it is not older than the entries on disk allow: at most one change of the voters is beyond it. Of a server that looks
  -- at its own log before it campaigns, it may be any
  pub commit_kept : d.disk.looks server ≡ false → IsOneChangeBeyond first ((after_etcd_actions d.disk saved).cluster.servers server).log commit

-- a server may say something
pub record MaySay (d : DiskCluster) (message : Message) : Type 0 where
  -- a vote, an acknowledgement and a request for votes are said only when what they speak of is on disk
  pub saved : IsSaved d.disk message

-- a candidate may become leader: as in EtcdRules.antt, by votes that were said, its own too
pub record MayLead (first : Configuration) (d : DiskCluster) (candidacy : Candidacy) (votes : Ids) : Type 0 where
  pub asked : In candidacy d.disk.candidacies
  pub not_yet : ¬ Leads d.disk.cluster candidacy.request.term candidacy.request.candidate
  pub voted : (voter : ℕ) → has votes voter ≡ true
      → HasSaidVote d candidacy.request.term voter candidacy.request.candidate
  pub counted : Log
  pub in_force : HasAppliedSince candidacy counted
  pub quorum : IsQuorumAfter first counted votes

-- the commit index of a leader may rise in its memory. It counts its own server as soon as that has the entries in memory
pub record MayRaise (first : Configuration) (d : DiskCluster) (term leader : ℕ) (log : Log) (servers : Ids) : Type 0 where
  pub leads : Leads d.disk.cluster term leader
  pub in_log : IsPrefix log (d.disk.cluster.leaderships term leader).log
  pub own_term : last_term log ≡ term
  pub acknowledged : (server : ℕ) → has servers server ≡ true → ¬ (server ≡ leader)
      → HasSaidAcknowledged d term server log
  pub quorum : IsQuorumAfter first (d.disk.applied term leader) servers

-- a leader may use a commit index: from here on it may send it and apply up to it
pub record MayUse (d : DiskCluster) (raised : Raised) : Type 0 where
  pub rose : In raised d.raised
  pub rises :
      length (d.disk.cluster.leaderships raised.commitment.term raised.leader).committed < length raised.commitment.log
  -- if its own server was counted, that has the entries on disk
  pub own_saved : has raised.commitment.servers raised.leader ≡ true
      → HasAcknowledged d.disk.cluster raised.commitment.term raised.leader raised.commitment.log

-- a server may apply what it knows to be committed, on disk or not: a leader has committed that
pub record MayApplyInMemory (d : DiskCluster) (server : ℕ) (log : Log) : Type 0 where
  pub committed : IsPrefix log (in_memory d server).committed

-- a server may crash and restart
pub record MayCrash (d : DiskCluster) (server : ℕ) (known applied configured : Log) : Type 0 where
  -- it has what is on disk; of the commit index it may have more than what is surely there
  pub restarts : MayRestartDurable d.disk server known
  -- the configuration that it restarts with is the one after what it says is applied
  pub configuration_of_applied : configured ≡ applied

-- the rules allow the action
abbrev pub IsAllowedOnDisk : Configuration → DiskCluster → DiskAction → Type 0
IsAllowedOnDisk first d (Campaign server term) =
    MayCampaignApplied first (memory d server) server term (d.applied server)
IsAllowedOnDisk first d (Take server action) = MayTakeInMemory first d server action
IsAllowedOnDisk first d (Save server saved rest commit) = MaySave first d server saved rest commit
IsAllowedOnDisk first d (Say message) = MaySay d message
IsAllowedOnDisk first d (Lead candidacy votes) = MayLead first d candidacy votes
IsAllowedOnDisk first d (Propose term leader entry) = MayProposeApplied first d.disk term leader entry
IsAllowedOnDisk first d (Send term leader before entries) = MaySend d.disk term leader before entries
IsAllowedOnDisk first d (Raise term leader log servers) = MayRaise first d term leader log servers
IsAllowedOnDisk first d (Use raised) = MayUse d raised
IsAllowedOnDisk first d (ApplyAsLeader term leader log) = MayApply d.disk term leader log
IsAllowedOnDisk first d (Apply server log) = MayApplyInMemory d server log
IsAllowedOnDisk first d (Crash server known applied configured) = MayCrash d server known applied configured
