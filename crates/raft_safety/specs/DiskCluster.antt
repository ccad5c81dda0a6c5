-- The state of a cluster where memory and disk are apart: the cluster of EtcdCluster.antt, and what that leaves out, which is
-- what servers have done and not saved, what they said, and what applications were given.
use Rattle.std.specs.Prelude.{ℕ, Bool, List, []}
use Rattle.raft_safety.specs.Logs.{Log, IsPrefix}
use Rattle.raft_safety.specs.Cluster.{Vote, VoteRequest, Acknowledgement, Commitment, Server, In}
use Rattle.raft_safety.specs.EtcdCluster.{EtcdCluster, new_etcd_cluster}
use Rattle.raft_safety.specs.EtcdRules.{EtcdAction}
use Rattle.raft_safety.specs.EtcdRuns.{after_etcd_actions}

-- what a server says to others, besides entries
pub data Message : Type 0 where
  Ask : (request : VoteRequest) → Message
  Grant : (vote : Vote) → Message
  Acknowledge : (acknowledgement : Acknowledgement) → Message

-- the commit index of a leader, as it rose in its memory
pub record Raised : Type 0 where
  pub leader : ℕ
  pub commitment : Commitment

-- the server's application was given the entries of the log, up to its end
pub record Given : Type 0 where
  pub server : ℕ
  pub log : Log

-- the cluster with its servers as they are on disk and its leaders as they are in memory; for each server what it has done
-- that is not on disk, the oldest first; what was said; each commit index that rose in a leader's memory; what each
-- application was ever given, over crashes; the log up to which each server has applied (`Applied`), and the log whose
-- configuration is in force there
pub record DiskCluster : Type 0 where
  pub disk : EtcdCluster
  pub unsaved : ℕ → List EtcdAction
  pub said : List Message
  pub raised : List Raised
  pub given : List Given
  pub applied : ℕ → Log
  pub configured : ℕ → Log

-- the cluster as the server's memory has it: what is on disk, and what the server has done since. So memory is no second
-- copy, and what EtcdRules.antt makes true of each state is true of memory
abbrev pub memory : DiskCluster → ℕ → EtcdCluster
memory d server = after_etcd_actions d.disk (d.unsaved server)

-- what the memory of the server has of itself
abbrev pub in_memory : DiskCluster → ℕ → Server
in_memory d server = (memory d server).cluster.servers server

-- before anything happens, where these servers look at their own log before they campaign
abbrev pub new_disk_cluster : (ℕ → Bool) → DiskCluster
new_disk_cluster looks = record {
  disk = new_etcd_cluster looks;
  unsaved = λ server. [];
  said = [];
  raised = [];
  given = [];
  applied = λ server. [];
  configured = λ server. [];
}

-- the voter said that it voted for the candidate in the term
abbrev pub HasSaidVote : DiskCluster → ℕ → ℕ → ℕ → Type 0
HasSaidVote d term voter candidate = In (Grant (record { term = term; voter = voter; candidate = candidate })) d.said

-- the server said that its log begins with this one of the term's leader
abbrev pub HasSaidAcknowledged : DiskCluster → ℕ → ℕ → Log → Type 0
HasSaidAcknowledged d term server log =
    (more : Log) × In (Acknowledge (record { term = term; server = server; log = more })) d.said × IsPrefix log more
