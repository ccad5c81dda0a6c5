-- The invariants of etcd's rules: of what is durable, applied and sent.
use Rattle.std.proofs.Common.{◌≡◌, ℕ, ◌++◌, false, length, List}
use Rattle.conf_change.specs.Configuration.{Configuration}
use Rattle.raft_safety.specs.Logs.{Log, IsPrefix, last_term}
use Rattle.raft_safety.specs.Configurations.{IsOneChangeBeyond}
use Rattle.raft_safety.specs.Cluster.{VoteRequest, Cluster, In, Leads}
use Rattle.raft_safety.specs.EtcdCluster.{Append, Candidacy, EtcdCluster}
use Rattle.raft_safety.proofs.Invariants.{MayCountBy, AreInvariants, log_of}

-- what a leader has applied is committed, and at most one change of voters of its log is not applied
pub record IsApplied (first : Configuration) (log commit applied : Log) : Type 0 where
  pub committed : IsPrefix applied commit
  pub one_change_beyond : IsOneChangeBeyond first log applied

-- what is durable of the commit index of a server that does not look is committed, and at most one change of voters of its log
-- is beyond
pub record IsDurable (first : Configuration) (log commit durable : Log) : Type 0 where
  pub committed : IsPrefix durable commit
  pub one_change_beyond : IsOneChangeBeyond first log durable

-- a candidate counts by what it had applied
pub record IsCandidacy (first : Configuration) (requests : List VoteRequest) (candidacy : Candidacy) : Type 0 where
  pub asked : In candidacy.request requests
  pub counts : MayCountBy first candidacy.request candidacy.applied

-- an append is of a leader's log, with at most one change of voters beyond what that had committed
pub record IsAppend (first : Configuration) (c : Cluster) (append : Append) : Type 0 where
  pub leader : ℕ
  pub leads : Leads c append.term leader
  pub before : Log
  pub sent_of : IsPrefix (append.entries ++ before) (log_of c append.term leader)
  pub index : length before ≡ append.index
  pub index_term : last_term before ≡ append.index_term
  pub known : Log
  pub committed : IsPrefix known (c.leaderships append.term leader).committed
  pub stored : IsPrefix known (log_of c append.term leader)
  pub commit : length known ≡ append.commit
  pub one_change_beyond : IsOneChangeBeyond first (append.entries ++ before) known

-- all of them, and those of the cluster
pub record AreEtcdInvariants (first : Configuration) (e : EtcdCluster) : Type 0 where
  pub core : AreInvariants first e.cluster
  pub durable : (server : ℕ) → e.looks server ≡ false → IsDurable first (e.cluster.servers server).log (e.cluster.servers server).committed (e.durable server)
  pub applied : (term leader : ℕ) → Leads e.cluster term leader → IsApplied first (log_of e.cluster term leader) (e.cluster.leaderships term leader).committed (e.applied term leader)
  pub candidacies : (candidacy : Candidacy) → In candidacy e.candidacies → IsCandidacy first e.cluster.requests candidacy
  pub appends : (append : Append) → In append e.appends → IsAppend first e.cluster append
