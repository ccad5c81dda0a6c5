-- The state of a cluster whose servers keep etcd's rules: the cluster of Cluster.antt, and what that leaves out, which is
-- the messages with entries, what is applied, and how much of each commit index is durable.
use Rattle.std.specs.Prelude.{ℕ, Bool, List, []}
use Rattle.raft_safety.specs.Logs.{Log}
use Rattle.raft_safety.specs.Cluster.{VoteRequest, Cluster, new_cluster, with_value}

-- a message with entries: those of a leader's log after an index, the newest first; the term of the entry at the index,
-- 0 if the index is 0; and the leader's commit index. A snapshot is such a message from index 0 up to a committed index
pub record Append : Type 0 where
  pub term : ℕ
  pub index : ℕ
  pub index_term : ℕ
  pub entries : Log
  pub commit : ℕ

-- a request for votes, and the log up to which the candidate had applied when it campaigned
pub record Candidacy : Type 0 where
  pub request : VoteRequest
  pub applied : Log

-- the cluster; for each server the part of its committed log that it still knows to be committed after a restart, its
-- durable commit index; for each leader, by term and server, the log up to which it has applied, whose configuration is
-- the one in force there; each candidacy; and each append that was ever sent. Which servers look at their own log before each
-- campaign stays as it is; these need not know what is durable of their commit index
pub record EtcdCluster : Type 0 where
  pub cluster : Cluster
  pub durable : ℕ → Log
  pub applied : ℕ → ℕ → Log
  pub candidacies : List Candidacy
  pub appends : List Append
  pub looks : ℕ → Bool

-- before anything happens, where these servers look
abbrev pub new_etcd_cluster : (ℕ → Bool) → EtcdCluster
new_etcd_cluster looks = record {
  cluster = new_cluster;
  durable = λ server. [];
  applied = λ term leader. [];
  candidacies = [];
  appends = [];
  looks = looks;
}

-- the cluster after the leader has applied up to the log
abbrev pub with_applied : EtcdCluster → ℕ → ℕ → Log → EtcdCluster
with_applied e term leader log =
    record e { applied = with_value e.applied term (with_value (e.applied term) leader log) }
