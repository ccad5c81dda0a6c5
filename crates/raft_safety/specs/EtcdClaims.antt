-- What is claimed of applied logs, where servers keep etcd's rules.
use Rattle.std.specs.Prelude.{◌≡◌, ℕ, ◌⊎◌}
use Rattle.raft_safety.specs.Logs.{Log, IsPrefix}
use Rattle.raft_safety.specs.Cluster.{In, Leads}
use Rattle.raft_safety.specs.EtcdCluster.{Candidacy, EtcdCluster}

-- what a leader has applied is the beginning of what it has committed
abbrev pub AppliedIsCommitted : EtcdCluster → Type 0
AppliedIsCommitted e =
    (term leader : ℕ) → Leads e.cluster term leader
    → IsPrefix (e.applied term leader) (e.cluster.leaderships term leader).committed

-- the leader of a term has applied this log, or a candidate had when it campaigned
abbrev pub IsAppliedIn : EtcdCluster → Log → Type 0
IsAppliedIn e log =
    ((term : ℕ) × (leader : ℕ) × Leads e.cluster term leader × (log ≡ e.applied term leader))
    ⊎ ((candidacy : Candidacy) × In candidacy e.candidacies × (log ≡ candidacy.applied))

-- of what two of them have applied, the second at the same moment or later, one is the beginning of the other
abbrev pub ApplyOneLog : EtcdCluster → EtcdCluster → Type 0
ApplyOneLog early late =
    (one other : Log) → IsAppliedIn early one → IsAppliedIn late other → IsPrefix one other ⊎ IsPrefix other one
