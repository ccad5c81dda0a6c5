-- What is claimed of memories and of what applications were given, where memory and disk are apart.
use Rattle.std.specs.Prelude.{ℕ, ◌⊎◌}
use Rattle.raft_safety.specs.Logs.{IsPrefix}
use Rattle.raft_safety.specs.Cluster.{In}
use Rattle.raft_safety.specs.DiskCluster.{Given, DiskCluster, in_memory}

-- of what two applications were given, or one of them twice, before a crash and after it, one is the beginning of the other
abbrev pub AreGivenOneLog : DiskCluster → DiskCluster → Type 0
AreGivenOneLog early late =
    (one other : Given) → In one early.given → In other late.given
    → IsPrefix one.log other.log ⊎ IsPrefix other.log one.log

-- of what two servers know to be committed in memory, the second at the same moment or later, one is the beginning of the
-- other
abbrev pub KnowOneLog : DiskCluster → DiskCluster → Type 0
KnowOneLog early late =
    (one other : ℕ) → IsPrefix (in_memory early one).committed (in_memory late other).committed
    ⊎ IsPrefix (in_memory late other).committed (in_memory early one).committed
