-- What is claimed of a cluster whose servers keep the rules.
use Rattle.std.specs.Prelude.{◌≡◌, ℕ, ◌<◌, ◌⊎◌, Some, ◌∷◌, length}
use Rattle.raft_safety.specs.Logs.{Entry, Log, IsPrefix, entry_at}
use Rattle.raft_safety.specs.Cluster.{Commitment, Cluster, In, Leads}

-- a term has one leader
abbrev pub ElectionSafety : Cluster → Type 0
ElectionSafety c = (term one other : ℕ) → Leads c term one → Leads c term other → one ≡ other

-- what a leader committed is in the log of each leader of a later term
abbrev pub LeaderCompleteness : Cluster → Type 0
LeaderCompleteness c =
    (m : Commitment) (term leader : ℕ) → In m c.commitments → Leads c term leader → m.term < term
    → IsPrefix m.log (c.leaderships term leader).log

-- where the logs of two servers have entries of one term at one index, they are the same up to there
abbrev pub LogMatching : Cluster → Type 0
LogMatching c =
    (one other : ℕ) (a b : Entry) (before_a before_b : Log)
    → IsPrefix (a ∷ before_a) (c.servers one).log → IsPrefix (b ∷ before_b) (c.servers other).log
    → length before_a ≡ length before_b → a.term ≡ b.term → a ∷ before_a ≡ b ∷ before_b

-- what a server knows to be committed is the beginning of its log
abbrev pub CommittedIsStored : Cluster → Type 0
CommittedIsStored c = (server : ℕ) → IsPrefix (c.servers server).committed (c.servers server).log

-- no two servers commit different entries at an index, the second at the same moment or later
abbrev pub StateMachineSafety : Cluster → Cluster → Type 0
StateMachineSafety early late =
    (one other index : ℕ) (first second : Entry) → entry_at (early.servers one).committed index ≡ Some first
    → entry_at (late.servers other).committed index ≡ Some second → first ≡ second

-- a server, or the leader of a term, knows this much to be committed
abbrev pub IsCommittedIn : Cluster → Log → Type 0
IsCommittedIn c log =
    ((server : ℕ) × (log ≡ (c.servers server).committed))
    ⊎ ((term : ℕ) × (leader : ℕ) × Leads c term leader × (log ≡ (c.leaderships term leader).committed))

-- of what two servers or leaders know to be committed, the second at the same moment or later, one is the beginning of
-- the other
abbrev pub CommitOneLog : Cluster → Cluster → Type 0
CommitOneLog early late =
    (one other : Log) → IsCommittedIn early one → IsCommittedIn late other → IsPrefix one other ⊎ IsPrefix other one
