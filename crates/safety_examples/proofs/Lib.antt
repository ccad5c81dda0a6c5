-- Small runs of clusters, and what they need. A guard is decided by a test that computes, where sets of servers are written as
-- lists, so a run is the list of its actions, and `refl` shows that each is allowed. For each level of the rules, Decided.. has the
-- tests, and ListedRuns what runs of all levels share.
pub mod Decisions
pub mod Equality
pub mod ListedVoters
pub mod ListedRuns
pub mod DecidedSteps
pub mod DecidedClaims
pub mod DecidedEtcd
pub mod DecidedDisk
pub mod DecidedWaiting
-- the runs
pub mod Beginnings
pub mod AllowedRuns
pub mod CountedChanges
pub mod WithoutARule
pub mod EtcdRuns
pub mod DiskRuns
pub mod WaitingRuns
