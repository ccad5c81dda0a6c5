-- The theorem where memory and disk are apart: the invariants hold before anything happens, each action keeps them, and the
-- claims follow.
use Rattle.std.proofs.Common.{ℕ, ◌+◌, List, [], ◌∷◌, ◌++◌, sym, subst, inr, arith}
use Rattle.std.specs.Prelude.{Bool}
use Rattle.conf_change.specs.Configuration.{Configuration}
use Rattle.raft_safety.specs.Cluster.{Cluster, In}
use Rattle.raft_safety.specs.DiskCluster.{in_memory, Given, DiskCluster, new_disk_cluster}
use Rattle.raft_safety.specs.DiskRules.{DiskAction, ApplyAsLeader, Apply, IsAllowedOnDisk}
use Rattle.raft_safety.specs.DiskRuns.{after_disk_action, after_disk_actions, AreAllowedOnDisk}
use Rattle.raft_safety.specs.DiskClaims.{AreGivenOneLog, KnowOneLog}
use Rattle.raft_safety.proofs.Claims.{AreCommitmentsKept, AreClaims, IsKnown-two_states}
use Rattle.raft_safety.proofs.Runs.{after-append, all-keep, allowed-first, commitments-kept, claims-of_run}
use Rattle.raft_safety.proofs.Etcd.Theorem.{new_holds}
use Rattle.raft_safety.proofs.Disk.Invariants.{AreDiskInvariants}
use Rattle.raft_safety.proofs.Disk.Actions.{disk_action_keeps, known_in_memory}

pub new_holds_disk : (first : Configuration) (looks : ℕ → Bool) → AreDiskInvariants first (new_disk_cluster looks)
new_holds_disk first looks = grind (arith, new_holds)

keeps : (first : Configuration) (d : DiskCluster) (action : DiskAction) → IsAllowedOnDisk first d action → AreDiskInvariants first d → AreDiskInvariants first (after_disk_action d action)
keeps first d action may i = (disk_action_keeps first d action may i).0

reached_disk : (first : Configuration) (looks : ℕ → Bool) (actions : List DiskAction) → AreAllowedOnDisk first (new_disk_cluster looks) actions → AreDiskInvariants first (after_disk_actions (new_disk_cluster looks) actions)
reached_disk first looks actions allowed =
    all-keep after_disk_action (IsAllowedOnDisk first) (AreDiskInvariants first) (keeps first) (new_disk_cluster looks) actions allowed (new_holds_disk first looks)

-- ---- the claims
stay : (first : Configuration) (d : DiskCluster) (action : DiskAction) → IsAllowedOnDisk first d action → AreDiskInvariants first d → AreCommitmentsKept d.disk.cluster (after_disk_action d action).disk.cluster
stay first d action may i = (disk_action_keeps first d action may i).1.commitments

pub claims-reached_disk : (first : Configuration) (looks : ℕ → Bool) (early late : List DiskAction) → AreAllowedOnDisk first (new_disk_cluster looks) (early ++ late)
    → AreClaims (after_disk_actions (new_disk_cluster looks) early).disk.cluster (after_disk_actions (new_disk_cluster looks) (early ++ late)).disk.cluster
claims-reached_disk first looks =
    claims-of_run after_disk_action (IsAllowedOnDisk first) (AreDiskInvariants first) (keeps first) (λ d. d.disk.cluster) (stay first) first (λ d i. i.disk.core)
    (new_disk_cluster looks) (new_holds_disk first looks)

-- what was given stays given
given_after : (d : DiskCluster) (action : DiskAction) (v : Given) → In v d.given → In v (after_disk_action d action).given
given_after d (ApplyAsLeader term leader log) v x = inr x
given_after d (Apply server log) v x = inr x
given_after d action v x = x

given_stays : (d : DiskCluster) (actions : List DiskAction) (v : Given) → In v d.given → In v (after_disk_actions d actions).given
given_stays d [] v x = x
given_stays d (action ∷ actions) v x = given_stays (after_disk_action d action) actions v (given_after d action v x)

pub AreGivenOneLog-reached_disk : (first : Configuration) (looks : ℕ → Bool) (early late : List DiskAction) → AreAllowedOnDisk first (new_disk_cluster looks) (early ++ late)
    → AreGivenOneLog (after_disk_actions (new_disk_cluster looks) early) (after_disk_actions (new_disk_cluster looks) (early ++ late))
AreGivenOneLog-reached_disk first looks early late allowed one other in_early in_late =
    let c : Cluster = (after_disk_actions (new_disk_cluster looks) (early ++ late)).disk.cluster in
    let i : AreDiskInvariants first (after_disk_actions (new_disk_cluster looks) (early ++ late)) = reached_disk first looks (early ++ late) allowed in
    let still : In one (after_disk_actions (new_disk_cluster looks) (early ++ late)).given = subst (λ (d : DiskCluster). In one d.given) (sym (after-append after_disk_action (new_disk_cluster looks) early late))
    (given_stays (after_disk_actions (new_disk_cluster looks) early) late one in_early) in
    let a = i.given one still in
    let b = i.given other in_late in
    IsKnown-two_states first c c i.disk.core (λ m x. x) a.0 b.0 one.log other.log a.1 b.1

pub KnowOneLog-reached_disk : (first : Configuration) (looks : ℕ → Bool) (early late : List DiskAction) → AreAllowedOnDisk first (new_disk_cluster looks) (early ++ late)
    → KnowOneLog (after_disk_actions (new_disk_cluster looks) early) (after_disk_actions (new_disk_cluster looks) (early ++ late))
KnowOneLog-reached_disk first looks early late allowed one other =
    let d : DiskCluster = after_disk_actions (new_disk_cluster looks) early in
    let f : DiskCluster = after_disk_actions (new_disk_cluster looks) (early ++ late) in
    let i : AreDiskInvariants first d = reached_disk first looks early (allowed-first after_disk_action (IsAllowedOnDisk first) (new_disk_cluster looks) early late allowed) in
    let j : AreDiskInvariants first f = reached_disk first looks (early ++ late) allowed in
    IsKnown-two_states first d.disk.cluster f.disk.cluster j.disk.core (commitments-kept after_disk_action (IsAllowedOnDisk first) (AreDiskInvariants first) (keeps first) (λ h. h.disk.cluster) (stay first) (new_disk_cluster looks) early late allowed (new_holds_disk first looks)) ((in_memory d one).term + 1) ((in_memory f other).term + 1)
    (in_memory d one).committed (in_memory f other).committed (known_in_memory first d i one) (known_in_memory first f j other)
