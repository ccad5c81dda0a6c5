-- Who waits keeps the rules of servers that look at their own log, where memory and disk are apart.
use Rattle.std.proofs.Common.{◌≡◌, ℕ, ◌+◌, ◌≤◌, true, List, [], ◌∷◌, ◌++◌, refl, sym, ap, subst, ◌∙◌, inl, inr, arith}
use Rattle.std.specs.Prelude.{Bool}
use Rattle.conf_change.specs.Configuration.{Configuration}
use Rattle.raft_safety.specs.Logs.{Entry, Log}
use Rattle.raft_safety.specs.Configurations.{voter_changes}
use Rattle.raft_safety.specs.Cluster.{In}
use Rattle.raft_safety.specs.EtcdCluster.{EtcdCluster}
use Rattle.raft_safety.specs.EtcdRules.{EtcdAction, IsReady, MayCampaignApplied, MayProposeApplied}
use Rattle.raft_safety.specs.EtcdRules as etcd
use Rattle.raft_safety.specs.EtcdRuns.{after_etcd_action, after_etcd_actions}
use Rattle.raft_safety.specs.DiskCluster.{DiskCluster, memory, in_memory, new_disk_cluster}
use Rattle.raft_safety.specs.DiskRules.{DiskAction, Campaign, Save, Lead, Propose, Use, IsOwn, IsAllowedOnDisk}
use Rattle.raft_safety.specs.DiskRuns.{after_disk_action, AreAllowedOnDisk}
use Rattle.raft_safety.specs.Waiting.{HasChanges}
use Rattle.raft_safety.specs.WaitingOnDisk.{WaitingDisks, WaitingDiskAction, Join, Leave, Store, Do, MayCampaignStored, MayProposeStored, IsAllowedWaitingOnDisk, AreAllowedWaitingOnDisk, after_waiting_on_disk, new_waiting_disks, done}
use Rattle.raft_safety.proofs.Logs.{IsPrefix-trans}
use Rattle.raft_safety.proofs.Configurations.{voter_changes-prefix}
use Rattle.raft_safety.proofs.Invariants.{IsElectedWith-leads, log_of}
use Rattle.raft_safety.proofs.Etcd.Theorem.{actions_keep}
use Rattle.raft_safety.proofs.Disk.Memory.{AreOwn}
use Rattle.raft_safety.proofs.Disk.Invariants.{AreDiskInvariants, looks-stay}
use Rattle.raft_safety.proofs.Disk.Actions.{own_first, disk_action_keeps}
use Rattle.raft_safety.proofs.Disk.Theorem.{new_holds_disk}
use Rattle.raft_safety.proofs.Waiting.Changes.{few_of, HasChanges-elected, HasChanges-proposed, HasChanges-same_log, HasChanges-stored, was_member}

record AreWaitingDisks (first : Configuration) (w : WaitingDisks) : Type 0 where
  disks : AreDiskInvariants first w.cluster
  looks : w.cluster.disk.looks ≡ (λ server. true)
  changes : (member : ℕ) → In member w.members → HasChanges first w.cluster.disk.cluster (w.stored member)

-- ---- what a server does by itself is nothing to leaders
own_keeps : (first : Configuration) (server : ℕ) (e : EtcdCluster) (action : EtcdAction) → IsOwn server action → (stored : Log) → HasChanges first e.cluster stored
    → HasChanges first (after_etcd_action e action).cluster stored
own_keeps first server e (etcd.BecomeLeader candidacy votes) own stored has = absurd own
own_keeps first server e (etcd.Propose term leader entry) own stored has = absurd own
own_keeps first server e (etcd.Commit term leader log servers) own stored has = absurd own
own_keeps first server e action own stored has = has

all_own_keep : (first : Configuration) (server : ℕ) (e : EtcdCluster) (actions : List EtcdAction) → AreOwn server actions → (stored : Log) → HasChanges first e.cluster stored
    → HasChanges first (after_etcd_actions e actions).cluster stored
all_own_keep first server e [] own stored has = has
all_own_keep first server e (action ∷ actions) own stored has = grind (arith, own_keeps, all_own_keep first server (after_etcd_action e action) actions own.1 stored (own_keeps first server e action own.0 stored has))

-- ---- each action is allowed
campaigns : (first : Configuration) (w : WaitingDisks) (server term : ℕ) → MayCampaignStored w server term → AreWaitingDisks first w
    → MayCampaignApplied first (memory w.cluster server) server term (w.cluster.applied server)
campaigns first w server term may i =
    let d : DiskCluster = w.cluster in
    let applied : Log = d.applied server in
    let kept = actions_keep first d.disk (d.unsaved server) (i.disks.allowed server) i.disks.disk in
    let has : HasChanges first (memory d server).cluster (w.stored server) = all_own_keep first server d.disk (d.unsaved server) (i.disks.own server) (w.stored server) (i.changes server may.member) in
    let few : voter_changes first (in_memory d server).log ≤ voter_changes first (w.stored server) + 1
    = few_of first (memory d server).cluster (w.stored server) has (in_memory d server).log (kept.core.servers server).from_leaders in
    let more : voter_changes first (w.stored server) ≤ voter_changes first applied = voter_changes-prefix first (w.stored server) applied may.stored in
    let looks : (memory d server).looks server ≡ true = ap (λ (h : ℕ → Bool). h server) (looks-stay d.disk (d.unsaved server) ∙ i.looks) in
    record {
      later = may.later;
      committed = may.committed;
      ready = subst (λ (b : Bool). IsReady first b (in_memory d server) applied) (sym looks) (omega arith);
    }

proposes : (first : Configuration) (w : WaitingDisks) (term leader : ℕ) (entry : Entry) → MayProposeStored first w term leader entry → AreWaitingDisks first w
    → MayProposeApplied first w.cluster.disk term leader entry
proposes first w term leader entry may i = grind (arith, log_of, voter_changes-prefix, IsPrefix-trans, IsElectedWith-leads)

allowed_do : (first : Configuration) (w : WaitingDisks) (action : DiskAction) → IsAllowedWaitingOnDisk first w (Do action) → AreWaitingDisks first w → IsAllowedOnDisk first w.cluster action
allowed_do first w (Campaign server term) may i = campaigns first w server term may i
allowed_do first w (Propose term leader entry) may i = proposes first w term leader entry may i
allowed_do first w action may i = may

-- ---- and keeps the invariants
changes_do : (first : Configuration) (w : WaitingDisks) (action : DiskAction) → IsAllowedWaitingOnDisk first w (Do action) → AreWaitingDisks first w → (member : ℕ) → In member w.members
    → HasChanges first (after_disk_action w.cluster action).disk.cluster (w.stored member)
changes_do first w (Save server saved rest commit) may i member x =
    let d : DiskCluster = w.cluster in
    let order : d.unsaved server ≡ saved ++ rest = may.in_order in
    all_own_keep first server d.disk saved (own_first server saved rest (subst (AreOwn server) order (i.disks.own server))) (w.stored member) (i.changes member x)
changes_do first w (Lead candidacy votes) may i member x =
    let core = i.disks.disk.core in
    HasChanges-elected first w.cluster.disk.cluster candidacy.request votes (w.stored member)
    (core.requests candidacy.request (i.disks.disk.candidacies candidacy may.asked).asked).from_leaders (i.changes member x)
changes_do first w (Propose term leader entry) may i member x =
    HasChanges-proposed first w.cluster.disk.cluster term leader entry (w.stored member) may.leads (elim may.waits [ inl idle ↦ inl idle | inr waited ↦ inr (waited.2 member x) ]) (i.changes member x)
changes_do first w (Use raised) may i member x = grind (arith, HasChanges-same_log)
changes_do first w action may i member x = i.changes member x

looks_do : (d : DiskCluster) (action : DiskAction) → (after_disk_action d action).disk.looks ≡ d.disk.looks
looks_do d (Save server saved rest commit) = looks-stay d.disk saved
looks_do d action = refl

waiting_disks_keep : (first : Configuration) (w : WaitingDisks) (action : WaitingDiskAction) → IsAllowedWaitingOnDisk first w action → AreWaitingDisks first w → AreWaitingDisks first (after_waiting_on_disk w action)
waiting_disks_keep first w (Join server) may i = record {
  disks = i.disks;
  looks = i.looks;
  changes = λ member x. elim x [
    | inl is ↦ subst (λ (q : ℕ). HasChanges first w.cluster.disk.cluster (w.stored q)) (sym is) may
    | inr in_w ↦ i.changes member in_w
  ];
}
waiting_disks_keep first w (Leave server) may i = record {
  disks = i.disks;
  looks = i.looks;
  changes = λ member x. i.changes member (was_member member server w.members x);
}
waiting_disks_keep first w (Store server log) may i = record {
  disks = i.disks;
  looks = i.looks;
  changes = HasChanges-stored first w.cluster.disk.cluster w.stored w.members server log may i.changes;
}
waiting_disks_keep first w (Do action) may i = record {
  disks = (disk_action_keeps first w.cluster action (allowed_do first w action may i) i.disks).0;
  looks = looks_do w.cluster action ∙ i.looks;
  changes = changes_do first w action may i;
}

allowed_on_disk : (first : Configuration) (w : WaitingDisks) (actions : List WaitingDiskAction) → AreAllowedWaitingOnDisk first w actions → AreWaitingDisks first w → AreAllowedOnDisk first w.cluster (done actions)
allowed_on_disk first w [] allowed i = tt
allowed_on_disk first w (Join server ∷ actions) allowed i = grind (arith, waiting_disks_keep, allowed_on_disk first (after_waiting_on_disk w (Join server)) actions allowed.1 (waiting_disks_keep first w (Join server) allowed.0 i))
allowed_on_disk first w (Leave server ∷ actions) allowed i = grind (arith, waiting_disks_keep, allowed_on_disk first (after_waiting_on_disk w (Leave server)) actions allowed.1 (waiting_disks_keep first w (Leave server) allowed.0 i))
allowed_on_disk first w (Store server log ∷ actions) allowed i = grind (arith, waiting_disks_keep, allowed_on_disk first (after_waiting_on_disk w (Store server log)) actions allowed.1 (waiting_disks_keep first w (Store server log) allowed.0 i))
allowed_on_disk first w (Do action ∷ actions) allowed i = grind (arith, allowed_do, waiting_disks_keep, allowed_on_disk first (after_waiting_on_disk w (Do action)) actions allowed.1 (waiting_disks_keep first w (Do action) allowed.0 i))

pub AreAllowedOnDisk-waiting : (first : Configuration) (actions : List WaitingDiskAction) → AreAllowedWaitingOnDisk first new_waiting_disks actions
    → AreAllowedOnDisk first (new_disk_cluster (λ server. true)) (done actions)
AreAllowedOnDisk-waiting first actions allowed =
    allowed_on_disk first new_waiting_disks actions allowed (record { disks = new_holds_disk first (λ server. true); looks = refl; changes = λ m x. absurd x })
