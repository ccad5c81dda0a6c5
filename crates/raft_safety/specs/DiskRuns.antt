-- What actions leave where memory and disk are apart, and runs of them.
use Rattle.std.specs.Prelude.{ℕ, Bool, List, [], ◌∷◌, ◌++◌}
use Rattle.conf_change.specs.Configuration.{Configuration}
use Rattle.raft_safety.specs.Runs.{after_all, AfterEach, AreAllAllowed, AtTwo}
use Rattle.raft_safety.specs.Logs.{Log}
use Rattle.raft_safety.specs.Cluster.{with_value}
use Rattle.raft_safety.specs.Steps.{after_action}
use Rattle.raft_safety.specs.Steps as core
use Rattle.raft_safety.specs.EtcdCluster.{EtcdCluster}
use Rattle.raft_safety.specs.EtcdRules.{EtcdAction}
use Rattle.raft_safety.specs.EtcdRules as etcd
use Rattle.raft_safety.specs.EtcdRuns.{commitment_of, after_etcd_action, after_etcd_actions}
use Rattle.raft_safety.specs.DiskCluster.{DiskCluster, new_disk_cluster}
use Rattle.raft_safety.specs.DiskRules.{DiskAction, Campaign, Take, Save, Say, Lead, Propose, Send, Raise, Use, ApplyAsLeader, Apply, Crash, IsAllowedOnDisk}

-- the cluster after the server has done something in memory
abbrev pub with_unsaved : DiskCluster → ℕ → EtcdAction → DiskCluster
with_unsaved d server action = record d { unsaved = with_value d.unsaved server (d.unsaved server ++ (action ∷ [])) }

-- the disks after a server has saved what it did, and the commit index
abbrev pub after_save : EtcdCluster → ℕ → List EtcdAction → Log → EtcdCluster
after_save e server saved commit =
    let after = after_etcd_actions e saved in
    record after { durable = with_value after.durable server commit }

-- what an action of EtcdRules.antt leaves, on disk at once
abbrev pub on_disk : DiskCluster → EtcdAction → DiskCluster
on_disk d action = record d { disk = after_etcd_action d.disk action }

-- what an action leaves. A candidate counts votes by the configuration in force
abbrev pub after_disk_action : DiskCluster → DiskAction → DiskCluster
after_disk_action d (Campaign server term) = with_unsaved d server (etcd.Campaign server term (d.configured server))
after_disk_action d (Take server action) = with_unsaved d server action
after_disk_action d (Save server saved rest commit) =
    record d { disk = after_save d.disk server saved commit; unsaved = with_value d.unsaved server rest }
after_disk_action d (Say message) = record d { said = message ∷ d.said }
after_disk_action d (Lead candidacy votes) = on_disk d (etcd.BecomeLeader candidacy votes)
after_disk_action d (Propose term leader entry) = on_disk d (etcd.Propose term leader entry)
after_disk_action d (Send term leader before entries) = on_disk d (etcd.Send term leader before entries)
after_disk_action d (Raise term leader log servers) =
    let commitment = commitment_of d.disk term leader log servers in
    record d { raised = record { leader = leader; commitment = commitment } ∷ d.raised }
after_disk_action d (Use raised) =
    let e = d.disk in
    record d { disk = record e { cluster = after_action e.cluster (core.Commit raised.leader raised.commitment) } }
after_disk_action d (ApplyAsLeader term leader log) =
    record (on_disk d (etcd.Apply term leader log)) { given = record { server = leader; log = log } ∷ d.given }
after_disk_action d (Apply server log) = record d {
  given = record { server = server; log = log } ∷ d.given;
  applied = with_value d.applied server log;
  configured = with_value d.configured server log;
}
after_disk_action d (Crash server known applied configured) = record d {
  disk = after_etcd_action d.disk (etcd.Restart server known);
  unsaved = with_value d.unsaved server [];
  applied = with_value d.applied server applied;
  configured = with_value d.configured server configured;
}

abbrev pub after_disk_actions : DiskCluster → List DiskAction → DiskCluster
after_disk_actions = after_all after_disk_action

abbrev pub AreAllowedOnDisk : Configuration → DiskCluster → List DiskAction → Type 0
AreAllowedOnDisk first = AreAllAllowed after_disk_action (IsAllowedOnDisk first)

-- the claim holds after each run that the rules allow, whatever the first configuration is, and whichever servers look at their
-- own log before they campaign
abbrev pub AfterEachDiskRun : (DiskCluster → Type 0) → Type 0
AfterEachDiskRun Claim =
    (first : Configuration) (looks : ℕ → Bool)
    → AfterEach after_disk_action (IsAllowedOnDisk first) (new_disk_cluster looks) Claim

-- the claim holds of an earlier moment of each such run and its end
abbrev pub AtTwoDiskMoments : (DiskCluster → DiskCluster → Type 0) → Type 0
AtTwoDiskMoments Claim =
    (first : Configuration) (looks : ℕ → Bool)
    → AtTwo after_disk_action (IsAllowedOnDisk first) (new_disk_cluster looks) Claim
