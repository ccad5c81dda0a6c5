-- Waiting where memory and disk are apart: members campaign, and leaders propose, as in Waiting.antt, but that only members
-- propose changes of the voters; all else is as in DiskRules.antt for servers that look at their own log, which need keep no
-- commit index. These do not look. A leader that is not a member may commit.
use Rattle.std.specs.Prelude.{◌≡◌, ℕ, ◌<◌, ◌⊎◌, true, List, [], ◌∷◌}
use Rattle.conf_change.specs.Configuration.{Configuration}
use Rattle.raft_safety.specs.Runs.{AreAllAllowed}
use Rattle.raft_safety.specs.Logs.{Entry, Log, IsPrefix}
use Rattle.raft_safety.specs.Configurations.{voter_changes}
use Rattle.raft_safety.specs.Cluster.{In, Leads, with_value}
use Rattle.raft_safety.specs.DiskCluster.{DiskCluster, in_memory, new_disk_cluster}
use Rattle.raft_safety.specs.DiskRules.{DiskAction, Campaign, Propose, IsAllowedOnDisk}
use Rattle.raft_safety.specs.DiskRuns.{after_disk_action}
use Rattle.raft_safety.specs.Waiting.{HasChanges, HaveStored, without}

-- a cluster; up to where each server has applied and stored that, so that no crash takes it back; and the members, who may
-- campaign and propose changes of the voters
pub record WaitingDisks : Type 0 where
  pub cluster : DiskCluster
  pub stored : ℕ → Log
  pub members : List ℕ

-- no server keeps a commit index
abbrev pub new_waiting_disks : WaitingDisks
new_waiting_disks = record { cluster = new_disk_cluster (λ server. true); stored = λ server. []; members = [] }

pub data WaitingDiskAction : Type 0 where
  Join : (server : ℕ) → WaitingDiskAction
  Leave : (server : ℕ) → WaitingDiskAction
  Store : (server : ℕ) → (log : Log) → WaitingDiskAction
  Do : (action : DiskAction) → WaitingDiskAction

-- a member may campaign, whatever it knows to be committed and has not applied
pub record MayCampaignStored (w : WaitingDisks) (server term : ℕ) : Type 0 where
  pub later : (in_memory w.cluster server).term < term
  pub member : In server w.members
  -- what is stored is applied, and what is applied is committed
  pub stored : IsPrefix (w.stored server) (w.cluster.applied server)
  pub committed : IsPrefix (w.cluster.applied server) (in_memory w.cluster server).committed

-- a leader may propose an entry; a change of the voters only while it is a member that has applied what it has stored, and when
-- each member has stored all earlier ones
pub record MayProposeStored (first : Configuration) (w : WaitingDisks) (term leader : ℕ) (entry : Entry) : Type 0 where
  pub leads : Leads w.cluster.disk.cluster term leader
  pub own_term : entry.term ≡ term
  pub waits : let log = (w.cluster.disk.cluster.leaderships term leader).log in
      (voter_changes first (entry ∷ log) ≡ voter_changes first log)
      ⊎ (In leader w.members × IsPrefix (w.stored leader) (w.cluster.disk.applied term leader)
      × HaveStored first log w.stored w.members)

abbrev pub IsAllowedWaitingOnDisk : Configuration → WaitingDisks → WaitingDiskAction → Type 0
IsAllowedWaitingOnDisk first w (Join server) = HasChanges first w.cluster.disk.cluster (w.stored server)
IsAllowedWaitingOnDisk first w (Leave server) = Unit {0}
IsAllowedWaitingOnDisk first w (Store server log) = IsPrefix (w.stored server) log
IsAllowedWaitingOnDisk first w (Do (Campaign server term)) = MayCampaignStored w server term
IsAllowedWaitingOnDisk first w (Do (Propose term leader entry)) = MayProposeStored first w term leader entry
IsAllowedWaitingOnDisk first w (Do action) = IsAllowedOnDisk first w.cluster action

abbrev pub after_waiting_on_disk : WaitingDisks → WaitingDiskAction → WaitingDisks
after_waiting_on_disk w (Join server) = record w { members = server ∷ w.members }
after_waiting_on_disk w (Leave server) = record w { members = without server w.members }
after_waiting_on_disk w (Store server log) = record w { stored = with_value w.stored server log }
after_waiting_on_disk w (Do action) = record w { cluster = after_disk_action w.cluster action }

abbrev pub AreAllowedWaitingOnDisk : Configuration → WaitingDisks → List WaitingDiskAction → Type 0
AreAllowedWaitingOnDisk first = AreAllAllowed after_waiting_on_disk (IsAllowedWaitingOnDisk first)

-- what is done to the cluster
abbrev pub done : List WaitingDiskAction → List DiskAction
done [] = []
done (Do action ∷ actions) = action ∷ done actions
done (Join server ∷ actions) = done actions
done (Leave server ∷ actions) = done actions
done (Store server log ∷ actions) = done actions
