-- Each action keeps the invariants, and leaves more on disk and with leaders.
use Rattle.std.proofs.Common.{◌≡◌, ℕ, ◌+◌, ◌≤◌, true, false, List, [], ◌∷◌, ◌++◌, refl, sym, ap, subst, inl, inr, arith}
use Rattle.std.specs.Prelude.{Bool}
use Rattle.std.proofs.lemmas.Bool.{cases_eq}
use Rattle.quorum_sets.specs.Ids.{Ids, has}
use Rattle.conf_change.specs.Configuration.{Configuration}
use Rattle.raft_safety.specs.Logs.{Entry, Log, IsPrefix}
use Rattle.raft_safety.specs.Configurations.{IsOneChangeBeyond, voter_changes}
use Rattle.raft_safety.specs.Cluster.{Commitment, Cluster, Server, In, with_value, HasAcknowledged}
use Rattle.raft_safety.specs.Steps.{MayCommit, after_action}
use Rattle.raft_safety.specs.Steps as core
use Rattle.raft_safety.specs.EtcdCluster.{Candidacy, EtcdCluster}
use Rattle.raft_safety.specs.EtcdRules.{EtcdAction, MayBecomeLeaderApplied, MayCampaignApplied, MayProposeApplied, MaySend, MayApply}
use Rattle.raft_safety.specs.EtcdRules as etcd
use Rattle.raft_safety.specs.EtcdRuns.{commitment_of, after_etcd_action, after_etcd_actions, AreAllowedByEtcd}
use Rattle.raft_safety.specs.DiskCluster.{Message, Raised, Given, DiskCluster, memory, in_memory}
use Rattle.raft_safety.specs.DiskRules.{DiskAction, Campaign, Take, Save, Say, Lead, Propose, Send, Raise, Use, ApplyAsLeader, Apply, Crash, IsOwn, MaySave, MaySay, MayLead, MayRaise, MayUse, MayApplyInMemory, MayCrash, IsAllowedOnDisk}
use Rattle.raft_safety.specs.DiskRuns.{with_unsaved, after_save, after_disk_action}
use Rattle.raft_safety.proofs.Configurations.{voter_changes-prefix}
use Rattle.raft_safety.proofs.Updates.{with_value-each}
use Rattle.raft_safety.proofs.Runs.{allowed-first, allowed-then, allowed-both}
use Rattle.raft_safety.proofs.Growth.{IsKnown-prefix}
use Rattle.raft_safety.proofs.Invariants.{IsKnown, IsElectedWith-leads, log_of}
use Rattle.raft_safety.proofs.Steps.Commit.{commit-rises}
use Rattle.raft_safety.proofs.Etcd.Invariants.{IsDurable, AreEtcdInvariants}
use Rattle.raft_safety.proofs.Etcd.Growth.{with_value-both, DoLeadersGrow, become_leader-grows, propose-grows, commit-grows}
use Rattle.raft_safety.proofs.Etcd.ServerActions.{restart-keeps_etcd}
use Rattle.raft_safety.proofs.Etcd.LeaderActions.{become_leader-keeps_etcd, propose-keeps_etcd, send-keeps, commitment-keeps, apply-keeps}
use Rattle.raft_safety.proofs.Etcd.Theorem.{actions_keep}
use Rattle.raft_safety.proofs.Disk.Memory.{GoesOn, GoesOn-refl, GoesOn-sent, AreOwn, all_allowed_later, all_beside, changed_beside, new_state}
use Rattle.raft_safety.proofs.Disk.Invariants.{IsRaised, AreDiskInvariants, Grows, Grows-refl, leaders_stay, all_own_grow, known_on_disk, looks-stay, IsSaved-later, IsRaised-later, IsKnown-later}

-- ---- lists of actions
own_both : (server : ℕ) (one other : List EtcdAction) → AreOwn server one → AreOwn server other → AreOwn server (one ++ other)
own_both server [] other a b = b
own_both server (action ∷ one) other a b = (a.0, own_both server one other a.1 b)

pub own_first : (server : ℕ) (one other : List EtcdAction) → AreOwn server (one ++ other) → AreOwn server one
own_first server [] other a = tt
own_first server (action ∷ one) other a = (a.0, own_first server one other a.1)

own_rest : (server : ℕ) (one other : List EtcdAction) → AreOwn server (one ++ other) → AreOwn server other
own_rest server [] other a = a
own_rest server (action ∷ one) other a = own_rest server one other a.1

-- ---- what all steps of the disks and of leaders share
-- where each server goes on with what it has done in memory
goes_over : (first : Configuration) (d : DiskCluster) (f : EtcdCluster) → AreDiskInvariants first d → AreEtcdInvariants first f → Grows d.disk.cluster f.cluster
    → ((k : ℕ) → GoesOn k d.disk f) → AreDiskInvariants first (record d { disk = f })
goes_over first d f i disk g on = record {
  disk = disk;
  own = i.own;
  allowed = λ k. all_allowed_later first k d.disk f (on k) (d.unsaved k) (i.own k) (i.allowed k);
  said = λ m x. IsSaved-later d.disk f g m (i.said m x);
  raised = λ r x. IsRaised-later first d.disk.cluster f.cluster g r.leader r.commitment (i.raised r x);
  given = λ v x. let its = i.given v x in (its.0, IsKnown-later d.disk.cluster f.cluster g its.0 v.log its.1);
  configured = i.configured;
}

-- where one server has other things left to save, and the others go on
goes_over_at : (first : Configuration) (d : DiskCluster) (f : EtcdCluster) (server : ℕ) (rest : List EtcdAction) → AreDiskInvariants first d → AreEtcdInvariants first f
    → Grows d.disk.cluster f.cluster → AreOwn server rest → AreAllowedByEtcd first f rest → ((k : ℕ) → (k ≡ server → ⊥) → GoesOn k d.disk f)
    → AreDiskInvariants first (record d { disk = f; unsaved = with_value d.unsaved server rest })
goes_over_at first d f server rest i disk g own allowed on = record {
  disk = disk;
  own = λ k. with_value-each (AreOwn k) d.unsaved server rest k (λ same. subst (λ (q : ℕ). AreOwn q rest) (sym same) own) (λ other. i.own k);
  allowed = λ k. with_value-each (AreAllowedByEtcd first f) d.unsaved server rest k (λ same. allowed)
      (λ other. all_allowed_later first k d.disk f (on k other) (d.unsaved k) (i.own k) (i.allowed k));
  said = λ m x. IsSaved-later d.disk f g m (i.said m x);
  raised = λ r x. IsRaised-later first d.disk.cluster f.cluster g r.leader r.commitment (i.raised r x);
  given = λ v x. let its = i.given v x in (its.0, IsKnown-later d.disk.cluster f.cluster g its.0 v.log its.1);
  configured = i.configured;
}

-- what a leader does is nothing that servers see, but that it leads and commits more
leader_acts : (first : Configuration) (d : DiskCluster) (h : Cluster) (applied : ℕ → ℕ → Log) → AreDiskInvariants first d → AreEtcdInvariants first (record d.disk { cluster = h; applied = applied })
    → DoLeadersGrow d.disk.cluster h → h.servers ≡ d.disk.cluster.servers → h.votes ≡ d.disk.cluster.votes → h.requests ≡ d.disk.cluster.requests → h.acknowledgements ≡ d.disk.cluster.acknowledgements
    → ((m : Commitment) → In m d.disk.cluster.commitments → In m h.commitments)
    → AreDiskInvariants first (record d { disk = record d.disk { cluster = h; applied = applied } }) × Grows d.disk.cluster h
leader_acts first d h applied i disk leaders servers votes requests acknowledgements commitments =
    let e : EtcdCluster = d.disk in
    let g : Grows e.cluster h = record {
      leaders = leaders;
      requests = λ r x. subst (In r) (sym requests) x;
      votes = λ v x. subst (In v) (sym votes) x;
      acknowledgements = λ a x. subst (In a) (sym acknowledgements) x;
      commitments = commitments;
    } in (
      goes_over first d (record e { cluster = h; applied = applied }) i disk g (λ k. record {
        same = ap (λ (f : ℕ → Server). f k) servers;
        looks = refl;
        own_votes = λ v x o. subst (In v) votes x;
        requests = g.requests;
        appends = λ a x. x;
        acknowledgements = g.acknowledgements;
        leads = leaders.leads;
        committed = leaders.committed;
      }),
      g,
    )

-- ---- in memory
unsaved-keeps : (first : Configuration) (d : DiskCluster) (server : ℕ) (action : EtcdAction) → AreDiskInvariants first d → IsOwn server action → etcd.IsAllowedByEtcd first (memory d server) action
    → AreDiskInvariants first (with_unsaved d server action)
unsaved-keeps first d server action i own may =
    let more : List EtcdAction = d.unsaved server ++ (action ∷ []) in
    record {
      disk = i.disk;
      own = λ k. with_value-each (AreOwn k) d.unsaved server more k
          (λ same. subst (λ (q : ℕ). AreOwn q more) (sym same) (own_both server (d.unsaved server) (action ∷ []) (i.own server) (own, tt))) (λ other. i.own k);
      allowed = λ k. with_value-each (AreAllowedByEtcd first d.disk) d.unsaved server more k
          (λ same. allowed-both after_etcd_action (etcd.IsAllowedByEtcd first) d.disk (d.unsaved server) (action ∷ []) (i.allowed server) (may, tt)) (λ other. i.allowed k);
      said = i.said;
      raised = i.raised;
      given = i.given;
      configured = i.configured;
    }

campaign-keeps_disk : (first : Configuration) (d : DiskCluster) (server term : ℕ) → MayCampaignApplied first (memory d server) server term (d.applied server) → AreDiskInvariants first d
    → AreDiskInvariants first (with_unsaved d server (etcd.Campaign server term (d.configured server)))
campaign-keeps_disk first d server term may i =
    unsaved-keeps first d server (etcd.Campaign server term (d.configured server)) i refl
    (subst (λ (x : Log). MayCampaignApplied first (memory d server) server term x) (sym (i.configured server)) may)

-- ---- on disk
-- a commit index is durable if at most one change of the log is beyond it
durable-keeps : (first : Configuration) (e : EtcdCluster) (server : ℕ) (commit : Log) → AreEtcdInvariants first e → IsPrefix commit (e.cluster.servers server).committed
    → (e.looks server ≡ false → IsOneChangeBeyond first (e.cluster.servers server).log commit) → AreEtcdInvariants first (record e { durable = with_value e.durable server commit })
durable-keeps first e server commit i committed few = grind (arith, with_value-each, IsDurable)

save-keeps : (first : Configuration) (d : DiskCluster) (server : ℕ) (saved rest : List EtcdAction) (commit : Log) → MaySave first d server saved rest commit → AreDiskInvariants first d
    → AreDiskInvariants first (after_disk_action d (Save server saved rest commit)) × Grows d.disk.cluster (after_disk_action d (Save server saved rest commit)).disk.cluster
save-keeps first d server saved rest commit may i =
    let after : EtcdCluster = after_etcd_actions d.disk saved in
    let f : EtcdCluster = after_save d.disk server saved commit in
    let order : d.unsaved server ≡ saved ++ rest = (let it = may.in_order in cc) in
    let own : AreOwn server (saved ++ rest) = subst (AreOwn server) order (i.own server) in
    let allowed : AreAllowedByEtcd first d.disk (saved ++ rest) = subst (AreAllowedByEtcd first d.disk) order (i.allowed server) in
    let own_saved : AreOwn server saved = own_first server saved rest own in
    let own_left : AreOwn server rest = own_rest server saved rest own in
    let kept : AreEtcdInvariants first after = actions_keep first d.disk saved (allowed-first after_etcd_action (etcd.IsAllowedByEtcd first) d.disk saved rest allowed) i.disk in
    let grown : Grows d.disk.cluster after.cluster = all_own_grow server d.disk saved own_saved in
    let g : Grows d.disk.cluster f.cluster = record { leaders = grown.leaders; requests = grown.requests; votes = grown.votes; acknowledgements = grown.acknowledgements; commitments = grown.commitments } in
    let durable : ℕ → Log = with_value after.durable server commit in (
      goes_over_at first d f server rest i (durable-keeps first after server commit kept may.committed (λ not. may.commit_kept (subst (λ (h : ℕ → Bool). h server ≡ false) (looks-stay d.disk saved) not))) g own_left
          (all_allowed_later first server after f (GoesOn-refl server after) rest own_left (allowed-then after_etcd_action (etcd.IsAllowedByEtcd first) d.disk saved rest allowed))
          (λ k other. all_beside server k other d.disk saved own_saved),
      g,
    )

say-keeps : (first : Configuration) (d : DiskCluster) (message : Message) → MaySay d message → AreDiskInvariants first d → AreDiskInvariants first (record d { said = message ∷ d.said })
say-keeps first d message may i = grind arith

-- ---- leaders
lead-keeps : (first : Configuration) (d : DiskCluster) (k : Candidacy) (votes : Ids) → MayLead first d k votes → AreDiskInvariants first d
    → AreDiskInvariants first (after_disk_action d (Lead k votes)) × Grows d.disk.cluster (after_disk_action d (Lead k votes)).disk.cluster
lead-keeps first d k votes may i =
    let e : EtcdCluster = d.disk in
    let f : EtcdCluster = after_etcd_action e (etcd.BecomeLeader k votes) in
    let allowed : MayBecomeLeaderApplied first e k votes = record { asked = may.asked; not_yet = may.not_yet; voted = λ voter x. i.said _ (may.voted voter x); counted = may.counted; in_force = may.in_force; quorum = may.quorum } in
    leader_acts first d f.cluster f.applied i (become_leader-keeps_etcd first e k votes allowed i.disk) (become_leader-grows e.cluster k.request votes may.not_yet) refl refl refl refl (λ m x. x)

propose-keeps_disk : (first : Configuration) (d : DiskCluster) (term leader : ℕ) (entry : Entry) → MayProposeApplied first d.disk term leader entry → AreDiskInvariants first d
    → AreDiskInvariants first (after_disk_action d (Propose term leader entry)) × Grows d.disk.cluster (after_disk_action d (Propose term leader entry)).disk.cluster
propose-keeps_disk first d term leader entry may i =
    let e : EtcdCluster = d.disk in
    leader_acts first d (after_etcd_action e (etcd.Propose term leader entry)).cluster e.applied i (propose-keeps_etcd first e term leader entry may i.disk)
    (propose-grows e.cluster term leader entry) refl refl refl refl (λ m x. x)

send-keeps_disk : (first : Configuration) (d : DiskCluster) (term leader : ℕ) (before entries : Log) → MaySend d.disk term leader before entries → AreDiskInvariants first d
    → AreDiskInvariants first (after_disk_action d (Send term leader before entries)) × Grows d.disk.cluster (after_disk_action d (Send term leader before entries)).disk.cluster
send-keeps_disk first d term leader before entries may i =
    let e : EtcdCluster = d.disk in
    let f : EtcdCluster = after_etcd_action e (etcd.Send term leader before entries) in (
      goes_over first d f i (send-keeps first e term leader before entries may i.disk) (Grows-refl e.cluster)
          (λ k. GoesOn-sent k e.cluster e.appends f.appends e.looks (λ a x. inr x)),
      Grows-refl e.cluster,
    )

-- a commit index rises in memory: what is counted of others was said, and so is on disk there
raise-keeps : (first : Configuration) (d : DiskCluster) (term leader : ℕ) (log : Log) (servers : Ids) → MayRaise first d term leader log servers → AreDiskInvariants first d
    → AreDiskInvariants first (after_disk_action d (Raise term leader log servers))
raise-keeps first d term leader log servers may i =
    let e : EtcdCluster = d.disk in
    let c : Cluster = e.cluster in
    let m : Commitment = commitment_of e term leader log servers in
    let its = i.disk.applied term leader may.leads in
    let few : voter_changes first (log_of c term leader) ≤ voter_changes first (e.applied term leader) + 1 = its.one_change_beyond in
    let part : voter_changes first log ≤ voter_changes first (log_of c term leader) = voter_changes-prefix first log (log_of c term leader) may.in_log in
    let new : IsRaised first c leader m = record {
      leads = may.leads;
      in_log = may.in_log;
      own_term = may.own_term;
      acknowledged = λ server counts other.
          let a = may.acknowledged server counts other in
          (a.0, i.said _ a.1, a.2);
      counted = its.committed;
      one_change_beyond = omega arith;
      quorum = may.quorum;
    } in
    record {
      disk = i.disk;
      own = i.own;
      allowed = i.allowed;
      said = i.said;
      raised = λ r x. elim x [ inl is ↦ subst (λ (q : Raised). IsRaised first c q.leader q.commitment) (sym is) new | inr in_d ↦ i.raised r in_d ];
      given = i.given;
      configured = i.configured;
    }

-- it is used: then all that it counted is on disk, and it is a commitment of Steps.antt
use-keeps : (first : Configuration) (d : DiskCluster) (raised : Raised) → MayUse d raised → AreDiskInvariants first d
    → AreDiskInvariants first (after_disk_action d (Use raised)) × Grows d.disk.cluster (after_disk_action d (Use raised)).disk.cluster
use-keeps first d raised may i =
    let e : EtcdCluster = d.disk in
    let c : Cluster = e.cluster in
    let leader : ℕ = raised.leader in
    let m : Commitment = raised.commitment in
    let its : IsRaised first c leader m = i.raised raised may.rose in
    let h : Cluster = after_action c (core.Commit leader m) in
    let allowed : MayCommit first c leader m = record {
      leads = its.leads;
      longer_than = may.rises;
      in_log = its.in_log;
      own_term = its.own_term;
      acknowledged = λ server counts. elim (cases_eq server leader) [
        | inl same ↦ subst (λ (q : ℕ). HasAcknowledged c m.term q m.log) (sym same) (may.own_saved (subst (λ (q : ℕ). has m.servers q ≡ true) same counts))
        | inr other ↦ its.acknowledged server counts other
      ];
      counted = its.counted;
      one_change_beyond = its.one_change_beyond;
      quorum = its.quorum;
    } in
    leader_acts first d h e.applied i (commitment-keeps first e leader m allowed i.disk) (commit-grows c leader m (commit-rises first c leader m allowed i.disk.core)) refl refl refl refl (λ n x. inr x)

-- ---- what applications are given
given-keeps : (first : Configuration) (d : DiskCluster) (server : ℕ) (log : Log) → AreDiskInvariants first d → (bound : ℕ) × IsKnown d.disk.cluster bound log
    → (given : Given) → In given (record { server = server; log = log } ∷ d.given) → (bound : ℕ) × IsKnown d.disk.cluster bound given.log
given-keeps first d server log i known given x = elim x [
  | inl is ↦ (known.0, subst (IsKnown d.disk.cluster known.0) (sym (ap (λ (q : Given). q.log) is)) known.1)
  | inr in_d ↦ i.given given in_d
]

apply_as_leader-keeps : (first : Configuration) (d : DiskCluster) (term leader : ℕ) (log : Log) → MayApply d.disk term leader log → AreDiskInvariants first d
    → AreDiskInvariants first (after_disk_action d (ApplyAsLeader term leader log))
apply_as_leader-keeps first d term leader log may i =
    let e : EtcdCluster = d.disk in
    let c : Cluster = e.cluster in
    let f : EtcdCluster = after_etcd_action e (etcd.Apply term leader log) in
    let over : AreDiskInvariants first (record d { disk = f }) =
    (leader_acts first d c f.applied i (apply-keeps first e term leader log may i.disk) (leaders_stay c c refl refl) refl refl refl refl (λ m x. x)).0 in
    let bound : ℕ = may.leads.0.request.term + 1 in
    record {
      disk = over.disk;
      own = over.own;
      allowed = over.allowed;
      said = over.said;
      raised = over.raised;
      given = given-keeps first d leader log i (bound, IsKnown-prefix c bound log (c.leaderships term leader).committed may.committed (IsElectedWith-leads first c i.disk.core term leader may.leads).known);
      configured = over.configured;
    }

-- what a server knows in memory to be committed was committed by a leader
pub known_in_memory : (first : Configuration) (d : DiskCluster) → AreDiskInvariants first d → (server : ℕ) → IsKnown d.disk.cluster ((in_memory d server).term + 1) (in_memory d server).committed
known_in_memory first d i server =
    let its = (actions_keep first d.disk (d.unsaved server) (i.allowed server) i.disk).core.servers server in
    known_on_disk server d.disk (d.unsaved server) (i.own server) ((in_memory d server).term + 1) (in_memory d server).committed its.known

apply-keeps_disk : (first : Configuration) (d : DiskCluster) (server : ℕ) (log : Log) → MayApplyInMemory d server log → AreDiskInvariants first d → AreDiskInvariants first (after_disk_action d (Apply server log))
apply-keeps_disk first d server log may i =
    let bound : ℕ = (in_memory d server).term + 1 in
    record {
      disk = i.disk;
      own = i.own;
      allowed = i.allowed;
      said = i.said;
      raised = i.raised;
      given = given-keeps first d server log i (bound, IsKnown-prefix d.disk.cluster bound log (in_memory d server).committed may.committed (known_in_memory first d i server));
      configured = λ k. with_value-both (λ (a b : Log). a ≡ b) d.configured d.applied server log log k (λ same. refl) (λ other. i.configured k);
    }

crash-keeps : (first : Configuration) (d : DiskCluster) (server : ℕ) (known applied configured : Log) → MayCrash d server known applied configured → AreDiskInvariants first d
    → AreDiskInvariants first (after_disk_action d (Crash server known applied configured)) × Grows d.disk.cluster (after_disk_action d (Crash server known applied configured)).disk.cluster
crash-keeps first d server known applied configured may i =
    let e : EtcdCluster = d.disk in
    let c : Cluster = e.cluster in
    let f : EtcdCluster = after_etcd_action e (etcd.Restart server known) in
    let g : Grows c f.cluster = record { leaders = leaders_stay c f.cluster refl refl; requests = λ r x. x; votes = λ v x. x; acknowledgements = λ a x. x; commitments = λ m x. x } in
    let over : AreDiskInvariants first (record d { disk = f; unsaved = with_value d.unsaved server [] }) =
    goes_over_at first d f server [] i (restart-keeps_etcd first e server known may.restarts i.disk) g tt tt (λ k other. changed_beside k server other (new_state (λ old. record old { committed = known })) e) in (
      record {
        disk = over.disk;
        own = over.own;
        allowed = over.allowed;
        said = over.said;
        raised = over.raised;
        given = over.given;
        configured = λ k. with_value-both (λ (a b : Log). a ≡ b) d.configured d.applied server configured applied k (λ same. may.configuration_of_applied) (λ other. i.configured k);
      },
      g,
    )

-- ---- every action
pub disk_action_keeps : (first : Configuration) (d : DiskCluster) (action : DiskAction) → IsAllowedOnDisk first d action → AreDiskInvariants first d
    → AreDiskInvariants first (after_disk_action d action) × Grows d.disk.cluster (after_disk_action d action).disk.cluster
disk_action_keeps first d (Campaign server term) may i = (campaign-keeps_disk first d server term may i, Grows-refl d.disk.cluster)
disk_action_keeps first d (Take server action) may i = (unsaved-keeps first d server action i may.own may.allowed, Grows-refl d.disk.cluster)
disk_action_keeps first d (Save server saved rest commit) may i = save-keeps first d server saved rest commit may i
disk_action_keeps first d (Say message) may i = (say-keeps first d message may i, Grows-refl d.disk.cluster)
disk_action_keeps first d (Lead candidacy votes) may i = lead-keeps first d candidacy votes may i
disk_action_keeps first d (Propose term leader entry) may i = propose-keeps_disk first d term leader entry may i
disk_action_keeps first d (Send term leader before entries) may i = send-keeps_disk first d term leader before entries may i
disk_action_keeps first d (Raise term leader log servers) may i = (raise-keeps first d term leader log servers may i, Grows-refl d.disk.cluster)
disk_action_keeps first d (Use raised) may i = use-keeps first d raised may i
disk_action_keeps first d (ApplyAsLeader term leader log) may i = (apply_as_leader-keeps first d term leader log may i, Grows-refl d.disk.cluster)
disk_action_keeps first d (Apply server log) may i = (apply-keeps_disk first d server log may i, Grows-refl d.disk.cluster)
disk_action_keeps first d (Crash server known applied configured) may i = crash-keeps first d server known applied configured may i
