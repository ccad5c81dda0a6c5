-- The theorem for etcd's rules: the invariants hold before anything happens, each action keeps them, and the claims follow.
use Rattle.std.proofs.Common.{ℕ, ◌+◌, List, ◌++◌, sym, subst, inl, inr, arith}
use Rattle.std.specs.Prelude.{Bool}
use Rattle.conf_change.specs.Configuration.{Configuration}
use Rattle.raft_safety.specs.Logs.{Log}
use Rattle.raft_safety.specs.Cluster.{Leads}
use Rattle.raft_safety.specs.EtcdCluster.{Candidacy, EtcdCluster, new_etcd_cluster}
use Rattle.raft_safety.specs.EtcdRules.{EtcdAction, Campaign, SeeTerm, GrantVote, BecomeLeader, Propose, Send, Receive, Answer, Heartbeat, Commit, Apply, Restart, IsAllowedByEtcd}
use Rattle.raft_safety.specs.EtcdRuns.{after_etcd_action, after_etcd_actions, AreAllowedByEtcd}
use Rattle.raft_safety.specs.EtcdClaims.{AppliedIsCommitted, IsAppliedIn, ApplyOneLog}
use Rattle.raft_safety.proofs.Growth.{IsKnown-prefix}
use Rattle.raft_safety.proofs.Invariants.{IsKnown, IsElectedWith-leads}
use Rattle.raft_safety.proofs.Claims.{AreCommitmentsKept, AreClaims, IsKnown-two_states}
use Rattle.raft_safety.proofs.Runs.{all-keep, allowed-first, commitments-kept, claims-of_run}
use Rattle.raft_safety.proofs.Theorem.{AreInvariants-new}
use Rattle.raft_safety.proofs.Etcd.Invariants.{AreEtcdInvariants}
use Rattle.raft_safety.proofs.Etcd.ServerActions.{campaign-keeps_etcd, see_term-keeps_etcd, grant_vote-keeps_etcd, take-keeps, answer-keeps, heartbeat-keeps, restart-keeps_etcd}
use Rattle.raft_safety.proofs.Etcd.LeaderActions.{become_leader-keeps_etcd, propose-keeps_etcd, send-keeps, commit-keeps_etcd, apply-keeps}

-- ---- every state that is reached
pub new_holds : (first : Configuration) (looks : ℕ → Bool) → AreEtcdInvariants first (new_etcd_cluster looks)
new_holds first looks = grind (arith, AreInvariants-new)

pub action_keeps : (first : Configuration) (e : EtcdCluster) (action : EtcdAction) → IsAllowedByEtcd first e action → AreEtcdInvariants first e → AreEtcdInvariants first (after_etcd_action e action)
action_keeps first e (Campaign server term applied) may i = campaign-keeps_etcd first e server term applied may i
action_keeps first e (SeeTerm server term) may i = see_term-keeps_etcd first e server term may i
action_keeps first e (GrantVote voter request) may i = grant_vote-keeps_etcd first e voter request may i
action_keeps first e (BecomeLeader candidacy votes) may i = become_leader-keeps_etcd first e candidacy votes may i
action_keeps first e (Propose term leader entry) may i = propose-keeps_etcd first e term leader entry may i
action_keeps first e (Send term leader before entries) may i = send-keeps first e term leader before entries may i
action_keeps first e (Receive server append) may i = take-keeps first e server append may i
action_keeps first e (Answer server term leader) may i = answer-keeps first e server term leader may i
action_keeps first e (Heartbeat server term leader known) may i = heartbeat-keeps first e server term leader known may i
action_keeps first e (Commit term leader log servers) may i = commit-keeps_etcd first e term leader log servers may i
action_keeps first e (Apply term leader log) may i = apply-keeps first e term leader log may i
action_keeps first e (Restart server known) may i = restart-keeps_etcd first e server known may i

pub actions_keep : (first : Configuration) (e : EtcdCluster) (actions : List EtcdAction) → AreAllowedByEtcd first e actions → AreEtcdInvariants first e → AreEtcdInvariants first (after_etcd_actions e actions)
actions_keep first = all-keep after_etcd_action (IsAllowedByEtcd first) (AreEtcdInvariants first) (action_keeps first)

reached : (first : Configuration) (looks : ℕ → Bool) (actions : List EtcdAction) → AreAllowedByEtcd first (new_etcd_cluster looks) actions → AreEtcdInvariants first (after_etcd_actions (new_etcd_cluster looks) actions)
reached first looks actions allowed = actions_keep first (new_etcd_cluster looks) actions allowed (new_holds first looks)

-- ---- the claims
stay : (e : EtcdCluster) (action : EtcdAction) → AreCommitmentsKept e.cluster (after_etcd_action e action).cluster
stay e (Commit term leader log servers) m x = inr x
stay e action m x = x

pub claims-reached_etcd : (first : Configuration) (looks : ℕ → Bool) (early late : List EtcdAction) → AreAllowedByEtcd first (new_etcd_cluster looks) (early ++ late)
    → AreClaims (after_etcd_actions (new_etcd_cluster looks) early).cluster (after_etcd_actions (new_etcd_cluster looks) (early ++ late)).cluster
claims-reached_etcd first looks =
    claims-of_run after_etcd_action (IsAllowedByEtcd first) (AreEtcdInvariants first) (action_keeps first) (λ e. e.cluster) (λ e action may i. stay e action) first (λ e i. i.core)
    (new_etcd_cluster looks) (new_holds first looks)

-- ---- what is applied
pub AppliedIsCommitted-reached_etcd : (first : Configuration) (looks : ℕ → Bool) (actions : List EtcdAction) → AreAllowedByEtcd first (new_etcd_cluster looks) actions → AppliedIsCommitted (after_etcd_actions (new_etcd_cluster looks) actions)
AppliedIsCommitted-reached_etcd first looks actions allowed term leader leads = ((reached first looks actions allowed).applied term leader leads).committed

-- what is applied was committed by a leader
known_applied : (first : Configuration) (e : EtcdCluster) → AreEtcdInvariants first e → (log : Log) → IsAppliedIn e log → (bound : ℕ) × IsKnown e.cluster bound log
known_applied first e i log (inl at) =
    let leads : Leads e.cluster at.0 at.1 = at.2 in (
      leads.0.request.term + 1,
      subst (IsKnown e.cluster (leads.0.request.term + 1)) (sym at.3)
          (IsKnown-prefix e.cluster (leads.0.request.term + 1) (e.applied at.0 at.1) (e.cluster.leaderships at.0 at.1).committed (i.applied at.0 at.1 leads).committed
          (IsElectedWith-leads first e.cluster i.core at.0 at.1 leads).known),
    )
known_applied first e i log (inr at) =
    let k : Candidacy = at.0 in
    let its = i.candidacies k at.1 in (
      k.request.term,
      subst (IsKnown e.cluster k.request.term) (sym at.2)
          (IsKnown-prefix e.cluster k.request.term k.applied k.request.committed its.counts.part (i.core.requests k.request its.asked).known),
    )

pub ApplyOneLog-reached_etcd : (first : Configuration) (looks : ℕ → Bool) (early late : List EtcdAction) → AreAllowedByEtcd first (new_etcd_cluster looks) (early ++ late)
    → ApplyOneLog (after_etcd_actions (new_etcd_cluster looks) early) (after_etcd_actions (new_etcd_cluster looks) (early ++ late))
ApplyOneLog-reached_etcd first looks early late allowed one other at_one at_other =
    let before = allowed-first after_etcd_action (IsAllowedByEtcd first) (new_etcd_cluster looks) early late allowed in
    let a = known_applied first (after_etcd_actions (new_etcd_cluster looks) early) (reached first looks early before) one at_one in
    let b = known_applied first (after_etcd_actions (new_etcd_cluster looks) (early ++ late)) (reached first looks (early ++ late) allowed) other at_other in
    IsKnown-two_states first (after_etcd_actions (new_etcd_cluster looks) early).cluster (after_etcd_actions (new_etcd_cluster looks) (early ++ late)).cluster (reached first looks (early ++ late) allowed).core
    (commitments-kept after_etcd_action (IsAllowedByEtcd first) (AreEtcdInvariants first) (action_keeps first) (λ e. e.cluster) (λ e action may i. stay e action)
    (new_etcd_cluster looks) early late allowed (new_holds first looks))
    a.0 b.0 one other a.1 b.1
