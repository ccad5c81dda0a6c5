-- The theorem: the invariants hold before anything happens, each action keeps them, and the claims follow.
use Rattle.std.proofs.Common.{List, ◌++◌, inr, arith}
use Rattle.conf_change.specs.Configuration.{Configuration}
use Rattle.raft_safety.specs.Cluster.{Cluster, new_cluster}
use Rattle.raft_safety.specs.Steps.{Action, Campaign, SeeTerm, GrantVote, BecomeLeader, Learn, Propose, Receive, Commit, Restart, IsAllowed, AreAllowed, after_action, after_actions}
use Rattle.raft_safety.proofs.Invariants.{AreInvariants}
use Rattle.raft_safety.proofs.Steps.OneServer.{restart-keeps, see_term-keeps}
use Rattle.raft_safety.proofs.Steps.Campaign.{campaign-keeps}
use Rattle.raft_safety.proofs.Steps.GrantVote.{grant_vote-keeps}
use Rattle.raft_safety.proofs.Steps.BecomeLeader.{become_leader-keeps}
use Rattle.raft_safety.proofs.Steps.OneLeader.{learn-keeps, propose-keeps}
use Rattle.raft_safety.proofs.Steps.Receive.{receive-keeps}
use Rattle.raft_safety.proofs.Steps.Commit.{commit-keeps}
use Rattle.raft_safety.proofs.Claims.{AreCommitmentsKept, AreClaims}
use Rattle.raft_safety.proofs.Runs.{all-keep, claims-of_run}

-- ---- every state that is reached
pub AreInvariants-new : (first : Configuration) → AreInvariants first new_cluster
AreInvariants-new first = grind arith

action_keeps : (first : Configuration) (c : Cluster) (action : Action) → IsAllowed first c action → AreInvariants first c → AreInvariants first (after_action c action)
action_keeps first c (Campaign server term counted) may i = campaign-keeps first c server term counted may i
action_keeps first c (SeeTerm server term) may i = see_term-keeps first c server term may i
action_keeps first c (GrantVote voter request) may i = grant_vote-keeps first c voter request may i
action_keeps first c (BecomeLeader request votes) may i = become_leader-keeps first c request votes may i
action_keeps first c (Learn term leader known) may i = learn-keeps first c term leader known may i
action_keeps first c (Propose term leader entry) may i = propose-keeps first c term leader entry may i
action_keeps first c (Receive server term leader sent known after) may i = receive-keeps first c server term leader sent known after may i
action_keeps first c (Commit leader commitment) may i = commit-keeps first c leader commitment may i
action_keeps first c (Restart server known) may i = restart-keeps first c server known may i

pub AreInvariants-reached : (first : Configuration) (actions : List Action) → AreAllowed first new_cluster actions → AreInvariants first (after_actions new_cluster actions)
AreInvariants-reached first actions allowed = all-keep after_action (IsAllowed first) (AreInvariants first) (action_keeps first) new_cluster actions allowed (AreInvariants-new first)

-- ---- the claims
stay : (c : Cluster) (action : Action) → AreCommitmentsKept c (after_action c action)
stay c (Commit leader commitment) m x = inr x
stay c action m x = x

pub claims-reached : (first : Configuration) (early late : List Action) → AreAllowed first new_cluster (early ++ late) → AreClaims (after_actions new_cluster early) (after_actions new_cluster (early ++ late))
claims-reached first =
    claims-of_run after_action (IsAllowed first) (AreInvariants first) (action_keeps first) (λ c. c) (λ c action may i. stay c action) first (λ c i. i) new_cluster (AreInvariants-new first)
