-- Each action keeps the invariants.
use Rattle.std.proofs.Common.{ℕ, ◌+◌, ◌≤◌, refl, sym, subst, inl, inr, arith}
use Rattle.quorum_sets.specs.Ids.{Ids}
use Rattle.conf_change.specs.Configuration.{Configuration}
use Rattle.raft_safety.specs.Logs.{Entry, Log, IsPrefix, longer}
use Rattle.raft_safety.specs.Configurations.{voter_changes}
use Rattle.raft_safety.specs.Cluster.{Server, VoteRequest, Leadership, Commitment, Cluster, In, with_value}
use Rattle.raft_safety.specs.Steps.{MayBecomeLeader, MayLearn, MayReceive}
use Rattle.raft_safety.specs.Waiting.{HasChanges, WaitingCluster, WaitingAction, Join, Leave, Campaign, SeeTerm, GrantVote, BecomeLeader, Learn, Propose, Receive, Commit, Store, Crash, MayCampaignWaiting, MayLearnWaiting, MayProposeWaiting, MayCommitWaiting, IsBetween, IsAllowedWaiting, after_waiting}
use Rattle.raft_safety.proofs.Logs.{IsPrefix-refl, IsPrefix-trans, shorter-prefix, longer-each}
use Rattle.raft_safety.proofs.Configurations.{voter_changes-prefix}
use Rattle.raft_safety.proofs.Updates.{with_value-each}
use Rattle.raft_safety.proofs.Etcd.Growth.{with_value-both}
use Rattle.raft_safety.proofs.Invariants.{AreInvariants, log_of}
use Rattle.raft_safety.proofs.Safety.KnownCommitted.{IsKnown-in_leader}
use Rattle.raft_safety.proofs.Steps.OneServer.{see_term-keeps}
use Rattle.raft_safety.proofs.Steps.Campaign.{campaign-keeps}
use Rattle.raft_safety.proofs.Steps.OneLeader.{learn-keeps, propose-keeps}
use Rattle.raft_safety.proofs.Steps.GrantVote.{grant_vote-keeps}
use Rattle.raft_safety.proofs.Steps.BecomeLeader.{become_leader-keeps}
use Rattle.raft_safety.proofs.Steps.Receive.{receive-keeps}
use Rattle.raft_safety.proofs.Steps.Commit.{commit-keeps}
use Rattle.raft_safety.proofs.Waiting.Changes.{few_of, HasChanges-elected, HasChanges-proposed, HasChanges-same_log, HasChanges-stored, was_member}

-- ---- the invariants
pub record AreWaitingInvariants (first : Configuration) (w : WaitingCluster) : Type 0 where
  pub core : AreInvariants first w.cluster
  pub known : (server : ℕ) → IsPrefix (w.known server) (w.cluster.servers server).committed
  pub stored : (server : ℕ) → IsPrefix (w.stored server) (w.known server)
  pub changes : (member : ℕ) → In member w.members → HasChanges first w.cluster (w.stored member)

-- a server of which only the term has changed
term_keeps : (w : WaitingCluster) (server term : ℕ) → ((k : ℕ) → IsPrefix (w.known k) (w.cluster.servers k).committed)
    → (k : ℕ) → IsPrefix (w.known k) (with_value w.cluster.servers server (record (w.cluster.servers server) { term = term }) k).committed
term_keeps w server term known k = grind (arith, with_value-each, known)

campaign-keeps_waiting : (first : Configuration) (w : WaitingCluster) (server term : ℕ) (counted : Log) → MayCampaignWaiting w server term counted → AreWaitingInvariants first w
    → AreWaitingInvariants first (after_waiting w (Campaign server term counted))
campaign-keeps_waiting first w server term counted may i =
    let c : Cluster = w.cluster in
    let old : Server = c.servers server in
    let s1 : voter_changes first old.log ≤ voter_changes first (w.stored server) + 1 = few_of first c (w.stored server) (i.changes server may.member) old.log (i.core.servers server).from_leaders in
    let s2 : voter_changes first (w.stored server) ≤ voter_changes first counted = voter_changes-prefix first (w.stored server) counted may.stored in
    record {
      core = campaign-keeps first c server term counted (record { later = may.later; committed = IsPrefix-trans counted (w.known server) old.committed may.known (i.known server); one_change_beyond = omega arith }) i.core;
      known = term_keeps w server term i.known;
      stored = i.stored;
      changes = i.changes;
    }

become_leader-keeps_waiting : (first : Configuration) (w : WaitingCluster) (r : VoteRequest) (votes : Ids) → MayBecomeLeader first w.cluster r votes → AreWaitingInvariants first w
    → AreWaitingInvariants first (after_waiting w (BecomeLeader r votes))
become_leader-keeps_waiting first w r votes may i = record {
  core = become_leader-keeps first w.cluster r votes may i.core;
  known = i.known;
  stored = i.stored;
  changes = λ member x. HasChanges-elected first w.cluster r votes (w.stored member) (i.core.requests r may.asked).from_leaders (i.changes member x);
}

propose-keeps_waiting : (first : Configuration) (w : WaitingCluster) (term leader : ℕ) (entry : Entry) → MayProposeWaiting first w term leader entry → AreWaitingInvariants first w
    → AreWaitingInvariants first (after_waiting w (Propose term leader entry))
propose-keeps_waiting first w term leader entry may i =
    record {
      core = propose-keeps first w.cluster term leader entry (record { own_term = may.own_term }) i.core;
      known = i.known;
      stored = i.stored;
      changes = λ member x. HasChanges-proposed first w.cluster term leader entry (w.stored member) may.leads (elim may.waits [ inl idle ↦ inl idle | inr waited ↦ inr (waited member x) ]) (i.changes member x);
    }

learn-keeps_waiting : (first : Configuration) (w : WaitingCluster) (term leader : ℕ) (known : Log) → MayLearnWaiting w term leader known → AreWaitingInvariants first w
    → AreWaitingInvariants first (after_waiting w (Learn term leader known))
learn-keeps_waiting first w term leader known may i =
    let c : Cluster = w.cluster in
    let now : Leadership = c.leaderships term leader in
    let new : Leadership = record now { committed = known } in
    let more : MayLearn c term leader known = record { leads = may.leads; same_term = may.same_term; known_of = IsPrefix-trans known (w.known leader) (c.servers leader).committed may.known_of (i.known leader) } in
    record {
      core = learn-keeps first c term leader known more i.core;
      known = i.known;
      stored = i.stored;
      changes = λ member x. HasChanges-same_log first c term leader new (w.stored member) refl may.leads (i.changes member x);
    }

commit-keeps_waiting : (first : Configuration) (w : WaitingCluster) (leader : ℕ) (m : Commitment) → MayCommitWaiting first w leader m → AreWaitingInvariants first w
    → AreWaitingInvariants first (after_waiting w (Commit leader m))
commit-keeps_waiting first w leader m may i =
    let c : Cluster = w.cluster in
    let now : Leadership = c.leaderships m.term leader in
    let new : Leadership = record now { committed = m.log } in
    let s1 : voter_changes first now.log ≤ voter_changes first (w.stored leader) + 1 = i.changes leader may.member m.term leader may.leads in
    let s2 : voter_changes first m.log ≤ voter_changes first now.log = voter_changes-prefix first m.log now.log may.in_log in
    let s3 : voter_changes first (w.stored leader) ≤ voter_changes first m.counted = voter_changes-prefix first (w.stored leader) m.counted may.stored in
    record {
      core = commit-keeps first c leader m (record {
        leads = may.leads;
        longer_than = may.longer_than;
        in_log = may.in_log;
        own_term = may.own_term;
        acknowledged = may.acknowledged;
        counted = may.counted;
        one_change_beyond = omega arith;
        quorum = may.quorum;
      }) i.core;
      known = i.known;
      stored = i.stored;
      changes = λ member x. HasChanges-same_log first c m.term leader new (w.stored member) refl may.leads (i.changes member x);
    }

receive-keeps_waiting : (first : Configuration) (w : WaitingCluster) (server term leader : ℕ) (sent known after : Log) → MayReceive w.cluster server term leader sent known after → AreWaitingInvariants first w
    → AreWaitingInvariants first (after_waiting w (Receive server term leader sent known after))
receive-keeps_waiting first w server term leader sent known after may i =
    let c : Cluster = w.cluster in
    let old : Server = c.servers server in
    let L : Log = log_of c term leader in
    let new : Server = record { term = term; log = after; committed = longer old.committed known } in
    let more : Log = longer (w.known server) known in
    let order : old.term ≤ term = may.not_past in
    let known_in : IsPrefix known L = IsPrefix-trans known sent L may.known_of may.sent_of in
    let old_in : IsPrefix old.committed L = IsKnown-in_leader first c i.core term leader (old.term + 1) old.committed may.leads (i.core.servers server).known (omega arith) in
    let was : IsPrefix (w.known server) old.committed = i.known server in
    let was_in : IsPrefix (w.known server) L = IsPrefix-trans (w.known server) old.committed L was old_in in
    let to_new : (x : Log) → IsPrefix x old.committed → IsPrefix x new.committed = λ x p. longer-each (IsPrefix x) old.committed known
    (λ less. IsPrefix-trans x old.committed known p (shorter-prefix old.committed known L old_in known_in (omega arith))) (λ not_less. p) in
    let known_new : IsPrefix known new.committed = longer-each (IsPrefix known) old.committed known (λ less. IsPrefix-refl known) (λ not_less. shorter-prefix known old.committed L known_in old_in not_less) in
    let new_known : IsPrefix more new.committed = longer-each (λ (x : Log). IsPrefix x new.committed) (w.known server) known (λ less. known_new) (λ not_less. to_new (w.known server) was) in
    let grows : IsPrefix (w.known server) more = longer-each (IsPrefix (w.known server)) (w.known server) known
    (λ less. shorter-prefix (w.known server) known L was_in known_in (omega arith)) (λ not_less. IsPrefix-refl (w.known server)) in
    record {
      core = receive-keeps first c server term leader sent known after may i.core;
      known = λ k. with_value-both (λ (x : Log) (y : Server). IsPrefix x y.committed) w.known c.servers server more new k (λ same. new_known) (λ other. i.known k);
      stored = λ k. with_value-each (IsPrefix (w.stored k)) w.known server more k
          (λ same. subst (λ (q : ℕ). IsPrefix (w.stored q) more) (sym same) (IsPrefix-trans (w.stored server) (w.known server) more (i.stored server) grows)) (λ other. i.stored k);
      changes = i.changes;
    }

store-keeps : (first : Configuration) (w : WaitingCluster) (server : ℕ) (log : Log) → IsBetween (w.stored server) log (w.known server) → AreWaitingInvariants first w
    → AreWaitingInvariants first (after_waiting w (Store server log))
store-keeps first w server log may i =
    record {
      core = i.core;
      known = i.known;
      stored = λ k. with_value-each (λ (x : Log). IsPrefix x (w.known k)) w.stored server log k (λ same. subst (λ (q : ℕ). IsPrefix log (w.known q)) (sym same) may.at_most) (λ other. i.stored k);
      changes = HasChanges-stored first w.cluster w.stored w.members server log may.at_least i.changes;
    }

crash-keeps_waiting : (first : Configuration) (w : WaitingCluster) (server : ℕ) (known : Log) → IsBetween (w.stored server) known (w.known server) → AreWaitingInvariants first w
    → AreWaitingInvariants first (after_waiting w (Crash server known))
crash-keeps_waiting first w server known may i = record {
  core = i.core;
  known = λ k. with_value-each (λ (x : Log). IsPrefix x (w.cluster.servers k).committed) w.known server known k
      (λ same. subst (λ (q : ℕ). IsPrefix known (w.cluster.servers q).committed) (sym same) (IsPrefix-trans known (w.known server) (w.cluster.servers server).committed may.at_most (i.known server)))
      (λ other. i.known k);
  stored = λ k. with_value-each (IsPrefix (w.stored k)) w.known server known k (λ same. subst (λ (q : ℕ). IsPrefix (w.stored q) known) (sym same) may.at_least) (λ other. i.stored k);
  changes = i.changes;
}

pub waiting_keeps : (first : Configuration) (w : WaitingCluster) (action : WaitingAction) → IsAllowedWaiting first w action → AreWaitingInvariants first w → AreWaitingInvariants first (after_waiting w action)
waiting_keeps first w (Join server) may i = record {
  core = i.core;
  known = i.known;
  stored = i.stored;
  changes = λ member x. elim x [
    | inl is ↦ subst (λ (q : ℕ). HasChanges first w.cluster (w.stored q)) (sym is) may.has_changes
    | inr in_w ↦ i.changes member in_w
  ];
}
waiting_keeps first w (Leave server) may i = record {
  core = i.core;
  known = i.known;
  stored = i.stored;
  changes = λ member x. i.changes member (was_member member server w.members x);
}
waiting_keeps first w (Campaign server term counted) may i = campaign-keeps_waiting first w server term counted may i
waiting_keeps first w (SeeTerm server term) may i = record {
  core = see_term-keeps first w.cluster server term may i.core;
  known = term_keeps w server term i.known;
  stored = i.stored;
  changes = i.changes;
}
waiting_keeps first w (GrantVote voter request) may i = record {
  core = grant_vote-keeps first w.cluster voter request may i.core;
  known = term_keeps w voter request.term i.known;
  stored = i.stored;
  changes = i.changes;
}
waiting_keeps first w (BecomeLeader request votes) may i = become_leader-keeps_waiting first w request votes may i
waiting_keeps first w (Learn term leader known) may i = learn-keeps_waiting first w term leader known may i
waiting_keeps first w (Propose term leader entry) may i = propose-keeps_waiting first w term leader entry may i
waiting_keeps first w (Receive server term leader sent known after) may i = receive-keeps_waiting first w server term leader sent known after may i
waiting_keeps first w (Commit leader m) may i = commit-keeps_waiting first w leader m may i
waiting_keeps first w (Store server log) may i = store-keeps first w server log may i
waiting_keeps first w (Crash server known) may i = crash-keeps_waiting first w server known may i
