-- Each action of a leader keeps the invariants.
use Rattle.std.proofs.Common.{◌≡◌, ℕ, ◌+◌, ◌≤◌, ◌∷◌, ◌++◌, refl, sym, ap, subst, ◌∙◌, inl, inr, arith}
use Rattle.quorum_sets.specs.Ids.{Ids}
use Rattle.conf_change.specs.Configuration.{Configuration}
use Rattle.raft_safety.specs.Logs.{Entry, Log, IsPrefix}
use Rattle.raft_safety.specs.Configurations.{voter_changes}
use Rattle.raft_safety.specs.Cluster.{VoteRequest, Election, Leadership, Commitment, Cluster, with_value}
use Rattle.raft_safety.specs.Steps.{MayCommit, after_action}
use Rattle.raft_safety.specs.Steps as core
use Rattle.raft_safety.specs.EtcdCluster.{Candidacy, EtcdCluster}
use Rattle.raft_safety.specs.EtcdRules.{BecomeLeader, Propose, Send, Commit, Apply, MayBecomeLeaderApplied, MayProposeApplied, MaySend, MayCommitApplied, MayApply}
use Rattle.raft_safety.specs.EtcdRuns.{commitment_of, after_etcd_action}
use Rattle.raft_safety.proofs.Logs.{IsPrefix-refl, IsPrefix-trans}
use Rattle.raft_safety.proofs.Configurations.{voter_changes-prefix, voter_changes-entry}
use Rattle.raft_safety.proofs.Invariants.{IsElectedWith-leads, log_of}
use Rattle.raft_safety.proofs.Steps.BecomeLeader.{become_leader_by-keeps}
use Rattle.raft_safety.proofs.Steps.OneLeader.{propose-keeps}
use Rattle.raft_safety.proofs.Steps.Commit.{commit-rises, commit-keeps}
use Rattle.raft_safety.proofs.Etcd.Invariants.{IsApplied, IsAppend, AreEtcdInvariants}
use Rattle.raft_safety.proofs.Etcd.CoreSteps.{MayBecomeLeader-applied, MayCommit-applied}
use Rattle.raft_safety.proofs.Etcd.Growth.{with_value-pair, pair-same, DoLeadersGrow, become_leader-grows, propose-grows, commit-grows, IsAppend-later}

pub become_leader-keeps_etcd : (first : Configuration) (e : EtcdCluster) (k : Candidacy) (votes : Ids) → MayBecomeLeaderApplied first e k votes → AreEtcdInvariants first e → AreEtcdInvariants first (after_etcd_action e (BecomeLeader k votes))
become_leader-keeps_etcd first e k votes may i =
    let c : Cluster = e.cluster in
    let r : VoteRequest = k.request in
    let new : Leadership = record { log = r.log; committed = r.committed } in
    let d : Cluster = after_action c (core.BecomeLeader r votes) in
    let its = i.candidacies k may.asked in
    let new_applied : IsApplied first new.log new.committed k.applied = record { committed = its.counts.part; one_change_beyond = its.counts.one_change_beyond } in
    let g : DoLeadersGrow c d = become_leader-grows c r votes may.not_yet in
    let now : ℕ → ℕ → Log = with_value e.applied r.term (with_value (e.applied r.term) r.candidate k.applied) in
    record {
      core = become_leader_by-keeps first c r may.counted votes (MayBecomeLeader-applied first e k votes i may) i.core;
      durable = i.durable;
      applied = λ t s l. with_value-pair (λ (q : Leadership). IsApplied first q.log q.committed (now t s)) c.leaderships r.term r.candidate new t s
          (λ same_t same_s. with_value-pair (IsApplied first new.log new.committed) e.applied r.term r.candidate k.applied t s (λ a b. new_applied) (λ other. absurd (other same_t same_s)))
          (λ other. with_value-pair (IsApplied first (log_of c t s) (c.leaderships t s).committed) e.applied r.term r.candidate k.applied t s (λ a b. absurd (other a b))
          (λ there. elim l.1 [
            | inl is ↦ absurd (other (sym l.2 ∙ ap (λ (q : Election). q.request.term) is) (sym l.3 ∙ ap (λ (q : Election). q.request.candidate) is))
            | inr in_c ↦ i.applied t s (l.0, in_c, l.2, l.3)
          ]));
      candidacies = i.candidacies;
      appends = λ a x. IsAppend-later first c d g a (i.appends a x);
    }

pub propose-keeps_etcd : (first : Configuration) (e : EtcdCluster) (term leader : ℕ) (entry : Entry) → MayProposeApplied first e term leader entry → AreEtcdInvariants first e
    → AreEtcdInvariants first (after_etcd_action e (Propose term leader entry))
propose-keeps_etcd first e term leader entry may i =
    let c : Cluster = e.cluster in
    let now : Leadership = c.leaderships term leader in
    let new : Leadership = record now { log = entry ∷ now.log } in
    let d : Cluster = after_action c (core.Propose term leader entry) in
    let was = i.applied term leader may.leads in
    let few : voter_changes first now.log ≤ voter_changes first (e.applied term leader) + 1 = was.one_change_beyond in
    let one : voter_changes first (entry ∷ now.log) ≤ voter_changes first now.log + 1 = voter_changes-entry first entry now.log in
    let new_applied : IsApplied first new.log new.committed (e.applied term leader) = record {
      committed = was.committed;
      one_change_beyond = elim may.one_at_a_time [
        | inl idle ↦ (let k : voter_changes first (entry ∷ now.log) ≡ voter_changes first now.log = idle in omega arith)
        | inr done ↦ (let k : voter_changes first now.log ≡ voter_changes first (e.applied term leader) = done in omega arith)
      ];
    } in
    record {
      core = propose-keeps first c term leader entry (record { own_term = may.own_term }) i.core;
      durable = i.durable;
      applied = λ t s l. with_value-pair (λ (q : Leadership). IsApplied first q.log q.committed (e.applied t s)) c.leaderships term leader new t s
          (λ same_t same_s. pair-same (λ (a b : ℕ). IsApplied first new.log new.committed (e.applied a b)) term leader t s same_t same_s new_applied) (λ other. i.applied t s l);
      candidacies = i.candidacies;
      appends = λ a x. IsAppend-later first c d (propose-grows c term leader entry) a (i.appends a x);
    }

pub send-keeps : (first : Configuration) (e : EtcdCluster) (term leader : ℕ) (before entries : Log) → MaySend e term leader before entries → AreEtcdInvariants first e
    → AreEtcdInvariants first (after_etcd_action e (Send term leader before entries))
send-keeps first e term leader before entries may i =
    let c : Cluster = e.cluster in
    let now : Leadership = c.leaderships term leader in
    let its = IsElectedWith-leads first c i.core term leader may.leads in
    let was = i.applied term leader may.leads in
    let s1 : voter_changes first now.log ≤ voter_changes first (e.applied term leader) + 1 = was.one_change_beyond in
    let s2 : voter_changes first (e.applied term leader) ≤ voter_changes first now.committed = voter_changes-prefix first (e.applied term leader) now.committed was.committed in
    let few : voter_changes first now.log ≤ voter_changes first now.committed + 1 = omega arith in
    let part : voter_changes first (entries ++ before) ≤ voter_changes first now.log = voter_changes-prefix first (entries ++ before) now.log may.sent_of in
    record {
      core = i.core;
      durable = i.durable;
      applied = i.applied;
      candidacies = i.candidacies;
      appends = λ a x. elim x [
        | inl is ↦ subst (IsAppend first c) (sym is) (record {
          leader = leader;
          leads = may.leads;
          before = before;
          sent_of = may.sent_of;
          index = refl;
          index_term = refl;
          known = now.committed;
          committed = IsPrefix-refl now.committed;
          stored = its.stored;
          commit = refl;
          one_change_beyond = omega arith;
        })
        | inr in_e ↦ i.appends a in_e
      ];
    }

-- a commitment that Steps.antt allows
pub commitment-keeps : (first : Configuration) (e : EtcdCluster) (leader : ℕ) (m : Commitment) → MayCommit first e.cluster leader m → AreEtcdInvariants first e
    → AreEtcdInvariants first (record e { cluster = after_action e.cluster (core.Commit leader m) })
commitment-keeps first e leader m may i =
    let c : Cluster = e.cluster in
    let now : Leadership = c.leaderships m.term leader in
    let new : Leadership = record now { committed = m.log } in
    let was = i.applied m.term leader may.leads in
    let more : IsPrefix now.committed m.log = commit-rises first c leader m may i.core in
    let new_applied : IsApplied first new.log new.committed (e.applied m.term leader) = record {
      committed = IsPrefix-trans (e.applied m.term leader) now.committed m.log was.committed more;
      one_change_beyond = was.one_change_beyond;
    } in
    record {
      core = commit-keeps first c leader m may i.core;
      durable = i.durable;
      applied = λ t s l. with_value-pair (λ (q : Leadership). IsApplied first q.log q.committed (e.applied t s)) c.leaderships m.term leader new t s
          (λ same_t same_s. pair-same (λ (a b : ℕ). IsApplied first new.log new.committed (e.applied a b)) m.term leader t s same_t same_s new_applied) (λ other. i.applied t s l);
      candidacies = i.candidacies;
      appends = λ a x. IsAppend-later first c (after_action c (core.Commit leader m)) (commit-grows c leader m more) a (i.appends a x);
    }

pub commit-keeps_etcd : (first : Configuration) (e : EtcdCluster) (term leader : ℕ) (log : Log) (servers : Ids) → MayCommitApplied first e term leader log servers → AreEtcdInvariants first e
    → AreEtcdInvariants first (after_etcd_action e (Commit term leader log servers))
commit-keeps_etcd first e term leader log servers may i =
    commitment-keeps first e leader (commitment_of e term leader log servers) (MayCommit-applied first e term leader log servers i may) i

pub apply-keeps : (first : Configuration) (e : EtcdCluster) (term leader : ℕ) (log : Log) → MayApply e term leader log → AreEtcdInvariants first e
    → AreEtcdInvariants first (after_etcd_action e (Apply term leader log))
apply-keeps first e term leader log may i =
    let now : Leadership = e.cluster.leaderships term leader in
    let few : voter_changes first now.log ≤ voter_changes first (e.applied term leader) + 1 = (i.applied term leader may.leads).one_change_beyond in
    let more : voter_changes first (e.applied term leader) ≤ voter_changes first log = voter_changes-prefix first (e.applied term leader) log may.more in
    let new_applied : IsApplied first now.log now.committed log = record { committed = may.committed; one_change_beyond = omega arith } in
    record {
      core = i.core;
      durable = i.durable;
      applied = λ t s l. with_value-pair (IsApplied first (log_of e.cluster t s) (e.cluster.leaderships t s).committed) e.applied term leader log t s
          (λ same_t same_s. pair-same (λ (a b : ℕ). IsApplied first (log_of e.cluster a b) (e.cluster.leaderships a b).committed log) term leader t s same_t same_s new_applied) (λ other. i.applied t s l);
      candidacies = i.candidacies;
      appends = i.appends;
    }
