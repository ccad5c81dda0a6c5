-- What holds of functions with another value at one place, and of appends while leaders go on.
use Rattle.std.proofs.Common.{◌≡◌, ℕ, ◌++◌, refl, sym, subst, ◌∙◌, inr, arith}
use Rattle.std.proofs.lemmas.Bool.{cases_eq}
use Rattle.conf_change.specs.Configuration.{Configuration}
use Rattle.quorum_sets.specs.Ids.{Ids}
use Rattle.raft_safety.specs.Logs.{Entry, IsPrefix}
use Rattle.raft_safety.specs.Cluster.{VoteRequest, Leadership, Commitment, Cluster, Leads, with_value}
use Rattle.raft_safety.specs.Steps.{after_action}
use Rattle.raft_safety.specs.Steps as core
use Rattle.raft_safety.specs.EtcdCluster.{Append}
use Rattle.raft_safety.proofs.Logs.{IsPrefix-refl, IsPrefix-trans}
use Rattle.raft_safety.proofs.Invariants.{log_of}
use Rattle.raft_safety.proofs.Updates.{with_value-here, with_value-there, with_value-each}
use Rattle.raft_safety.proofs.Etcd.Invariants.{IsAppend}

-- ---- functions with other values at one place
-- what holds of the new values of two functions there, and of the old ones elsewhere, holds everywhere
pub with_value-both : {X Y : Type 0} (P : X → Y → Type 0) (old : ℕ → X) (beside : ℕ → Y) (n : ℕ) (value : X) (other : Y) (k : ℕ) → (k ≡ n → P value other) → ((k ≡ n → ⊥) → P (old k) (beside k))
    → P (with_value old n value k) (with_value beside n other k)
with_value-both {X} {Y} P old beside n value other k here there = grind (arith, cases_eq, with_value-here, with_value-there)

-- of a function of a term and a server
pub with_value-pair : {X : Type 0} (P : X → Type 0) (old : ℕ → ℕ → X) (t s : ℕ) (value : X) (t' s' : ℕ) → (t' ≡ t → s' ≡ s → P value) → ((t' ≡ t → s' ≡ s → ⊥) → P (old t' s'))
    → P (with_value old t (with_value (old t) s value) t' s')
with_value-pair {X} P old t s value t' s' here there = grind (arith, with_value-each)

pub pair-same : (P : ℕ → ℕ → Type 0) (t s t' s' : ℕ) → t' ≡ t → s' ≡ s → P t s → P t' s'
pair-same P t s t' s' same_t same_s is = subst (λ (q : ℕ). P q s') (sym same_t) (subst (P t) (sym same_s) is)

-- ---- leaders that go on
-- each leader still leads, and its log and what it has committed have grown
pub record DoLeadersGrow (c d : Cluster) : Type 0 where
  pub leads : (term leader : ℕ) → Leads c term leader → Leads d term leader
  pub logs : (term leader : ℕ) → Leads c term leader → IsPrefix (log_of c term leader) (log_of d term leader)
  pub committed : (term leader : ℕ) → Leads c term leader → IsPrefix (c.leaderships term leader).committed (d.leaderships term leader).committed

-- one leader has another state; if it led before, that has grown
pub leader-grows : (c d : Cluster) (term leader : ℕ) (new : Leadership)
    → ((t s : ℕ) → d.leaderships t s ≡ with_value c.leaderships term (with_value (c.leaderships term) leader new) t s) → ((t s : ℕ) → Leads c t s → Leads d t s)
    → ((t s : ℕ) → Leads c t s → t ≡ term → s ≡ leader → IsPrefix (log_of c t s) new.log × IsPrefix (c.leaderships t s).committed new.committed) → DoLeadersGrow c d
leader-grows c d term leader new is leads grown = record {
  leads = leads;
  logs = λ t s l. subst (λ (q : Leadership). IsPrefix (log_of c t s) q.log) (sym (is t s)) (with_value-pair (λ (q : Leadership). IsPrefix (log_of c t s) q.log) c.leaderships term leader new t s
      (λ same_t same_s. (grown t s l same_t same_s).0) (λ other. IsPrefix-refl (log_of c t s)));
  committed = λ t s l. subst (λ (q : Leadership). IsPrefix (c.leaderships t s).committed q.committed) (sym (is t s))
      (with_value-pair (λ (q : Leadership). IsPrefix (c.leaderships t s).committed q.committed) c.leaderships term leader new t s
      (λ same_t same_s. (grown t s l same_t same_s).1) (λ other. IsPrefix-refl (c.leaderships t s).committed));
}

pub become_leader-grows : (c : Cluster) (r : VoteRequest) (votes : Ids) → ¬ Leads c r.term r.candidate → DoLeadersGrow c (after_action c (core.BecomeLeader r votes))
become_leader-grows c r votes not_yet =
    leader-grows c (after_action c (core.BecomeLeader r votes)) r.term r.candidate (record { log = r.log; committed = r.committed }) (λ t s. refl)
    (λ t s l. (l.0, inr l.1, l.2, l.3)) (λ t s l same_t same_s. absurd (not_yet (l.0, l.1, l.2 ∙ same_t, l.3 ∙ same_s)))

pub propose-grows : (c : Cluster) (term leader : ℕ) (entry : Entry) → DoLeadersGrow c (after_action c (core.Propose term leader entry))
propose-grows c term leader entry = grind (arith, leader-grows, pair-same, log_of, IsPrefix-refl)

pub commit-grows : (c : Cluster) (leader : ℕ) (m : Commitment) → IsPrefix (c.leaderships m.term leader).committed m.log → DoLeadersGrow c (after_action c (core.Commit leader m))
commit-grows c leader m more =
    let now : Leadership = c.leaderships m.term leader in
    leader-grows c (after_action c (core.Commit leader m)) m.term leader (record now { committed = m.log }) (λ t s. refl) (λ t s l. l)
    (λ t s l same_t same_s. pair-same (λ (a b : ℕ). IsPrefix (log_of c a b) now.log × IsPrefix (c.leaderships a b).committed m.log) m.term leader t s same_t same_s
    (IsPrefix-refl now.log, more))

pub IsAppend-later : (first : Configuration) (c d : Cluster) → DoLeadersGrow c d → (a : Append) → IsAppend first c a → IsAppend first d a
IsAppend-later first c d g a its = record {
  leader = its.leader;
  leads = g.leads a.term its.leader its.leads;
  before = its.before;
  sent_of = IsPrefix-trans (a.entries ++ its.before) (log_of c a.term its.leader) (log_of d a.term its.leader) its.sent_of (g.logs a.term its.leader its.leads);
  index = its.index;
  index_term = its.index_term;
  known = its.known;
  committed = IsPrefix-trans its.known (c.leaderships a.term its.leader).committed (d.leaderships a.term its.leader).committed its.committed (g.committed a.term its.leader its.leads);
  stored = IsPrefix-trans its.known (log_of c a.term its.leader) (log_of d a.term its.leader) its.stored (g.logs a.term its.leader its.leads);
  commit = its.commit;
  one_change_beyond = its.one_change_beyond;
}
