-- Whether the rules of EtcdRules.antt allow an action is decided by computing, where sets of servers are written as lists.
use Rattle.std.proofs.Common.{◌≡◌, ℕ, ◌<◌, ◌≤◌, Bool, true, false, List, ◌∷◌, ◌++◌, length, ap}
use Rattle.quorum_sets.specs.Ids.{ids_of}
use Rattle.raft_safety.specs.Logs.{Entry, Log, IsPrefix, last_term}
use Rattle.raft_safety.specs.Cluster.{Server, In, Leads}
use Rattle.raft_safety.specs.Appending.{term_at}
use Rattle.raft_safety.specs.EtcdCluster.{Append, Candidacy, EtcdCluster, new_etcd_cluster}
use Rattle.raft_safety.specs.EtcdRules.{IsReady, EtcdAction, Campaign, SeeTerm, GrantVote, BecomeLeader, Propose, Send, Receive, Answer, Heartbeat, Commit, Apply, Restart, MayCampaignApplied, MayBecomeLeaderApplied, MayCommitApplied, IsAllowedByEtcd}
use Rattle.raft_safety.specs.EtcdRuns.{after_etcd_action}
use Rattle.safety_examples.proofs.Decisions.{Decision, undecided, number_is, less, at_most, like, so, negated, both, either, implied, is_in, each_id}
use Rattle.safety_examples.proofs.ListedVoters.{Lists, configuration_of, quorum, same_changes, one_change_beyond}
use Rattle.safety_examples.proofs.ListedRuns.{Level}
use Rattle.safety_examples.proofs.Equality.{flag_is, vote_is, request_is, log_is, prefix}
use Rattle.safety_examples.proofs.DecidedSteps as steps
use Rattle.safety_examples.proofs.DecidedSteps.{leads, acknowledged}

-- ---- what was said
abbrev pub candidacy_is : (a b : Candidacy) → Decision (a ≡ b)
candidacy_is a b =
    like (λ parts i. record { request = parts.0 i; applied = parts.1 i }) (λ same. (ap (λ (c : Candidacy). c.request) same, ap (λ (c : Candidacy). c.applied) same))
    (both (request_is a.request b.request) (log_is a.applied b.applied))

abbrev pub append_is : (a b : Append) → Decision (a ≡ b)
append_is a b =
    like (λ parts i. record { term = parts.0 i; index = parts.1.0 i; index_term = parts.1.1.0 i; entries = parts.1.1.1.0 i; commit = parts.1.1.1.1 i })
    (λ same. (ap (λ (p : Append). p.term) same, (ap (λ (p : Append). p.index) same, (ap (λ (p : Append). p.index_term) same, (ap (λ (p : Append). p.entries) same, ap (λ (p : Append). p.commit) same)))))
    (both (number_is a.term b.term) (both (number_is a.index b.index) (both (number_is a.index_term b.index_term) (both (log_is a.entries b.entries) (number_is a.commit b.commit)))))

-- ---- guards. Of three, all but the last field is decided for itself
abbrev pub ready : (l : Lists) → (looks : Bool) → (state : Server) → (applied : Log) → Decision (IsReady (configuration_of l) looks state applied)
ready l true state applied = one_change_beyond l state.log applied
ready l false state applied = same_changes l applied state.committed

abbrev pub MayCampaignUnready : EtcdCluster → ℕ → ℕ → Log → Type 0
MayCampaignUnready e server term applied = ((e.cluster.servers server).term < term) × IsPrefix applied (e.cluster.servers server).committed

abbrev pub campaigns_unready : (e : EtcdCluster) → (server term : ℕ) → (applied : Log) → Decision (MayCampaignUnready e server term applied)
campaigns_unready e server term applied = both (less (e.cluster.servers server).term term) (prefix applied (e.cluster.servers server).committed)

abbrev pub campaigns : (l : Lists) → (e : EtcdCluster) → (server term : ℕ) → (applied : Log) → Decision (MayCampaignApplied (configuration_of l) e server term applied)
campaigns l e server term applied =
    like (λ may. record { later = may.0.0; committed = may.0.1; ready = may.1 }) (λ may. ((may.later, may.committed), may.ready))
    (both (campaigns_unready e server term applied) (ready l (e.looks server) (e.cluster.servers server) applied))

abbrev pub MayProposeTwo : EtcdCluster → ℕ → ℕ → Entry → Type 0
MayProposeTwo e term leader entry = Leads e.cluster term leader × (entry.term ≡ term)

abbrev pub proposes_two : (e : EtcdCluster) → (term leader : ℕ) → (entry : Entry) → Decision (MayProposeTwo e term leader entry)
proposes_two e term leader entry = both (leads e.cluster term leader) (number_is entry.term term)

abbrev pub MayTakeUnmatched : EtcdCluster → ℕ → Append → Type 0
MayTakeUnmatched e server append = In append e.appends × ((e.cluster.servers server).term ≤ append.term)

abbrev pub takes_unmatched : (e : EtcdCluster) → (server : ℕ) → (append : Append) → Decision (MayTakeUnmatched e server append)
takes_unmatched e server append = both (is_in append_is append e.appends) (at_most (e.cluster.servers server).term append.term)

-- a candidate counts by the configuration after this log
abbrev pub becomes_leader : (l : Lists) → (e : EtcdCluster) → (candidacy : Candidacy) → (counted : Log) → (votes : List ℕ)
    → Decision (MayBecomeLeaderApplied (configuration_of l) e candidacy (ids_of votes))
becomes_leader l e candidacy counted votes =
    let request = candidacy.request in
    so (λ may. record {
      asked = may.0;
      not_yet = may.1.0;
      voted = may.1.1.0;
      counted = counted;
      in_force = record { at_least = may.1.1.1.0; at_most = may.1.1.1.1.0 };
      quorum = may.1.1.1.1.1;
    })
    (both (is_in candidacy_is candidacy e.candidacies)
    (both (negated (leads e.cluster request.term request.candidate))
    (both (each_id _ (λ voter. is_in vote_is (record { term = request.term; voter = voter; candidate = request.candidate }) e.cluster.votes) votes)
    (both (prefix candidacy.applied counted)
    (both (prefix counted request.committed)
    (quorum l counted votes))))))

abbrev pub commits : (l : Lists) → (e : EtcdCluster) → (term leader : ℕ) → (log : Log) → (servers : List ℕ)
    → Decision (MayCommitApplied (configuration_of l) e term leader log (ids_of servers))
commits l e term leader log servers =
    let now = e.cluster.leaderships term leader in
    so (λ may. record { leads = may.0; longer_than = may.1.0; in_log = may.1.1.0; own_term = may.1.1.1.0; acknowledged = may.1.1.1.1.0; quorum = may.1.1.1.1.1 })
    (both (leads e.cluster term leader)
    (both (less (length now.committed) (length log))
    (both (prefix log now.log)
    (both (number_is (last_term log) term)
    (both (each_id _ (λ server. acknowledged e.cluster term server log) servers)
    (quorum l (e.applied term leader) servers))))))

-- the other actions, which have no sets
abbrev pub decided : (l : Lists) → (e : EtcdCluster) → (action : EtcdAction) → Decision (IsAllowedByEtcd (configuration_of l) e action)
decided l e (Campaign server term applied) = campaigns l e server term applied
decided l e (SeeTerm server term) = steps.is_allowed l e.cluster (steps.SeeTerm server term)
decided l e (GrantVote voter request) = steps.is_allowed l e.cluster (steps.GrantVote voter request)
decided l e (BecomeLeader candidacy votes) = undecided
decided l e (Propose term leader entry) =
    let log = (e.cluster.leaderships term leader).log in
    like (λ may. record { leads = may.0.0; own_term = may.0.1; one_at_a_time = may.1 }) (λ may. ((may.leads, may.own_term), may.one_at_a_time))
    (both (proposes_two e term leader entry) (either (same_changes l (entry ∷ log) log) (same_changes l log (e.applied term leader))))
decided l e (Send term leader before entries) =
    so (λ may. record { leads = may.0; sent_of = may.1 }) (both (leads e.cluster term leader) (prefix (entries ++ before) (e.cluster.leaderships term leader).log))
decided l e (Receive server append) =
    like (λ may. record { sent = may.0.0; not_past = may.0.1; matches = may.1 }) (λ may. ((may.sent, may.not_past), may.matches))
    (both (takes_unmatched e server append) (number_is (term_at (e.cluster.servers server).log append.index) append.index_term))
decided l e (Answer server term leader) =
    so (λ may. record { leads = may.0; not_past = may.1 }) (both (leads e.cluster term leader) (at_most (e.cluster.servers server).term term))
decided l e (Heartbeat server term leader known) =
    so (λ may. record { leads = may.0; not_past = may.1.0; committed = may.1.1.0; acknowledged = may.1.1.1 })
    (both (leads e.cluster term leader)
    (both (at_most (e.cluster.servers server).term term)
    (both (prefix known (e.cluster.leaderships term leader).committed)
    (acknowledged e.cluster term server known))))
decided l e (Commit term leader log servers) = undecided
decided l e (Apply term leader log) =
    so (λ may. record { leads = may.0; more = may.1.0; committed = may.1.1 })
    (both (leads e.cluster term leader) (both (prefix (e.applied term leader) log) (prefix log (e.cluster.leaderships term leader).committed)))
decided l e (Restart server known) =
    so (λ may. record { at_least = may.0; at_most = may.1 })
    (both (implied (flag_is (e.looks server) false) (prefix (e.durable server) known)) (prefix known (e.cluster.servers server).committed))

-- ---- runs in which sets of servers are lists
pub data ListedAction : Type 0 where
  Do : (action : EtcdAction) → ListedAction
  LeadBy : (candidacy : Candidacy) → (counted : Log) → (votes : List ℕ) → ListedAction
  CommitBy : (term leader : ℕ) → (log : Log) → (servers : List ℕ) → ListedAction

abbrev pub action_of : ListedAction → EtcdAction
action_of (Do action) = action
action_of (LeadBy candidacy counted votes) = BecomeLeader candidacy (ids_of votes)
action_of (CommitBy term leader log servers) = Commit term leader log (ids_of servers)

abbrev pub is_allowed : (l : Lists) → (e : EtcdCluster) → (a : ListedAction) → Decision (IsAllowedByEtcd (configuration_of l) e (action_of a))
is_allowed l e (Do action) = decided l e action
is_allowed l e (LeadBy candidacy counted votes) = becomes_leader l e candidacy counted votes
is_allowed l e (CommitBy term leader log servers) = commits l e term leader log servers

-- where no server looks at its log
abbrev pub etcd : Level
etcd = record {
  State = EtcdCluster;
  Action = EtcdAction;
  Listed = ListedAction;
  start = new_etcd_cluster (λ server. false);
  after_action = after_etcd_action;
  action_of = λ e a. action_of a;
  IsAllowed = IsAllowedByEtcd;
  is_allowed = is_allowed;
}
