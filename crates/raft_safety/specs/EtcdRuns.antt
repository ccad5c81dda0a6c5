-- What the actions of etcd's servers leave, and runs of them. Where Steps.antt has an action of the name, this one does the
-- same to servers, votes and leaders.
use Rattle.std.specs.Prelude.{ℕ, ◌+◌, Bool, min, List, ◌∷◌, length, if◌then◌else◌}
use Rattle.quorum_sets.specs.Ids.{Ids}
use Rattle.conf_change.specs.Configuration.{Configuration}
use Rattle.raft_safety.specs.Runs.{after_all, AfterEach, AreAllAllowed, AtTwo}
use Rattle.raft_safety.specs.Logs.{Log, last_term, longer}
use Rattle.raft_safety.specs.Cluster.{VoteRequest, Server, Commitment, Cluster, with_value}
use Rattle.raft_safety.specs.Steps.{Action, after_action, with_server}
use Rattle.raft_safety.specs.Steps as core
use Rattle.raft_safety.specs.Appending.{upto, has_entries, with_entries}
use Rattle.raft_safety.specs.EtcdCluster.{Append, EtcdCluster, new_etcd_cluster, with_applied}
use Rattle.raft_safety.specs.EtcdRules.{EtcdAction, Campaign, SeeTerm, GrantVote, BecomeLeader, Propose, Send, Receive, Answer, Heartbeat, Commit, Apply, Restart, IsAllowedByEtcd}

-- the request for votes of a server that campaigns
abbrev pub request_of : Cluster → ℕ → ℕ → VoteRequest
request_of c server term =
    record { term = term; candidate = server; log = (c.servers server).log; committed = (c.servers server).committed }

-- an append of a leader, of entries after what is before them in its log: it always has the leader's commit index
abbrev pub append_of : Cluster → ℕ → ℕ → Log → Log → Append
append_of c term leader before entries = record {
  term = term;
  index = length before;
  index_term = last_term before;
  entries = entries;
  commit = length (c.leaderships term leader).committed;
}

-- the index of the last entry of an append
abbrev pub last_index : Append → ℕ
last_index append = append.index + length append.entries

-- what an append says is committed, of the log that has its entries: up to its commit index, but at most its last entry
abbrev pub known_by : Log → Append → Log
known_by log append = upto log (min append.commit (last_index append))

-- a server after an append: its log has the entries, and its commit index is the append's; it never falls
abbrev pub after_append : Server → Append → Server
after_append old append =
    let log = with_entries old.log append.index append.entries in
    record { term = append.term; log = log; committed = longer old.committed (known_by log append) }

-- the cluster after another acknowledgement
abbrev pub with_acknowledgement : Cluster → ℕ → ℕ → Log → Cluster
with_acknowledgement c term server log =
    record c { acknowledgements = record { term = term; server = server; log = log } ∷ c.acknowledgements }

-- what a leader commits: counted by the configuration that it has applied
abbrev pub commitment_of : EtcdCluster → ℕ → ℕ → Log → Ids → Commitment
commitment_of e term leader log servers =
    record { term = term; log = log; counted = e.applied term leader; servers = servers }

-- the cluster after an action of Steps.antt
abbrev pub with_action : EtcdCluster → Action → EtcdCluster
with_action e action = record e { cluster = after_action e.cluster action }

-- what an action leaves. Where an append changes the log, the append's commit index is written with it, as one: it is
-- durable. An answer acknowledges what the server knows to be committed. A heartbeat acknowledges nothing
abbrev pub after_etcd_action : EtcdCluster → EtcdAction → EtcdCluster
after_etcd_action e (Campaign server term applied) =
    record e {
      cluster = after_action e.cluster (core.Campaign server term (e.cluster.servers server).committed);
      candidacies = record { request = request_of e.cluster server term; applied = applied } ∷ e.candidacies;
    }
after_etcd_action e (SeeTerm server term) = with_action e (core.SeeTerm server term)
after_etcd_action e (GrantVote voter request) = with_action e (core.GrantVote voter request)
after_etcd_action e (BecomeLeader candidacy votes) =
    record (with_applied e candidacy.request.term candidacy.request.candidate candidacy.applied) {
      cluster = after_action e.cluster (core.BecomeLeader candidacy.request votes);
    }
after_etcd_action e (Propose term leader entry) = with_action e (core.Propose term leader entry)
after_etcd_action e (Send term leader before entries) =
    record e { appends = append_of e.cluster term leader before entries ∷ e.appends }
after_etcd_action e (Receive server append) =
    let old = e.cluster.servers server in
    let new = after_append old append in
    record e {
      cluster = with_acknowledgement (with_server e.cluster server new) append.term server (upto new.log (last_index append));
      durable = with_value e.durable server (if has_entries old.log append.index append.entries
          then e.durable server else longer (e.durable server) (known_by new.log append));
    }
after_etcd_action e (Answer server term leader) =
    let old = e.cluster.servers server in
    record e {
      cluster = with_acknowledgement (with_server e.cluster server (record old { term = term })) term server old.committed;
    }
after_etcd_action e (Heartbeat server term leader known) =
    let old = e.cluster.servers server in
    record e { cluster = with_server e.cluster server (record old { term = term; committed = longer old.committed known }) }
after_etcd_action e (Commit term leader log servers) =
    with_action e (core.Commit leader (commitment_of e term leader log servers))
after_etcd_action e (Apply term leader log) = with_applied e term leader log
after_etcd_action e (Restart server known) = with_action e (core.Restart server known)

abbrev pub after_etcd_actions : EtcdCluster → List EtcdAction → EtcdCluster
after_etcd_actions = after_all after_etcd_action

abbrev pub AreAllowedByEtcd : Configuration → EtcdCluster → List EtcdAction → Type 0
AreAllowedByEtcd first = AreAllAllowed after_etcd_action (IsAllowedByEtcd first)

-- the claim holds after each run that the rules allow, whatever the first configuration is, and whichever servers look at their
-- own log before they campaign
abbrev pub AfterEachEtcdRun : (EtcdCluster → Type 0) → Type 0
AfterEachEtcdRun Claim =
    (first : Configuration) (looks : ℕ → Bool)
    → AfterEach after_etcd_action (IsAllowedByEtcd first) (new_etcd_cluster looks) Claim

-- the claim holds of an earlier moment of each such run and its end
abbrev pub AtTwoEtcdMoments : (EtcdCluster → EtcdCluster → Type 0) → Type 0
AtTwoEtcdMoments Claim =
    (first : Configuration) (looks : ℕ → Bool)
    → AtTwo after_etcd_action (IsAllowedByEtcd first) (new_etcd_cluster looks) Claim
