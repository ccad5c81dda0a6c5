-- Each action of a server keeps the invariants.
use Rattle.std.proofs.Common.{◌≡◌, ℕ, ◌+◌, ◌≤◌, true, false, List, [], ◌∷◌, length, refl, sym, ap, subst, ◌∙◌, inl, inr, arith, if◌then◌else◌}
use Rattle.std.specs.Prelude.{nat_eq}
use Rattle.std.proofs.lemmas.Bool.{cond-true, cond_both, and_parts}
use Rattle.conf_change.specs.Configuration.{Configuration}
use Rattle.raft_safety.specs.Logs.{Entry, Log, IsPrefix, last_term, longer}
use Rattle.raft_safety.specs.Configurations.{IsOneChangeBeyond, voter_changes}
use Rattle.raft_safety.specs.Cluster.{Server, Vote, VoteRequest, Acknowledgement, Cluster, In, with_value}
use Rattle.raft_safety.specs.Steps.{MaySeeTerm, MayGrantVote, MayReceive, after_action, with_server}
use Rattle.raft_safety.specs.Steps as core
use Rattle.raft_safety.specs.Appending.{upto, term_at, with_entry, has_entries, with_entries}
use Rattle.raft_safety.specs.EtcdCluster.{Append, Candidacy, EtcdCluster}
use Rattle.raft_safety.specs.EtcdRules.{Campaign, SeeTerm, GrantVote, Receive, Answer, Heartbeat, Restart, MayCampaignApplied, MayTake, MayAnswer, MayTakeHeartbeat, MayRestartDurable}
use Rattle.raft_safety.specs.EtcdRuns.{request_of, last_index, known_by, after_append, after_etcd_action}
use Rattle.raft_safety.proofs.Logs.{IsPrefix-refl, IsPrefix-trans, shorter-prefix, longer-each}
use Rattle.raft_safety.proofs.Configurations.{voter_changes-prefix}
use Rattle.raft_safety.proofs.Invariants.{IsKnown, IsServer, AreInvariants, IsElectedWith-leads, log_of}
use Rattle.raft_safety.proofs.Safety.KnownCommitted.{IsKnown-in_leader}
use Rattle.raft_safety.proofs.Updates.{with_value-here, with_value-each}
use Rattle.raft_safety.proofs.Growth.{Follows, IsFromLeaders-later, IsKnown-follows, IsKnown-prefix}
use Rattle.raft_safety.proofs.Steps.Campaign.{campaign-keeps}
use Rattle.raft_safety.proofs.Steps.OneServer.{with_server-keeps, see_term-keeps, restart-keeps}
use Rattle.raft_safety.proofs.Steps.GrantVote.{grant_vote-keeps}
use Rattle.raft_safety.proofs.Steps.Receive.{receive-keeps}
use Rattle.raft_safety.proofs.Etcd.Invariants.{IsDurable, IsCandidacy, IsAppend, AreEtcdInvariants}
use Rattle.raft_safety.proofs.Etcd.CoreSteps.{applied-all_but_one, MayCampaign-applied, MayReceive-heartbeat, MayReceive-append, MayReceive-answer}
use Rattle.raft_safety.proofs.Etcd.Growth.{with_value-both, DoLeadersGrow, IsAppend-later}

-- leaders stay as they are, and so does what holds of them, and of appends
servers_kept : (first : Configuration) (e : EtcdCluster) → AreEtcdInvariants first e → (server : ℕ) (new : Server) (votes : List Vote) (requests : List VoteRequest)
    (acknowledgements : List Acknowledgement) (durable : ℕ → Log) (candidacies : List Candidacy)
    → let d = record (with_server e.cluster server new) { votes = votes; requests = requests; acknowledgements = acknowledgements } in
    AreInvariants first d → ((k : ℕ) → e.looks k ≡ false → IsDurable first (d.servers k).log (d.servers k).committed (durable k)) → ((k : Candidacy) → In k candidacies → IsCandidacy first requests k)
    → AreEtcdInvariants first (record e { cluster = d; durable = durable; candidacies = candidacies })
servers_kept first e i server new votes requests acknowledgements durable candidacies core durable_are candidacies_are =
    let d : Cluster = record (with_server e.cluster server new) { votes = votes; requests = requests; acknowledgements = acknowledgements } in
    let g : DoLeadersGrow e.cluster d = record {
      leads = λ t s l. l;
      logs = λ t s l. IsPrefix-refl (log_of e.cluster t s);
      committed = λ t s l. IsPrefix-refl (e.cluster.leaderships t s).committed;
    } in
    record {
      core = core;
      durable = durable_are;
      applied = i.applied;
      candidacies = candidacies_are;
      appends = λ a x. IsAppend-later first e.cluster d g a (i.appends a x);
    }

-- where no request is new
server_kept : (first : Configuration) (e : EtcdCluster) → AreEtcdInvariants first e → (server : ℕ) (new : Server) (votes : List Vote) (acknowledgements : List Acknowledgement) (durable : ℕ → Log)
    → let d = record (with_server e.cluster server new) { votes = votes; acknowledgements = acknowledgements } in
    AreInvariants first d → ((k : ℕ) → e.looks k ≡ false → IsDurable first (d.servers k).log (d.servers k).committed (durable k))
    → AreEtcdInvariants first (record e { cluster = d; durable = durable })
server_kept first e i server new votes acknowledgements durable core durable_are =
    servers_kept first e i server new votes e.cluster.requests acknowledgements durable e.candidacies core durable_are i.candidacies

-- where nothing more is durable
durable_kept : (first : Configuration) (e : EtcdCluster) → AreEtcdInvariants first e → (server : ℕ) (new : Server) → (e.looks server ≡ false → IsDurable first new.log new.committed (e.durable server))
    → (k : ℕ) → e.looks k ≡ false → IsDurable first (with_value e.cluster.servers server new k).log (with_value e.cluster.servers server new k).committed (e.durable k)
durable_kept first e i server new is k not = grind (arith, with_value-each, IsDurable)

pub campaign-keeps_etcd : (first : Configuration) (e : EtcdCluster) (server term : ℕ) (applied : Log) → MayCampaignApplied first e server term applied → AreEtcdInvariants first e
    → AreEtcdInvariants first (after_etcd_action e (Campaign server term applied))
campaign-keeps_etcd first e server term applied may i =
    let old : Server = e.cluster.servers server in
    let new : Server = record old { term = term } in
    let r : VoteRequest = request_of e.cluster server term in
    servers_kept first e i server new (record { term = term; voter = server; candidate = server } ∷ e.cluster.votes) (r ∷ e.cluster.requests) e.cluster.acknowledgements e.durable
    (record { request = r; applied = applied } ∷ e.candidacies)
    (campaign-keeps first e.cluster server term old.committed (MayCampaign-applied first e server term applied i may) i.core)
    (durable_kept first e i server new (i.durable server))
    (λ k x. elim x [
      | inl is ↦ subst (IsCandidacy first (r ∷ e.cluster.requests)) (sym is) (record { asked = inl refl; counts = record { part = may.committed; one_change_beyond = applied-all_but_one first e server term applied i may } })
      | inr in_e ↦ (let its = i.candidacies k in_e in record { asked = inr its.asked; counts = its.counts })
    ])

pub see_term-keeps_etcd : (first : Configuration) (e : EtcdCluster) (server term : ℕ) → MaySeeTerm e.cluster server term → AreEtcdInvariants first e → AreEtcdInvariants first (after_etcd_action e (SeeTerm server term))
see_term-keeps_etcd first e server term may i =
    let old : Server = e.cluster.servers server in
    let new : Server = record old { term = term } in
    server_kept first e i server new e.cluster.votes e.cluster.acknowledgements e.durable (see_term-keeps first e.cluster server term may i.core) (durable_kept first e i server new (i.durable server))

pub grant_vote-keeps_etcd : (first : Configuration) (e : EtcdCluster) (voter : ℕ) (r : VoteRequest) → MayGrantVote e.cluster voter r → AreEtcdInvariants first e → AreEtcdInvariants first (after_etcd_action e (GrantVote voter r))
grant_vote-keeps_etcd first e voter r may i =
    let old : Server = e.cluster.servers voter in
    let new : Server = record old { term = r.term } in
    server_kept first e i voter new (record { term = r.term; voter = voter; candidate = r.candidate } ∷ e.cluster.votes) e.cluster.acknowledgements e.durable
    (grant_vote-keeps first e.cluster voter r may i.core) (durable_kept first e i voter new (i.durable voter))

pub restart-keeps_etcd : (first : Configuration) (e : EtcdCluster) (server : ℕ) (known : Log) → MayRestartDurable e server known → AreEtcdInvariants first e
    → AreEtcdInvariants first (after_etcd_action e (Restart server known))
restart-keeps_etcd first e server known may i =
    let old : Server = e.cluster.servers server in
    let new : Server = record old { committed = known } in
    server_kept first e i server new e.cluster.votes e.cluster.acknowledgements e.durable (restart-keeps first e.cluster server known (record { known_of = may.at_most }) i.core)
    (durable_kept first e i server new (λ not. record { committed = may.at_least not; one_change_beyond = (i.durable server not).one_change_beyond }))

pub answer-keeps : (first : Configuration) (e : EtcdCluster) (server term leader : ℕ) → MayAnswer e server term leader → AreEtcdInvariants first e
    → AreEtcdInvariants first (after_etcd_action e (Answer server term leader))
answer-keeps first e server term leader may i =
    let old : Server = e.cluster.servers server in
    let new : Server = record old { term = term } in
    let more : List Acknowledgement = record { term = term; server = server; log = old.committed } ∷ e.cluster.acknowledgements in
    let found = MayReceive-answer first e server term leader i.core may in
    server_kept first e i server new e.cluster.votes more e.durable
    (subst (λ (x : Log). AreInvariants first (record (with_server e.cluster server (record { term = term; log = old.log; committed = x })) { acknowledgements = more })) found.1
    (receive-keeps first e.cluster server term leader old.committed [] old.log found.0 i.core))
    (durable_kept first e i server new (i.durable server))

-- what a server knows to be committed grows
committed_grows : (first : Configuration) (c : Cluster) → AreInvariants first c → (server term leader : ℕ) (sent known after : Log) → MayReceive c server term leader sent known after
    → IsPrefix (c.servers server).committed (longer (c.servers server).committed known)
committed_grows first c i server term leader sent known after may =
    let old : Server = c.servers server in
    let L : Log = log_of c term leader in
    let order : old.term ≤ term = may.not_past in
    let old_in : IsPrefix old.committed L = IsKnown-in_leader first c i term leader (old.term + 1) old.committed may.leads (i.servers server).known (omega arith) in
    longer-each (IsPrefix old.committed) old.committed known
    (λ less. shorter-prefix old.committed known L old_in (IsPrefix-trans known sent L may.known_of may.sent_of) (omega arith))
    (λ not_less. IsPrefix-refl old.committed)

-- a server that learns what is committed, and acknowledges nothing by that
learn_keeps : (first : Configuration) (c : Cluster) (server term leader : ℕ) (known : Log) → MayReceive c server term leader known known (c.servers server).log → IsPrefix known (c.servers server).log
    → AreInvariants first c → AreInvariants first (with_server c server (record { term = term; log = (c.servers server).log; committed = longer (c.servers server).committed known }))
learn_keeps first c server term leader known may stored i =
    let old : Server = c.servers server in
    let new : Server = record { term = term; log = old.log; committed = longer old.committed known } in
    let d : Cluster = with_server c server new in
    let was : IsServer c old = i.servers server in
    let order : old.term ≤ term = may.not_past in
    with_server-keeps first c server new order refl i (λ (f : Follows c d). record {
      from_leaders = IsFromLeaders-later c d f old.log was.from_leaders;
      term = (let h : last_term old.log ≤ old.term = was.term in omega arith);
      stored = longer-each (λ (x : Log). IsPrefix x old.log) old.committed known (λ less. stored) (λ not_less. was.stored);
      known = longer-each (IsKnown d (term + 1)) old.committed known
          (λ less. IsKnown-follows c d f (term + 1) (term + 1) (omega arith) known
          (IsKnown-prefix c (term + 1) known (c.leaderships term leader).committed may.committed
          (subst (λ (t : ℕ). IsKnown c (t + 1) (c.leaderships term leader).committed) may.leads.2 (IsElectedWith-leads first c i term leader may.leads).known)))
          (λ not_less. IsKnown-follows c d f (old.term + 1) (term + 1) (omega arith) old.committed was.known);
    })

pub heartbeat-keeps : (first : Configuration) (e : EtcdCluster) (server term leader : ℕ) (known : Log) → MayTakeHeartbeat e server term leader known → AreEtcdInvariants first e
    → AreEtcdInvariants first (after_etcd_action e (Heartbeat server term leader known))
heartbeat-keeps first e server term leader known may i =
    let old : Server = e.cluster.servers server in
    let new : Server = record { term = term; log = old.log; committed = longer old.committed known } in
    let found = MayReceive-heartbeat first e server term leader known i.core may in
    server_kept first e i server new e.cluster.votes e.cluster.acknowledgements e.durable (learn_keeps first e.cluster server term leader known found.0 found.1 i.core)
    (durable_kept first e i server new (λ not. record {
      committed = IsPrefix-trans (e.durable server) old.committed new.committed (i.durable server not).committed (committed_grows first e.cluster i.core server term leader known known old.log found.0);
      one_change_beyond = (i.durable server not).one_change_beyond;
    }))

-- a log that has the entries already stays as it is
entries_stay : (log : Log) (index : ℕ) (entries : List Entry) → has_entries log index entries ≡ true → with_entries log index entries ≡ log
entries_stay log index [] has = refl
entries_stay log index (entry ∷ entries) has =
    let parts = and_parts (has_entries log index entries) (nat_eq (term_at log (index + length entries + 1)) entry.term) has in
    ap (λ (x : Log). with_entry x (index + length entries) entry) (entries_stay log index entries parts.0)
    ∙ cond-true (nat_eq (term_at log (index + length entries + 1)) entry.term) log (entry ∷ upto log (index + length entries)) parts.1

pub take-keeps : (first : Configuration) (e : EtcdCluster) (server : ℕ) (a : Append) → MayTake e server a → AreEtcdInvariants first e → AreEtcdInvariants first (after_etcd_action e (Receive server a))
take-keeps first e server a may i =
    let its : IsAppend first e.cluster a = i.appends a may.sent in
    let old : Server = e.cluster.servers server in
    let new : Server = after_append old a in
    let sent : Log = upto new.log (last_index a) in
    let known : Log = known_by new.log a in
    let found = MayReceive-append first e server a i.core its may in
    let received : MayReceive e.cluster server a.term its.leader sent known new.log = found.0 in
    let d : Cluster = after_action e.cluster (core.Receive server a.term its.leader sent known new.log) in
    let kept : AreInvariants first d = receive-keeps first e.cluster server a.term its.leader sent known new.log received i.core in
    let new_is : IsServer d new = subst (IsServer d) (with_value-here e.cluster.servers server new) (kept.servers server) in
    let durable : Log = e.durable server in
    let few_sent : voter_changes first sent ≤ voter_changes first known + 1 = found.1 in
    let L : Log = log_of e.cluster a.term its.leader in
    let order : old.term ≤ a.term = may.not_past in
    let old_in : IsPrefix old.committed L = IsKnown-in_leader first e.cluster i.core a.term its.leader (old.term + 1) old.committed its.leads (i.core.servers server).known (omega arith) in
    let known_in : IsPrefix known L = IsPrefix-trans known sent L received.known_of received.sent_of in
    let grows : IsPrefix old.committed new.committed = committed_grows first e.cluster i.core server a.term its.leader sent known new.log received in
    let known_new : IsPrefix known new.committed = longer-each (IsPrefix known) old.committed known (λ less. IsPrefix-refl known) (λ not_less. shorter-prefix known old.committed L known_in old_in not_less) in
    let written : Log = if has_entries old.log a.index a.entries then durable else longer durable known in
    let new_durable : e.looks server ≡ false → IsDurable first new.log new.committed written = λ not.
    let was = i.durable server not in
    let few : voter_changes first old.log ≤ voter_changes first durable + 1 = was.one_change_beyond in
    let durable_in : IsPrefix durable L = IsPrefix-trans durable old.committed L was.committed old_in in
    cond_both (has_entries old.log a.index a.entries) durable (longer durable known) (IsDurable first new.log new.committed)
    (λ yes. record {
      committed = IsPrefix-trans durable old.committed new.committed was.committed grows;
      one_change_beyond = subst (λ (x : Log). IsOneChangeBeyond first x durable) (sym (entries_stay old.log a.index a.entries yes)) few;
    })
    (λ no. record {
      committed = longer-each (λ (x : Log). IsPrefix x new.committed) durable known (λ less. known_new) (λ not_less. IsPrefix-trans durable old.committed new.committed was.committed grows);
      one_change_beyond = elim received.taken [
        | inl keeps ↦ subst (λ (x : Log). IsOneChangeBeyond first x (longer durable known)) (sym keeps.1) (longer-each (IsOneChangeBeyond first old.log) durable known
            (λ less.
            let s : voter_changes first durable ≤ voter_changes first known = voter_changes-prefix first durable known (shorter-prefix durable known L durable_in known_in (omega arith)) in
            omega arith)
            (λ not_less. few))
        | inr takes ↦ subst (λ (x : Log). IsOneChangeBeyond first x (longer durable known)) (sym takes.1) (longer-each (IsOneChangeBeyond first sent) durable known
            (λ less. few_sent)
            (λ not_less.
            let s : voter_changes first known ≤ voter_changes first durable = voter_changes-prefix first known durable (shorter-prefix known durable L known_in durable_in not_less) in
            omega arith))
      ];
    }) in
    server_kept first e i server new e.cluster.votes (record { term = a.term; server = server; log = sent } ∷ e.cluster.acknowledgements) (with_value e.durable server written) kept
    (λ k not. with_value-both (λ (x : Server) (y : Log). IsDurable first x.log x.committed y) e.cluster.servers e.durable server new written k
    (λ same. new_durable (subst (λ (q : ℕ). e.looks q ≡ false) same not)) (λ other. i.durable k not))
