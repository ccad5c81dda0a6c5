-- What etcd asks of actions is no less than what Steps.antt asks, as far as the invariants hold, but that a candidate may count by
-- less than it knew to be committed.
use Rattle.std.proofs.Common.{◌≡◌, ℕ, ◌+◌, ◌≤◌, ◌<◌, min, [], ◌∷◌, ◌++◌, length, refl, sym, ap, subst, ◌∙◌, inl, inr, arith, length-append}
use Rattle.std.specs.Prelude.{nat_lt}
use Rattle.std.proofs.Math.Nat.{min-eq_left, min-eq_right}
use Rattle.std.proofs.lemmas.Bool.{cases_Bool, cases_lt, cond-false}
use Rattle.std.proofs.lemmas.Bool.Decides.{nat_tests}
use Rattle.quorum_sets.specs.Ids.{Ids}
use Rattle.conf_change.specs.Configuration.{Configuration}
use Rattle.raft_safety.specs.Logs.{Log, IsPrefix, last_term, longer}
use Rattle.raft_safety.specs.Configurations.{voter_changes, IsOneChangeBeyond}
use Rattle.raft_safety.specs.Cluster.{Server, Leadership, Cluster, Leads}
use Rattle.raft_safety.specs.Steps.{MayCampaign, MayReceive, MayCommit, IsLogAfter}
use Rattle.raft_safety.specs.Appending.{upto, term_at, with_entries}
use Rattle.raft_safety.specs.EtcdCluster.{Append, Candidacy, EtcdCluster}
use Rattle.raft_safety.specs.EtcdRules.{MayBecomeLeaderApplied, MayTake, MayAnswer, MayTakeHeartbeat, MayCommitApplied, MayCampaignApplied}
use Rattle.raft_safety.specs.EtcdRuns.{last_index, known_by, commitment_of}
use Rattle.raft_safety.proofs.Logs.{IsPrefix-refl, IsPrefix-trans, IsPrefix-empty, shorter-prefix}
use Rattle.raft_safety.proofs.Configurations.{voter_changes-prefix}
use Rattle.raft_safety.proofs.Invariants.{AreInvariants, IsElectedWith-leads, IsKept, log_of}
use Rattle.raft_safety.proofs.Safety.LedTerms.{led_terms-positive}
use Rattle.raft_safety.proofs.Safety.KnownCommitted.{IsKnown-in_leader}
use Rattle.raft_safety.proofs.FromLeaders.{IsFromLeaders-led, logs-match}
use Rattle.raft_safety.proofs.Appending.{entry-found, entries-taken, upto-prefix}
use Rattle.raft_safety.proofs.Steps.BecomeLeader.{MayBecomeLeaderBy}
use Rattle.raft_safety.proofs.Etcd.Invariants.{IsAppend, AreEtcdInvariants}

suffix : (entries start : Log) → IsPrefix start (entries ++ start)
suffix [] start = IsPrefix-refl start
suffix (entry ∷ entries) start = inr (suffix entries start)

-- ---- actions that ask more than those of Steps.antt
-- a candidate counts by what it has applied, which has all changes of its log but the last
pub MayBecomeLeader-applied : (first : Configuration) (e : EtcdCluster) (candidacy : Candidacy) (votes : Ids) → AreEtcdInvariants first e
    → (may : MayBecomeLeaderApplied first e candidacy votes) → MayBecomeLeaderBy first e.cluster candidacy.request may.counted votes
MayBecomeLeader-applied first e candidacy votes i may =
    let its = i.candidacies candidacy may.asked in
    let few : voter_changes first candidacy.request.log ≤ voter_changes first candidacy.applied + 1 = its.counts.one_change_beyond in
    let more : voter_changes first candidacy.applied ≤ voter_changes first may.counted = voter_changes-prefix first candidacy.applied may.counted may.in_force.at_least in
    record { asked = its.asked; not_yet = may.not_yet; voted = may.voted; counts = record { part = may.in_force.at_most; one_change_beyond = omega arith }; quorum = may.quorum }

pub MayCommit-applied : (first : Configuration) (e : EtcdCluster) (term leader : ℕ) (log : Log) (servers : Ids) → AreEtcdInvariants first e → MayCommitApplied first e term leader log servers
    → MayCommit first e.cluster leader (commitment_of e term leader log servers)
MayCommit-applied first e term leader log servers i may = grind (arith, log_of, voter_changes-prefix)

-- who campaigns has applied all changes of its log but the last: it looks, or that is so of what is durable of its commit index
pub applied-all_but_one : (first : Configuration) (e : EtcdCluster) (server term : ℕ) (applied : Log) → AreEtcdInvariants first e → MayCampaignApplied first e server term applied
    → IsOneChangeBeyond first (e.cluster.servers server).log applied
applied-all_but_one first e server term applied i may = grind (arith, cases_Bool, voter_changes-prefix)

pub MayCampaign-applied : (first : Configuration) (e : EtcdCluster) (server term : ℕ) (applied : Log) → AreEtcdInvariants first e → MayCampaignApplied first e server term applied
    → MayCampaign first e.cluster server term (e.cluster.servers server).committed
MayCampaign-applied first e server term applied i may = grind (arith, applied-all_but_one, voter_changes-prefix, IsPrefix-refl)

-- ---- a heartbeat: the server has what it acknowledged
pub MayReceive-heartbeat : (first : Configuration) (e : EtcdCluster) (server term leader : ℕ) (known : Log) → AreInvariants first e.cluster → MayTakeHeartbeat e server term leader known
    → MayReceive e.cluster server term leader known known (e.cluster.servers server).log × IsPrefix known (e.cluster.servers server).log
MayReceive-heartbeat first e server term leader known i may =
    let its = i.acknowledgements _ may.acknowledged.1 in
    let high : (e.cluster.servers server).term ≤ term = may.not_past in
    let between : IsKept e.cluster known term ((e.cluster.servers server).term + 1) = λ t s after before leads. absurd (omega arith) in
    let now : Leadership = e.cluster.leaderships term leader in
    let stored : IsPrefix known (e.cluster.servers server).log = its.kept known may.acknowledged.2 between in (
      record {
        leads = may.leads;
        not_past = may.not_past;
        sent_of = IsPrefix-trans known now.committed now.log may.committed (IsElectedWith-leads first e.cluster i term leader may.leads).stored;
        known_of = IsPrefix-refl known;
        committed = may.committed;
        taken = inl (stored, refl);
      },
      stored,
    )

-- ---- an append
-- a server that has an entry of the term at the index has the leader's log up to there
start_in : (first : Configuration) (c : Cluster) → AreInvariants first c → (term leader server : ℕ) → Leads c term leader → (start : Log) → IsPrefix start (log_of c term leader)
    → term_at (c.servers server).log (length start) ≡ last_term start → IsPrefix start (c.servers server).log
start_in first c i term leader server leads [] of same = IsPrefix-empty (c.servers server).log
start_in first c i term leader server leads (entry ∷ start) of same =
    let log : Log = (c.servers server).log in
    let from_L = IsFromLeaders-led first c i term leader (entry ∷ start) leads of in
    let positive : 0 < entry.term = led_terms-positive first c i entry.term from_L.0.0 from_L.0.1 in
    let place : length (entry ∷ start) ≡ length start + 1 = omega arith in
    let same' : term_at log (length start + 1) ≡ entry.term = subst (λ (n : ℕ). term_at log n ≡ entry.term) place same in
    let found = entry-found log (length start) (omega arith) in
    let match : found.0 ∷ found.1 ≡ entry ∷ start = logs-match first c i log (entry ∷ start) (i.servers server).from_leaders from_L found.0 entry found.1 start
    found.2 (IsPrefix-refl (entry ∷ start)) found.3 (found.4 ∙ same') in
    subst (λ (x : Log). IsPrefix x log) {x = found.0 ∷ found.1} match found.2

-- the server takes the leader's log up to the last entry, and of its commit index as much: at most one change is beyond
pub MayReceive-append : (first : Configuration) (e : EtcdCluster) (server : ℕ) (a : Append) → AreInvariants first e.cluster → (its : IsAppend first e.cluster a) → MayTake e server a
    → let after = with_entries (e.cluster.servers server).log a.index a.entries in
    MayReceive e.cluster server a.term its.leader (upto after (last_index a)) (known_by after a) after × IsOneChangeBeyond first (upto after (last_index a)) (known_by after a)
MayReceive-append first e server a i its may =
    let log : Log = (e.cluster.servers server).log in
    let L : Log = log_of e.cluster a.term its.leader in
    let sent : Log = a.entries ++ its.before in
    let after : Log = with_entries log a.index a.entries in
    let last : ℕ = a.index + length a.entries in
    let place : length sent ≡ length a.entries + length its.before = length-append a.entries its.before in
    let at : length its.before ≡ a.index = its.index in
    let long : length sent ≡ last = omega arith in
    let start_of : IsPrefix its.before L = IsPrefix-trans its.before sent L (suffix a.entries its.before) its.sent_of in
    let begins : IsPrefix its.before log = start_in first e.cluster i a.term its.leader server its.leads its.before start_of
    (subst (λ (n : ℕ). term_at log n ≡ last_term its.before) (sym at) (may.matches ∙ sym its.index_term)) in
    let taken : IsLogAfter log sent after = subst (λ (n : ℕ). IsLogAfter log sent (with_entries log n a.entries)) at
    (entries-taken first e.cluster i a.term its.leader its.leads log (i.servers server).from_leaders its.before a.entries begins its.sent_of) in
    let in_after : IsPrefix sent after = elim taken [
      | inl keeps ↦ subst (IsPrefix sent) (sym keeps.1) keeps.0
      | inr takes ↦ subst (IsPrefix sent) (sym takes.1) (IsPrefix-refl sent)
    ] in
    let sent_is : upto after last ≡ sent = ap (upto after) (sym long) ∙ upto-prefix sent after in_after in
    let Taken : Log → Log → Type 0 = λ x known. MayReceive e.cluster server a.term its.leader x known after × IsOneChangeBeyond first x known in
    let with_known : (known : Log) → IsPrefix known sent → IsPrefix known (e.cluster.leaderships a.term its.leader).committed → IsOneChangeBeyond first sent known → Taken (upto after last) known
    = λ known of committed few. subst (λ (x : Log). Taken x known) (sym sent_is) (
      record {
        leads = its.leads;
        not_past = may.not_past;
        sent_of = its.sent_of;
        known_of = of;
        committed = committed;
        taken = taken;
      },
      few,
    ) in
    let c_len : length its.known ≡ a.commit = its.commit in
    elim (cases_lt a.commit last) [
      | inl less ↦ (
          let part : IsPrefix its.known sent = shorter-prefix its.known sent L its.stored its.sent_of (omega arith) in
          let is : upto after (min a.commit last) ≡ its.known =
          ap (upto after) (min-eq_left (let h : a.commit ≤ last = omega arith in h) ∙ sym c_len) ∙ upto-prefix its.known after (IsPrefix-trans its.known sent after part in_after) in
          subst (Taken (upto after last)) (sym is) (with_known its.known part its.committed its.one_change_beyond))
      | inr not_less ↦ (
          let part : IsPrefix sent its.known = shorter-prefix sent its.known L its.sent_of its.stored (omega arith) in
          let is : upto after (min a.commit last) ≡ sent =
          ap (upto after) (min-eq_right not_less) ∙ sent_is in
          subst (Taken (upto after last)) (sym is)
          (with_known sent (IsPrefix-refl sent) (IsPrefix-trans sent its.known (e.cluster.leaderships a.term its.leader).committed part its.committed) (omega arith)))
    ]

-- ---- an answer to an old append: what the server knows to be committed is in the leader's log, and nothing is learned
pub MayReceive-answer : (first : Configuration) (e : EtcdCluster) (server term leader : ℕ) → AreInvariants first e.cluster → MayAnswer e server term leader
    → let old = e.cluster.servers server in
    MayReceive e.cluster server term leader old.committed [] old.log × (longer old.committed [] ≡ old.committed)
MayReceive-answer first e server term leader i may =
    let old : Server = e.cluster.servers server in
    let was = i.servers server in
    let high : old.term ≤ term = may.not_past in (
      record {
        leads = may.leads;
        not_past = may.not_past;
        sent_of = IsKnown-in_leader first e.cluster i term leader (old.term + 1) old.committed may.leads was.known (omega arith);
        known_of = IsPrefix-empty old.committed;
        committed = IsPrefix-empty (e.cluster.leaderships term leader).committed;
        taken = inl (was.stored, refl);
      },
      cond-false (nat_lt (length old.committed) 0) [] old.committed (grind (arith, nat_tests)),
    )
