-- A step that changes one server, and neither what was said nor any leader, keeps the invariants if they hold of the new
-- state: as the steps Restart and SeeTerm.
use Rattle.std.proofs.Common.{◌≡◌, ℕ, ◌+◌, ◌≤◌, ◌<◌, List, refl, arith}
use Rattle.conf_change.specs.Configuration.{Configuration}
use Rattle.raft_safety.specs.Logs.{Log}
use Rattle.raft_safety.specs.Cluster.{Vote, VoteRequest, Acknowledgement, Cluster, In, Server}
use Rattle.raft_safety.specs.Steps.{Restart, SeeTerm, MayRestart, MaySeeTerm, after_action, with_server}
use Rattle.raft_safety.proofs.Invariants.{AreInvariants, IsServer, log_of}
use Rattle.raft_safety.proofs.Updates.{with_value-term_rises, with_value-log_stays}
use Rattle.raft_safety.proofs.Growth.{Follows, IsFromLeaders-later, IsKnown-follows, IsServer-later, IsRequest-later, IsElectedWith-later, IsVote-later, IsCommitment-later, IsAcknowledged-later, voters_keep-later, IsServer-each, IsKnown-prefix}
use Rattle.raft_safety.proofs.Safety.LedTerms.{last_term-acknowledged}
use Rattle.raft_safety.proofs.Logs.{IsPrefix-refl, IsPrefix-trans}

-- where more may be said
abbrev pub after_server : Cluster → ℕ → Server → List Vote → List VoteRequest → List Acknowledgement → Cluster
after_server c server new votes requests acknowledgements = record (with_server c server new) { votes = votes; requests = requests; acknowledgements = acknowledgements }

pub Follows-server : (c : Cluster) (server : ℕ) (new : Server) (votes : List Vote) (requests : List VoteRequest) (acknowledgements : List Acknowledgement) → (c.servers server).term ≤ new.term
    → ((v : Vote) → In v c.votes → In v votes) → ((r : VoteRequest) → In r c.requests → In r requests) → ((a : Acknowledgement) → In a c.acknowledgements → In a acknowledgements)
    → Follows c (after_server c server new votes requests acknowledgements)
Follows-server c server new votes requests acknowledgements rises more_votes more_requests more_acknowledgements = grind (arith, IsPrefix-refl, log_of, with_value-term_rises)

pub with_server-keeps : (first : Configuration) (c : Cluster) (server : ℕ) (new : Server) → (c.servers server).term ≤ new.term → (c.servers server).log ≡ new.log
    → AreInvariants first c → (Follows c (with_server c server new) → IsServer (with_server c server new) new) → AreInvariants first (with_server c server new)
with_server-keeps first c server new rises stays i holds =
    let d : Cluster = with_server c server new in
    let f : Follows c d = Follows-server c server new c.votes c.requests c.acknowledgements rises (λ v x. x) (λ r x. x) (λ a x. x) in
    record {
      servers = IsServer-each first c d f i server new (holds f);
      requests = λ r x. IsRequest-later first c d f r (i.requests r x);
      one_request = i.one_request;
      elections = λ e x. IsElectedWith-later first c d f e (c.leaderships e.request.term e.request.candidate) (i.elections e x);
      one_election = i.one_election;
      votes = λ v x. IsVote-later c d f v (i.votes v x);
      one_vote = i.one_vote;
      acknowledgements = λ a x. IsAcknowledged-later c d f a (last_term-acknowledged first c i a x) (with_value-log_stays c.servers server new stays a.server) (i.acknowledgements a x);
      voters_keep = λ r voter term log in_r voted ack later own kept led. voters_keep-later c d f r voter term log i.voters_keep in_r voted ack later own kept led;
      commitments = λ m x. IsCommitment-later first c d f m (i.commitments m x);
      counted_before = i.counted_before;
    }

pub restart-keeps : (first : Configuration) (c : Cluster) (server : ℕ) (known : Log) → MayRestart c server known → AreInvariants first c → AreInvariants first (after_action c (Restart server known))
restart-keeps first c server known may i =
    let old : Server = c.servers server in
    let d : Cluster = after_action c (Restart server known) in
    let was : IsServer c old = i.servers server in
    with_server-keeps first c server (record old { committed = known }) (omega arith) refl i (λ (f : Follows c d). record {
      from_leaders = IsFromLeaders-later c d f old.log was.from_leaders;
      term = was.term;
      stored = IsPrefix-trans known old.committed old.log may.known_of was.stored;
      known = IsKnown-follows c d f (old.term + 1) (old.term + 1) (omega arith) known (IsKnown-prefix c (old.term + 1) known old.committed may.known_of was.known);
    })

pub see_term-keeps : (first : Configuration) (c : Cluster) (server term : ℕ) → MaySeeTerm c server term → AreInvariants first c → AreInvariants first (after_action c (SeeTerm server term))
see_term-keeps first c server term may i =
    let old : Server = c.servers server in
    let higher : old.term < term = may.higher in
    with_server-keeps first c server (record old { term = term }) (omega arith) refl i
    (λ f. IsServer-later c (after_action c (SeeTerm server term)) f old term (omega arith) (i.servers server))
