-- A step that changes the state of one leader, and maybe commits, keeps the invariants if the leader's log only grows by entries of
-- its term, and they hold of the new state: as the steps Learn and Propose.
use Rattle.std.proofs.Common.{◌≡◌, ℕ, ◌+◌, ◌<◌, List, ◌∷◌, refl, sym, ap, subst, ◌∙◌, inl, inr, arith}
use Rattle.conf_change.specs.Configuration.{Configuration}
use Rattle.raft_safety.specs.Logs.{Entry, Log, IsPrefix, last_term}
use Rattle.raft_safety.specs.Cluster.{Election, Commitment, Leadership, Cluster, In}
use Rattle.raft_safety.specs.Steps.{Learn, Propose, MayLearn, MayPropose, after_action, with_leadership}
use Rattle.raft_safety.proofs.Logs.{IsPrefix-refl}
use Rattle.raft_safety.proofs.Updates.{with_leadership-each, leadership-same}
use Rattle.raft_safety.proofs.Growth.{Follows, IsServer-later, IsRequest-later, IsElectedWith-later, IsVote-later, IsCommitment-later, IsAcknowledged-later, voters_keep-later, IsKnown-prefix}
use Rattle.raft_safety.proofs.Invariants.{IsKnown, IsGrown, IsElectedWith, IsCommitment, AreCountedBefore, AreInvariants, log_of}
use Rattle.raft_safety.proofs.Safety.KnownCommitted.{IsKnown-in_leader}
use Rattle.raft_safety.proofs.Safety.LedTerms.{last_term-acknowledged}

abbrev pub after_leader : Cluster → ℕ → ℕ → Leadership → List Commitment → Cluster
after_leader c term leader new commitments = record (with_leadership c term leader new) { commitments = commitments }

pub Follows-leader : (c : Cluster) (term leader : ℕ) (new : Leadership) (commitments : List Commitment) → IsPrefix (log_of c term leader) new.log
    → ((log : Log) → last_term log < term → IsPrefix log new.log → IsPrefix log (log_of c term leader)) → ((m : Commitment) → In m c.commitments → In m commitments)
    → Follows c (after_leader c term leader new commitments)
Follows-leader c term leader new commitments grows back more = grind (arith, with_leadership-each, log_of, leadership-same, IsPrefix-refl)

pub one_leader-keeps : (first : Configuration) (c : Cluster) (term leader : ℕ) (new : Leadership) (commitments : List Commitment) → Follows c (after_leader c term leader new commitments) → AreInvariants first c
    → ((e : Election) → e.request.term ≡ term → IsElectedWith first (after_leader c term leader new commitments) e (c.leaderships term leader)
    → IsGrown e.request.term e.request.log new.log × IsPrefix new.committed new.log × IsKnown (after_leader c term leader new commitments) (e.request.term + 1) new.committed)
    → ((m : Commitment) → In m commitments → IsCommitment first (after_leader c term leader new commitments) m) → AreCountedBefore (after_leader c term leader new commitments)
    → AreInvariants first (after_leader c term leader new commitments)
one_leader-keeps first c term leader new commitments f i elected committed counted_before =
    let d : Cluster = after_leader c term leader new commitments in
    record {
      servers = λ s. IsServer-later c d f (c.servers s) (c.servers s).term (omega arith) (i.servers s);
      requests = λ a x. IsRequest-later first c d f a (i.requests a x);
      one_request = i.one_request;
      elections = λ e x.
          let later = IsElectedWith-later first c d f e (c.leaderships e.request.term e.request.candidate) (i.elections e x) in
          with_leadership-each c term leader new (IsElectedWith first d e) e.request.term e.request.candidate
          (λ same_t same_s.
          let it : IsElectedWith first d e (c.leaderships term leader) = subst (IsElectedWith first d e) (leadership-same c term leader e.request.term e.request.candidate same_t same_s) later in
          let now = elected e same_t it in
          record { asked = it.asked; grown = now.0; voted = it.voted; counted = it.counted; counts = it.counts; quorum = it.quorum; stored = now.1; known = now.2 })
          later;
      one_election = i.one_election;
      votes = λ v x. IsVote-later c d f v (i.votes v x);
      one_vote = i.one_vote;
      acknowledgements = λ a x. IsAcknowledged-later c d f a (last_term-acknowledged first c i a x) refl (i.acknowledgements a x);
      voters_keep = λ a voter low log in_a voted ack before own kept led. voters_keep-later c d f a voter low log i.voters_keep in_a voted ack before own kept led;
      commitments = committed;
      counted_before = counted_before;
    }

pub learn-keeps : (first : Configuration) (c : Cluster) (term leader : ℕ) (known : Log) → MayLearn c term leader known → AreInvariants first c
    → AreInvariants first (after_action c (Learn term leader known))
learn-keeps first c term leader known may i =
    let is_known : IsKnown c (term + 1) known = subst (λ (t : ℕ). IsKnown c (t + 1) known) may.same_term
    (IsKnown-prefix c ((c.servers leader).term + 1) known (c.servers leader).committed may.known_of (i.servers leader).known) in
    let now : Leadership = c.leaderships term leader in
    let new : Leadership = record now { committed = known } in
    let d : Cluster = after_action c (Learn term leader known) in
    let f : Follows c d = Follows-leader c term leader new c.commitments (IsPrefix-refl now.log) (λ log past p. p) (λ m x. x) in
    one_leader-keeps first c term leader new c.commitments f i
    (λ e same it. (it.grown, IsKnown-in_leader first c i term leader (term + 1) known may.leads is_known (omega arith), subst (λ (t : ℕ). IsKnown d (t + 1) known) (sym same) is_known))
    (λ m x. IsCommitment-later first c d f m (i.commitments m x)) i.counted_before

pub propose-keeps : (first : Configuration) (c : Cluster) (term leader : ℕ) (entry : Entry) → MayPropose term entry → AreInvariants first c
    → AreInvariants first (after_action c (Propose term leader entry))
propose-keeps first c term leader entry may i =
    let now : Leadership = c.leaderships term leader in
    let new : Leadership = record now { log = entry ∷ now.log } in
    let d : Cluster = after_action c (Propose term leader entry) in
    let own_term : entry.term ≡ term = may.own_term in
    let f : Follows c d = Follows-leader c term leader new c.commitments (inr (IsPrefix-refl now.log))
    (λ log past p. elim p [ inl all ↦ (let e : last_term log ≡ entry.term = ap last_term all in absurd (omega arith)) | inr part ↦ part ]) (λ m x. x) in
    one_leader-keeps first c term leader new c.commitments f i (λ e same it. (inr (own_term ∙ sym same, it.grown), inr it.stored, it.known))
    (λ m x. IsCommitment-later first c d f m (i.commitments m x)) i.counted_before
