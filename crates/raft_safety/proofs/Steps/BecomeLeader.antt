-- The step BecomeLeader keeps the invariants.
use Rattle.std.proofs.Common.{◌≡◌, ℕ, ◌+◌, ◌∷◌, true, refl, sym, ap, subst, ◌∙◌, inl, inr, arith, []}
use Rattle.quorum_sets.specs.Ids.{has, Ids}
use Rattle.conf_change.specs.Configuration.{Configuration}
use Rattle.raft_safety.specs.Logs.{Log, IsPrefix}
use Rattle.raft_safety.specs.Configurations.{IsQuorumAfter}
use Rattle.raft_safety.specs.Cluster.{VoteRequest, Election, Cluster, In, Leads, Leadership, with_value, HasVoted}
use Rattle.raft_safety.proofs.Invariants.{IsGrown, MayCountBy, AreInvariants, log_of, IsElectedWith, IsElected}
use Rattle.raft_safety.specs.Steps.{BecomeLeader, MayBecomeLeader, after_action}
use Rattle.raft_safety.proofs.Updates.{with_value-here, with_value-there}
use Rattle.raft_safety.proofs.Growth.{Follows, IsKnown-follows, IsServer-later, IsRequest-later, IsElectedWith-later, IsVote-later, IsCommitment-later, IsAcknowledged-later, voters_keep-later}
use Rattle.raft_safety.proofs.Safety.OneElection.{wins-alone}
use Rattle.raft_safety.proofs.Safety.LedTerms.{last_term-acknowledged}
use Rattle.raft_safety.proofs.Logs.{IsPrefix-refl}

grown_refl : (term : ℕ) (log : Log) → IsGrown term log log
grown_refl term [] = refl
grown_refl term (entry ∷ log) = inl refl

-- a candidate may count by any part of what it knew to be committed that has all changes of the voters but the last
pub record MayBecomeLeaderBy (first : Configuration) (c : Cluster) (r : VoteRequest) (counted : Log) (votes : Ids) : Type 0 where
  pub asked : In r c.requests
  pub not_yet : ¬ Leads c r.term r.candidate
  pub voted : (voter : ℕ) → has votes voter ≡ true → HasVoted c r.term voter r.candidate
  pub counts : MayCountBy first r counted
  pub quorum : IsQuorumAfter first counted votes

pub become_leader_by-keeps : (first : Configuration) (c : Cluster) (r : VoteRequest) (counted : Log) (votes : Ids) → MayBecomeLeaderBy first c r counted votes → AreInvariants first c
    → AreInvariants first (after_action c (BecomeLeader r votes))
become_leader_by-keeps first c r counted votes may i =
    let new : Leadership = record { log = r.log; committed = r.committed } in
    let e0 : Election = record { request = r; votes = votes } in
    let d : Cluster = after_action c (BecomeLeader r votes) in
    let inner : ℕ → Leadership = with_value (c.leaderships r.term) r.candidate new in
    let asked = i.requests r may.asked in
    let not_led : (leader : ℕ) → Leads c r.term leader → ⊥ = λ leader l.
    may.not_yet (l.0, l.1, l.2, wins-alone first c i l.0 l.1 r counted votes may.asked may.voted may.counts may.quorum l.2) in
    let stays : (t s : ℕ) → Leads c t s → c.leaderships t s ≡ d.leaderships t s = λ t s l.
    ap (λ (g : ℕ → Leadership). g s) (sym (with_value-there c.leaderships r.term inner t (λ same. not_led s (subst (λ (q : ℕ). Leads c q s) same l)))) in
    let new_is : d.leaderships r.term r.candidate ≡ new =
    ap (λ (g : ℕ → Leadership). g r.candidate) (with_value-here c.leaderships r.term inner) ∙ with_value-here (c.leaderships r.term) r.candidate new in
    let f : Follows c d = record {
      leads = λ t s l. (l.0, inr l.1, l.2, l.3);
      logs = λ t s l. subst (λ (q : Leadership). IsPrefix (log_of c t s) q.log) (stays t s l) (IsPrefix-refl (log_of c t s));
      back = λ log t s past l p. subst (λ (q : Leadership). IsPrefix log q.log) (sym (stays t s l)) p;
      elections = λ e x. inr x;
      votes = λ v x. x;
      requests = λ r x. x;
      acknowledgements = λ a x. x;
      commitments = λ m x. x;
      terms = λ s. omega arith;
    } in
    record {
      servers = λ s. IsServer-later c d f (c.servers s) (c.servers s).term (omega arith) (i.servers s);
      requests = λ a x. IsRequest-later first c d f a (i.requests a x);
      one_request = i.one_request;
      elections = λ e x. elim x [
        | inl is ↦ subst (IsElected first d) (sym is) (subst (IsElectedWith first d e0) (sym new_is) (record {
          asked = may.asked;
          grown = grown_refl r.term r.log;
          voted = may.voted;
          counted = counted;
          counts = may.counts;
          quorum = may.quorum;
          stored = asked.stored;
          known = IsKnown-follows c d f r.term (r.term + 1) (omega arith) r.committed asked.known;
        }))
        | inr in_c ↦ subst (IsElectedWith first d e) (stays e.request.term e.request.candidate (e, in_c, refl, refl))
            (IsElectedWith-later first c d f e (c.leaderships e.request.term e.request.candidate) (i.elections e in_c))
      ];
      one_election = λ a b x y same. elim x [
        | inl is_a ↦ elim y [
          | inl is_b ↦ is_a ∙ sym is_b
          | inr in_b ↦ absurd (not_led b.request.candidate (b, in_b, sym same ∙ ap (λ (q : Election). q.request.term) is_a, refl))
        ]
        | inr in_a ↦ elim y [
          | inl is_b ↦ absurd (not_led a.request.candidate (a, in_a, same ∙ ap (λ (q : Election). q.request.term) is_b, refl))
          | inr in_b ↦ i.one_election a b in_a in_b same
        ]
      ];
      votes = λ v x. IsVote-later c d f v (i.votes v x);
      one_vote = i.one_vote;
      acknowledgements = λ a x. IsAcknowledged-later c d f a (last_term-acknowledged first c i a x) refl (i.acknowledgements a x);
      voters_keep = λ a voter low log in_a voted ack before own kept led. voters_keep-later c d f a voter low log i.voters_keep in_a voted ack before own kept led;
      commitments = λ m x. IsCommitment-later first c d f m (i.commitments m x);
      counted_before = i.counted_before;
    }

pub become_leader-keeps : (first : Configuration) (c : Cluster) (r : VoteRequest) (votes : Ids) → MayBecomeLeader first c r votes → AreInvariants first c → AreInvariants first (after_action c (BecomeLeader r votes))
become_leader-keeps first c r votes may i =
    become_leader_by-keeps first c r r.committed votes
    (record {
      asked = may.asked;
      not_yet = may.not_yet;
      voted = may.voted;
      counts = record { part = IsPrefix-refl r.committed; one_change_beyond = (i.requests r may.asked).one_change_beyond };
      quorum = may.quorum;
    })
    i
