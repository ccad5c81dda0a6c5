-- The step Campaign keeps the invariants.
use Rattle.std.proofs.Common.{◌≡◌, ℕ, ◌∷◌, ◌+◌, ◌≤◌, ◌<◌, refl, sym, ap, subst, ◌∙◌, inl, inr, arith}
use Rattle.conf_change.specs.Configuration.{Configuration}
use Rattle.raft_safety.specs.Logs.{Log, IsPrefix, last_term}
use Rattle.raft_safety.specs.Cluster.{VoteRequest, Cluster, In, Server, Vote, with_value, HasVoted, HasAcknowledged}
use Rattle.raft_safety.proofs.Invariants.{AreInvariants, IsServer, IsRequest, IsVote}
use Rattle.raft_safety.specs.Steps.{Campaign, MayCampaign, after_action}
use Rattle.raft_safety.proofs.Updates.{with_value-here, with_value-log_stays}
use Rattle.raft_safety.proofs.Steps.OneServer.{Follows-server}
use Rattle.raft_safety.proofs.Growth.{Follows, IsFromLeaders-later, IsKnown-follows, IsKept-back, IsServer-later, IsRequest-later, IsElectedWith-later, IsVote-later, IsCommitment-later, IsAcknowledged-later, voters_keep-later, IsServer-each, IsKnown-prefix}
use Rattle.raft_safety.proofs.Safety.LedTerms.{last_term-acknowledged}
use Rattle.raft_safety.proofs.Logs.{IsPrefix-trans}

pub campaign-keeps : (first : Configuration) (c : Cluster) (server term : ℕ) (counted : Log) → MayCampaign first c server term counted → AreInvariants first c
    → AreInvariants first (after_action c (Campaign server term counted))
campaign-keeps first c server term counted may i =
    let old : Server = c.servers server in
    let new : Server = record old { term = term } in
    let d : Cluster = after_action c (Campaign server term counted) in
    let later : old.term < term = may.later in
    let was : IsServer c old = i.servers server in
    let r : VoteRequest = record { term = term; candidate = server; log = old.log; committed = counted } in
    let f : Follows c d = Follows-server c server new (record { term = term; voter = server; candidate = server } ∷ c.votes) (r ∷ c.requests) c.acknowledgements (omega arith) (λ v x. inr x) (λ r x. inr x) (λ a x. x) in
    -- a vote of this server in this term is not there yet
    let no_vote : (candidate : ℕ) → HasVoted c term server candidate → ⊥ = λ candidate v. (let h : term ≤ old.term = (i.votes _ v).term in omega arith) in
    let no_request : (a : VoteRequest) → In a c.requests → a.term ≡ term → a.candidate ≡ server → ⊥ = λ a in_a t s.
    no_vote server (subst (λ (q : ℕ). HasVoted c q server server) t (subst (λ (q : ℕ). HasVoted c a.term q q) s (i.requests a in_a).own_vote)) in
    let known_term : last_term old.log ≤ old.term = was.term in
    record {
      servers = IsServer-each first c d f i server new (IsServer-later c d f old term (omega arith) was);
      requests = λ a x. elim x [
        | inl is ↦ subst (IsRequest first d) (sym is) (record {
          from_leaders = IsFromLeaders-later c d f old.log was.from_leaders;
          term = omega arith;
          stored = IsPrefix-trans counted old.committed old.log may.committed was.stored;
          one_change_beyond = may.one_change_beyond;
          known = IsKnown-follows c d f (old.term + 1) term (omega arith) counted (IsKnown-prefix c (old.term + 1) counted old.committed may.committed was.known);
          own_vote = inl refl;
        })
        | inr in_c ↦ IsRequest-later first c d f a (i.requests a in_c)
      ];
      one_request = λ a b x y t s. elim x [
        | inl is_a ↦ elim y [
          | inl is_b ↦ is_a ∙ sym is_b
          | inr in_b ↦ absurd (no_request b in_b (sym t ∙ ap (λ (q : VoteRequest). q.term) is_a) (sym s ∙ ap (λ (q : VoteRequest). q.candidate) is_a))
        ]
        | inr in_a ↦ elim y [
          | inl is_b ↦ absurd (no_request a in_a (t ∙ ap (λ (q : VoteRequest). q.term) is_b) (s ∙ ap (λ (q : VoteRequest). q.candidate) is_b))
          | inr in_b ↦ i.one_request a b in_a in_b t s
        ]
      ];
      elections = λ e x. IsElectedWith-later first c d f e (c.leaderships e.request.term e.request.candidate) (i.elections e x);
      one_election = i.one_election;
      votes = λ v x. elim x [
        | inl is ↦ subst (IsVote d) (sym is) (record {
          term = (let e : (with_value c.servers server new server).term ≡ term = ap (λ (q : Server). q.term) (with_value-here c.servers server new) in omega arith);
          asked = (r, inl refl, refl, refl);
        })
        | inr in_c ↦ IsVote-later c d f v (i.votes v in_c)
      ];
      one_vote = λ t v one other x y. elim x [
        | inl is_x ↦ elim y [
          | inl is_y ↦ ap (λ (q : Vote). q.candidate) (is_x ∙ sym is_y)
          | inr in_y ↦ absurd (no_vote other (subst (λ (q : ℕ). HasVoted c q server other) (ap (λ (q : Vote). q.term) is_x) (subst (λ (q : ℕ). HasVoted c t q other) (ap (λ (q : Vote). q.voter) is_x) in_y)))
        ]
        | inr in_x ↦ elim y [
          | inl is_y ↦ absurd (no_vote one (subst (λ (q : ℕ). HasVoted c q server one) (ap (λ (q : Vote). q.term) is_y) (subst (λ (q : ℕ). HasVoted c t q one) (ap (λ (q : Vote). q.voter) is_y) in_x)))
          | inr in_y ↦ i.one_vote t v one other in_x in_y
        ]
      ];
      acknowledgements = λ a x. IsAcknowledged-later c d f a (last_term-acknowledged first c i a x) (with_value-log_stays c.servers server new refl a.server) (i.acknowledgements a x);
      voters_keep = λ a voter low log in_a voted ack before own kept led. elim in_a [
        | inr in_c ↦ elim voted [
          | inr voted_c ↦ voters_keep-later c d f a voter low log i.voters_keep in_c voted_c ack before own kept led
          | inl new_vote ↦ absurd (no_request a in_c (ap (λ (q : Vote). q.term) new_vote) (ap (λ (q : Vote). q.candidate) new_vote))
        ]
        | inl is ↦ elim voted [
          | inr voted_c ↦ (let asked = (i.votes _ voted_c).asked in
              absurd (no_request asked.0 asked.1 (asked.2 ∙ ap (λ (q : VoteRequest). q.term) is) (asked.3 ∙ ap (λ (q : VoteRequest). q.candidate) is)))
          | inl new_vote ↦ (
              let self : voter ≡ server = ap (λ (q : Vote). q.voter) new_vote in
              let t : a.term ≡ term = ap (λ (q : VoteRequest). q.term) is in
              let ack_server : HasAcknowledged c low server log = subst (λ (q : ℕ). HasAcknowledged c low q log) self ack in
              let stored : IsPrefix log old.log = (i.acknowledgements _ ack_server.1).kept log ack_server.2
              (IsKept-back c d f log low (old.term + 1) a.term (omega arith) (omega arith) kept) in
              subst (IsPrefix log) (sym (ap (λ (q : VoteRequest). q.log) is)) stored)
        ]
      ];
      commitments = λ m x. IsCommitment-later first c d f m (i.commitments m x);
      counted_before = i.counted_before;
    }
