-- The step GrantVote keeps the invariants.
use Rattle.std.proofs.Common.{◌≡◌, ℕ, ◌∷◌, ◌+◌, ◌≤◌, refl, sym, ap, subst, ◌∙◌, inl, inr, arith}
use Rattle.std.proofs.lemmas.Bool.{cases_lt}
use Rattle.conf_change.specs.Configuration.{Configuration}
use Rattle.raft_safety.specs.Logs.{IsPrefix, IsUpToDate}
use Rattle.raft_safety.specs.Cluster.{VoteRequest, Election, Cluster, Server, Vote, with_value, HasVoted, HasAcknowledged}
use Rattle.raft_safety.proofs.Invariants.{IsKept, AreInvariants, log_of, IsServer, IsVote}
use Rattle.raft_safety.specs.Steps.{GrantVote, MayGrantVote, after_action}
use Rattle.raft_safety.proofs.Terms.{IsPrefix-up_to_date}
use Rattle.raft_safety.proofs.Updates.{with_value-here, with_value-log_stays}
use Rattle.raft_safety.proofs.Steps.OneServer.{Follows-server}
use Rattle.raft_safety.proofs.Growth.{Follows, IsKept-back, IsServer-later, IsRequest-later, IsElectedWith-later, IsVote-later, IsCommitment-later, IsAcknowledged-later, voters_keep-later, IsServer-each}
use Rattle.raft_safety.proofs.Safety.OneLeader.{ElectionSafety-from_invariants}
use Rattle.raft_safety.proofs.Safety.CompleteLeaders.{IsPrefix-grown}
use Rattle.raft_safety.proofs.Safety.LedTerms.{leaders-are, led_terms-positive, last_term-acknowledged}
use Rattle.raft_safety.proofs.Logs.{IsPrefix-trans}

pub grant_vote-keeps : (first : Configuration) (c : Cluster) (voter : ℕ) (r : VoteRequest) → MayGrantVote c voter r → AreInvariants first c → AreInvariants first (after_action c (GrantVote voter r))
grant_vote-keeps first c voter r may i =
    let old : Server = c.servers voter in
    let new : Server = record old { term = r.term } in
    let d : Cluster = after_action c (GrantVote voter r) in
    let was : IsServer c old = i.servers voter in
    let order : old.term ≤ r.term = may.not_past in
    let f : Follows c d = Follows-server c voter new (record { term = r.term; voter = voter; candidate = r.candidate } ∷ c.votes) c.requests c.acknowledgements order (λ v x. inr x) (λ r x. x) (λ a x. x) in
    record {
      servers = IsServer-each first c d f i voter new (IsServer-later c d f old r.term order was);
      requests = λ a x. IsRequest-later first c d f a (i.requests a x);
      one_request = i.one_request;
      elections = λ e x. IsElectedWith-later first c d f e (c.leaderships e.request.term e.request.candidate) (i.elections e x);
      one_election = i.one_election;
      votes = λ v x. elim x [
        | inl is ↦ subst (IsVote d) (sym is) (record {
          term = (let e : (with_value c.servers voter new voter).term ≡ r.term = ap (λ (q : Server). q.term) (with_value-here c.servers voter new) in omega arith);
          asked = (r, may.asked, refl, refl);
        })
        | inr in_c ↦ IsVote-later c d f v (i.votes v in_c)
      ];
      one_vote = λ t v one other x y. elim x [
        | inl is_x ↦ elim y [
          | inl is_y ↦ ap (λ (q : Vote). q.candidate) (is_x ∙ sym is_y)
          | inr in_y ↦ ap (λ (q : Vote). q.candidate) is_x ∙ sym (may.once _ in_y (ap (λ (q : Vote). q.term) is_x) (ap (λ (q : Vote). q.voter) is_x))
        ]
        | inr in_x ↦ elim y [
          | inl is_y ↦ may.once _ in_x (ap (λ (q : Vote). q.term) is_y) (ap (λ (q : Vote). q.voter) is_y) ∙ sym (ap (λ (q : Vote). q.candidate) is_y)
          | inr in_y ↦ i.one_vote t v one other in_x in_y
        ]
      ];
      acknowledgements = λ a x. IsAcknowledged-later c d f a (last_term-acknowledged first c i a x) (with_value-log_stays c.servers voter new refl a.server) (i.acknowledgements a x);
      voters_keep = λ a w low log in_a voted ack before own kept led. elim voted [
        | inr voted_c ↦ voters_keep-later c d f a w low log i.voters_keep in_a voted_c ack before own kept led
        | inl new_vote ↦ (
            let t : a.term ≡ r.term = ap (λ (q : Vote). q.term) new_vote in
            let self : w ≡ voter = ap (λ (q : Vote). q.voter) new_vote in
            let s : a.candidate ≡ r.candidate = ap (λ (q : Vote). q.candidate) new_vote in
            let same : a ≡ r = i.one_request a r in_a may.asked t s in
            let kept_c : IsKept c log low a.term = IsKept-back c d f log low a.term a.term (omega arith) (omega arith) kept in
            let kept_all : IsKept c log low (old.term + 1) = λ u leader after below leads. elim (cases_lt u a.term) [
              | inl less ↦ kept_c u leader after less leads
              | inr not_less ↦ (
                  let now : u ≡ a.term = omega arith in
                  let e : Election = leads.0 in
                  let its_term : e.request.term ≡ a.term = leads.2 ∙ now in
                  let here : IsPrefix log (log_of c e.request.term e.request.candidate) = elim (led e leads.1 its_term) [
                    | inr has_it ↦ has_it
                    | inl has_voted ↦ (
                        let vote : HasVoted c e.request.term w e.request.candidate = (i.elections e leads.1).voted w has_voted in
                        let its : e.request.candidate ≡ r.candidate = may.once _ vote (its_term ∙ t) self in
                        let is_a : e.request ≡ a = i.one_request e.request a (i.elections e leads.1).asked in_a its_term (its ∙ sym s) in
                        let vote_a : HasVoted c a.term w a.candidate = subst (λ (q : VoteRequest). HasVoted c q.term w q.candidate) is_a vote in
                        let has_it : IsPrefix log a.log = voters_keep-later c d f a w low log i.voters_keep in_a vote_a ack before own kept led in
                        IsPrefix-trans log e.request.log (log_of c e.request.term e.request.candidate)
                        (subst (λ (q : VoteRequest). IsPrefix log q.log) (sym is_a) has_it)
                        (IsPrefix-grown e.request.term e.request.log (log_of c e.request.term e.request.candidate) (i.elections e leads.1).grown))
                  ] in
                  subst (λ (q : ℕ). IsPrefix log (log_of c u q)) leads.3 (subst (λ (q : ℕ). IsPrefix log (log_of c q e.request.candidate)) leads.2 here))
            ] in
            let ack_voter : HasAcknowledged c low voter log = subst (λ (q : ℕ). HasAcknowledged c low q log) self ack in
            let known = i.acknowledgements _ ack_voter.1 in
            let stored : IsPrefix log old.log = known.kept log ack_voter.2 kept_all in
            IsPrefix-up_to_date c (leaders-are first c i) (ElectionSafety-from_invariants first c i) a.log old.log log low known.led.0 a.term
            (i.requests a in_a).from_leaders was.from_leaders
            (subst (λ (q : VoteRequest). IsUpToDate q.log old.log) (sym same) may.up_to_date)
            (i.requests a in_a).term known.led.1
            (IsPrefix-trans log ack_voter.0 (log_of c low known.led.0) ack_voter.2 known.led.2)
            own (led_terms-positive first c i low known.led.0 known.led.1) stored kept_c)
      ];
      commitments = λ m x. IsCommitment-later first c d f m (i.commitments m x);
      counted_before = i.counted_before;
    }
