-- The terms in the logs of leaders.
use Rattle.std.proofs.Common.{ℕ, ◌≤◌, ◌<◌, subst, arith}
use Rattle.conf_change.specs.Configuration.{Configuration}
use Rattle.raft_safety.specs.Logs.{Log, IsPrefix, last_term}
use Rattle.raft_safety.specs.Cluster.{Election, Acknowledgement, Cluster, In, Leads}
use Rattle.raft_safety.proofs.Invariants.{IsGrown, AreInvariants, log_of}
use Rattle.raft_safety.proofs.Terms.{AreLeaders, DoTermsRise-leader, last_term-prefix, last_term-grown}
use Rattle.raft_safety.proofs.Logs.{IsPrefix-trans}

pub leaders-are : (first : Configuration) (c : Cluster) → AreInvariants first c → AreLeaders c
leaders-are first c i term leader leads =
    let e : Election = leads.0 in
    let known = i.elections e leads.1 in
    let asked = i.requests e.request known.asked in
    record {
      request = e.request;
      from_leaders = asked.from_leaders;
      past = subst (λ (t : ℕ). last_term e.request.log < t) leads.2 asked.term;
      grown = subst (λ (s : ℕ). IsGrown term e.request.log (log_of c term s)) leads.3
          (subst (λ (t : ℕ). IsGrown t e.request.log (log_of c t e.request.candidate)) leads.2 known.grown);
    }

pub last_term-led : (first : Configuration) (c : Cluster) → AreInvariants first c → (term leader : ℕ) (log : Log) → Leads c term leader → IsPrefix log (log_of c term leader) → last_term log ≤ term
last_term-led first c i term leader log leads p =
    let l = leaders-are first c i in
    let known = l term leader leads in
    let high : last_term log ≤ last_term (log_of c term leader) = last_term-prefix log (log_of c term leader) p (DoTermsRise-leader c l term leader leads) in
    let top : last_term (log_of c term leader) ≤ term = last_term-grown term known.request.log (log_of c term leader) known.grown known.past in
    omega arith

pub led_terms-positive : (first : Configuration) (c : Cluster) → AreInvariants first c → (term leader : ℕ) → Leads c term leader → 0 < term
led_terms-positive first c i term leader leads = let past : last_term (leaders-are first c i term leader leads).request.log < term = (leaders-are first c i term leader leads).past in omega arith

pub last_term-acknowledged : (first : Configuration) (c : Cluster) → AreInvariants first c → (a : Acknowledgement) → In a c.acknowledgements → (log : Log) → IsPrefix log a.log → last_term log ≤ a.term
last_term-acknowledged first c i a in_a log p =
    let led = (i.acknowledgements a in_a).led in
    last_term-led first c i a.term led.0 log led.1 (IsPrefix-trans log a.log (log_of c a.term led.0) p led.2)
