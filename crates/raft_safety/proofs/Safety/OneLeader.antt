-- A term has one leader, by the invariants; so its log is the same, whichever way the leader was found.
use Rattle.std.proofs.Common.{◌≡◌, ℕ, sym, ap, subst, ◌∙◌}
use Rattle.conf_change.specs.Configuration.{Configuration}
use Rattle.raft_safety.specs.Logs.{Log, IsPrefix}
use Rattle.raft_safety.specs.Cluster.{Election, Cluster, Leads}
use Rattle.raft_safety.specs.Claims.{ElectionSafety}
use Rattle.raft_safety.proofs.Invariants.{AreInvariants, log_of}

pub ElectionSafety-from_invariants : (first : Configuration) (c : Cluster) → AreInvariants first c → ElectionSafety c
ElectionSafety-from_invariants first c i term one other a b =
    let same : a.0 ≡ b.0 = i.one_election a.0 b.0 a.1 b.1 (a.2 ∙ sym b.2) in
    sym a.3 ∙ ap (λ (e : Election). e.request.candidate) same ∙ b.3

-- the log of the term's leader, whichever way it was found
pub log_of-one_leader : (first : Configuration) (c : Cluster) → AreInvariants first c → (term one other : ℕ) (log : Log) → Leads c term one → Leads c term other
    → IsPrefix log (log_of c term one) → IsPrefix log (log_of c term other)
log_of-one_leader first c i term one other log a b p = subst (λ (s : ℕ). IsPrefix log (log_of c term s)) (ElectionSafety-from_invariants first c i term one other a b) p
