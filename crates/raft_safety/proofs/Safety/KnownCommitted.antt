-- What a server knows to be committed is in the log of each leader of its term and later ones, and all that is known is
-- one chain.
use Rattle.std.proofs.Common.{◌≡◌, ℕ, ◌+◌, ◌≤◌, ◌<◌, sym, subst, inl, inr, arith}
use Rattle.std.proofs.lemmas.Bool.{cases_lt}
use Rattle.conf_change.specs.Configuration.{Configuration}
use Rattle.raft_safety.specs.Logs.{Log, IsPrefix}
use Rattle.raft_safety.specs.Cluster.{Commitment, Cluster, Leads}
use Rattle.raft_safety.proofs.Invariants.{IsKnown, AreInvariants, log_of}
use Rattle.raft_safety.proofs.Safety.OneLeader.{log_of-one_leader}
use Rattle.raft_safety.proofs.Safety.CommittedChain.{AreAlike, IsKnown-both_alike}
use Rattle.raft_safety.proofs.Safety.CompleteLeaders.{AreComplete-below, IsComplete-each_term}
use Rattle.raft_safety.proofs.Logs.{IsPrefix-empty, IsPrefix-trans}

pub IsKnown-in_leader : (first : Configuration) (c : Cluster) → AreInvariants first c → (term leader bound : ℕ) (log : Log) → Leads c term leader → IsKnown c bound log → bound ≤ term + 1
    → IsPrefix log (log_of c term leader)
IsKnown-in_leader first c i term leader bound log leads known order = elim known [
  | inl none ↦ subst (λ (x : Log). IsPrefix x (log_of c term leader)) (sym none) (IsPrefix-empty (log_of c term leader))
  | inr found ↦ (
      let m : Commitment = found.0 in
      let below : m.term < bound = found.2 in
      let led = (i.commitments m found.1).led in
      IsPrefix-trans log m.log (log_of c term leader) found.3 (elim (cases_lt m.term term) [
        | inl less ↦ IsComplete-each_term first c i term m leader found.1 less leads
        | inr not_less ↦ (
            let same : m.term ≡ term = omega arith in
            log_of-one_leader first c i term led.0 leader m.log (subst (λ (t : ℕ). Leads c t led.0) same led.1) leads
            (subst (λ (t : ℕ). IsPrefix m.log (log_of c t led.0)) same led.2))
      ]))
]

IsKnown-later : (c : Cluster) (low high : ℕ) (log : Log) → low ≤ high → IsKnown c low log → IsKnown c high log
IsKnown-later c low high log order (inl none) = inl none
IsKnown-later c low high log order (inr found) = inr (found.0, found.1, (let below : found.0.term < low = found.2 in omega arith), found.3)

pub IsKnown-one_chain : (first : Configuration) (c : Cluster) → AreInvariants first c → (a b : ℕ) (one other : Log) → IsKnown c a one → IsKnown c b other → AreAlike one other
IsKnown-one_chain first c i a b one other known_one known_other =
    IsKnown-both_alike first c i (a + b) (AreComplete-below first c i (a + b)) one other
    (IsKnown-later c a (a + b) one (omega arith) known_one) (IsKnown-later c b (a + b) other (omega arith) known_other)
