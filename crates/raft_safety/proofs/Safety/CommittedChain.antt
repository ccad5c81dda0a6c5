-- What was committed in terms below a bound is one chain of logs, if the leaders of these terms have what was committed
-- before them.
use Rattle.std.proofs.Common.{◌≡◌, ℕ, ◌≤◌, ◌<◌, ◌⊎◌, sym, subst, inl, inr, arith}
use Rattle.std.proofs.lemmas.Bool.{cases_lt}
use Rattle.conf_change.specs.Configuration.{Configuration}
use Rattle.raft_safety.specs.Logs.{Log, IsPrefix}
use Rattle.raft_safety.specs.Cluster.{Commitment, Cluster, In, Leads}
use Rattle.raft_safety.proofs.Invariants.{IsKept, IsKnown, AreInvariants, log_of}
use Rattle.raft_safety.proofs.Safety.OneLeader.{log_of-one_leader}
use Rattle.raft_safety.proofs.Logs.{IsPrefix-empty, IsPrefix-trans, IsPrefix-compare}

-- one log is the beginning of the other
abbrev pub AreAlike : Log → Log → Type 0
AreAlike one other = IsPrefix one other ⊎ IsPrefix other one

-- what was committed in terms before this one is in the log of the term's leader
abbrev pub IsComplete : Cluster → ℕ → Type 0
IsComplete c term = (m : Commitment) (leader : ℕ) → In m c.commitments → m.term < term → Leads c term leader → IsPrefix m.log (log_of c term leader)

-- so it is in all terms below
abbrev pub AreComplete : Cluster → ℕ → Type 0
AreComplete c bound = (term : ℕ) → term < bound → IsComplete c term

later_alike : (first : Configuration) (c : Cluster) → AreInvariants first c → (bound : ℕ) → AreComplete c bound → (m n : Commitment)
    → In m c.commitments → In n c.commitments → m.term ≤ n.term → n.term < bound → AreAlike m.log n.log
later_alike first c i bound complete m n in_m in_n order below =
    let led = (i.commitments n in_n).led in
    elim (cases_lt m.term n.term) [
      | inl less ↦ IsPrefix-compare m.log n.log (log_of c n.term led.0) (complete n.term below m led.0 in_m less led.1) led.2
      | inr not_less ↦ (
          let same : m.term ≡ n.term = omega arith in
          let its = (i.commitments m in_m).led in
          let leads : Leads c n.term its.0 = subst (λ (t : ℕ). Leads c t its.0) same its.1 in
          let here : IsPrefix m.log (log_of c n.term its.0) = subst (λ (t : ℕ). IsPrefix m.log (log_of c t its.0)) same its.2 in
          IsPrefix-compare m.log n.log (log_of c n.term led.0) (log_of-one_leader first c i n.term its.0 led.0 m.log leads led.1 here) led.2)
    ]

swapped : (one other : Log) → AreAlike one other → AreAlike other one
swapped one other (inl p) = inr p
swapped one other (inr p) = inl p

commitments_alike : (first : Configuration) (c : Cluster) → AreInvariants first c → (bound : ℕ) → AreComplete c bound → (m n : Commitment)
    → In m c.commitments → In n c.commitments → m.term < bound → n.term < bound → AreAlike m.log n.log
commitments_alike first c i bound complete m n in_m in_n below_m below_n = elim (cases_lt n.term m.term) [
  | inl less ↦ swapped n.log m.log (later_alike first c i bound complete n m in_n in_m (omega arith) below_m)
  | inr not_less ↦ later_alike first c i bound complete m n in_m in_n not_less below_n
]

-- a part of one of two such logs, and the other
part_alike : (part one other : Log) → IsPrefix part one → AreAlike one other → AreAlike part other
part_alike part one other p (inl q) = inl (IsPrefix-trans part one other p q)
part_alike part one other p (inr q) = IsPrefix-compare part other one p q

pub IsKnown-alike : (first : Configuration) (c : Cluster) → AreInvariants first c → (bound : ℕ) → AreComplete c bound → (log : Log) (m : Commitment)
    → IsKnown c bound log → In m c.commitments → m.term < bound → AreAlike log m.log
IsKnown-alike first c i bound complete log m known in_m below = elim known [
  | inl none ↦ inl (subst (λ (x : Log). IsPrefix x m.log) (sym none) (IsPrefix-empty m.log))
  | inr found ↦ part_alike log found.0.log m.log found.3 (commitments_alike first c i bound complete found.0 m found.1 in_m found.2 below)
]

pub IsKnown-both_alike : (first : Configuration) (c : Cluster) → AreInvariants first c → (bound : ℕ) → AreComplete c bound → (one other : Log)
    → IsKnown c bound one → IsKnown c bound other → AreAlike one other
IsKnown-both_alike first c i bound complete one other known_one known_other = elim known_other [
  | inl none ↦ inr (subst (λ (x : Log). IsPrefix x one) (sym none) (IsPrefix-empty one))
  | inr found ↦ swapped other one (part_alike other found.0.log one found.3 (swapped one found.0.log (IsKnown-alike first c i bound complete one found.0 known_one found.1 found.2)))
]

-- committed logs are kept by the leaders of later terms below the bound
pub IsKept-below : (c : Cluster) (bound : ℕ) → AreComplete c bound → (m : Commitment) → In m c.commitments → IsKept c m.log m.term bound
IsKept-below c bound complete m in_m term leader after before leads = complete term before m leader in_m after leads
