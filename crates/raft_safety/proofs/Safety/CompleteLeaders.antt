-- A leader has all that was committed in earlier terms.
use Rattle.std.proofs.Common.{◌≡◌, ℕ, ◌+◌, ◌<◌, ◌∷◌, sym, ap, subst, inl, inr, arith, zero, suc, []}
use Rattle.std.proofs.lemmas.Bool.{cases_lt}
use Rattle.conf_change.specs.Configuration.{Configuration}
use Rattle.raft_safety.specs.Logs.{Log, IsPrefix}
use Rattle.raft_safety.specs.Configurations.{IsOneChangeBeyond}
use Rattle.raft_safety.specs.Cluster.{VoteRequest, Election, Commitment, Cluster, In}
use Rattle.raft_safety.proofs.Configurations.{DoMeet, DoMeet-one_change, voter_changes-prefix}
use Rattle.raft_safety.proofs.Invariants.{IsGrown, AreInvariants, log_of}
use Rattle.raft_safety.proofs.Growth.{IsKnown-prefix}
use Rattle.raft_safety.proofs.Safety.CommittedChain.{IsComplete, AreComplete, IsKnown-alike}
use Rattle.raft_safety.proofs.Safety.OneBehind.{HasQuorum, HasQuorum-has_committed, DoMeet-shared_voter, HasQuorum-one_behind}
use Rattle.raft_safety.proofs.Logs.{IsPrefix-trans, IsPrefix-compare}

pub HasQuorum-of_election : (first : Configuration) (c : Cluster) → (i : AreInvariants first c) → (e : Election) → (its : In e c.elections) → HasQuorum first c e.request (i.elections e its).counted e.votes
HasQuorum-of_election first c i e in_e =
    let known = i.elections e in_e in
    record {
      asked = known.asked;
      voted = known.voted;
      counts = known.counts;
      quorum = known.quorum;
      led = λ other in_other same. inl (ap (λ (x : Election). x.votes) (i.one_election other e in_other in_e same));
    }

-- a request's log is in the leader's
pub IsPrefix-grown : (term : ℕ) (old log : Log) → IsGrown term old log → IsPrefix old log
IsPrefix-grown term old [] g = g
IsPrefix-grown term old (entry ∷ log) (inl same) = inl same
IsPrefix-grown term old (entry ∷ log) (inr more) = inr (IsPrefix-grown term old log more.1)

-- quorums of two parts of a log meet if at most one of its changes of the voters is beyond each of them
parts_meet : (first : Configuration) (one other log : Log) → IsPrefix one log → IsPrefix other log → IsOneChangeBeyond first log one → IsOneChangeBeyond first log other → DoMeet first one other
parts_meet first one other log p q few_one few_other = grind (arith, voter_changes-prefix, IsPrefix-compare, DoMeet-one_change)

-- what was committed before is in the log with which an election was won
in_request : (first : Configuration) (c : Cluster) → AreInvariants first c → (e : Election) → In e c.elections → AreComplete c e.request.term
    → (m : Commitment) → In m c.commitments → m.term < e.request.term → IsPrefix m.log e.request.log
in_request first c i e in_e complete m in_m below =
    let q = HasQuorum-of_election first c i e in_e in
    let r : VoteRequest = e.request in
    let counted : Log = (i.elections e in_e).counted in
    let mine = i.requests r q.asked in
    let its = i.commitments m in_m in
    let in_log : IsPrefix counted r.log = IsPrefix-trans counted r.committed r.log q.counts.part mine.stored in
    elim (IsKnown-alike first c i r.term complete counted m (IsKnown-prefix c r.term counted r.committed q.counts.part mine.known) in_m below) [
      | inr more ↦ IsPrefix-trans m.log counted r.log more in_log
      | inl less ↦ (
          let meet = parts_meet first counted m.counted m.log less its.counted (HasQuorum-one_behind first c i r counted e.votes q complete m in_m below) its.one_change_beyond in
          let common = DoMeet-shared_voter first counted m.counted meet e.votes m.servers q.quorum its.quorum in
          HasQuorum-has_committed first c i r counted e.votes q complete m in_m below common.0 common.1 common.2)
    ]

complete_next : (first : Configuration) (c : Cluster) → AreInvariants first c → (term : ℕ) → AreComplete c term → IsComplete c term
complete_next first c i term complete m leader in_m below leads =
    let e : Election = leads.0 in
    let same : e.request.term ≡ term = leads.2 in
    let known = i.elections e leads.1 in
    let stored : IsPrefix m.log (log_of c e.request.term e.request.candidate) =
    IsPrefix-trans m.log e.request.log (log_of c e.request.term e.request.candidate)
    (in_request first c i e leads.1 (subst (AreComplete c) (sym same) complete) m in_m (subst (λ (t : ℕ). m.term < t) (sym same) below))
    (IsPrefix-grown e.request.term e.request.log (log_of c e.request.term e.request.candidate) known.grown) in
    subst (λ (s : ℕ). IsPrefix m.log (log_of c term s)) leads.3 (subst (λ (t : ℕ). IsPrefix m.log (log_of c t e.request.candidate)) same stored)

pub AreComplete-below : (first : Configuration) (c : Cluster) → AreInvariants first c → (bound : ℕ) → AreComplete c bound
AreComplete-below first c i zero term below = absurd (omega arith)
AreComplete-below first c i (suc bound) term below = elim (cases_lt term bound) [
  | inl less ↦ AreComplete-below first c i bound term less
  | inr not_less ↦ (
      let same : bound ≡ term = omega arith in
      complete_next first c i term (subst (AreComplete c) same (AreComplete-below first c i bound)))
]

pub IsComplete-each_term : (first : Configuration) (c : Cluster) → AreInvariants first c → (term : ℕ) → IsComplete c term
IsComplete-each_term first c i term = AreComplete-below first c i (term + 1) term (omega arith)
