-- Who has a quorum of votes in a term that is led is its leader.
use Rattle.std.proofs.Common.{◌≡◌, ℕ, ◌+◌, ◌≤◌, true, sym, subst, inl, inr, arith}
use Rattle.quorum_sets.specs.Ids.{has, Ids}
use Rattle.conf_change.specs.Configuration.{Configuration}
use Rattle.raft_safety.specs.Logs.{Log, IsPrefix}
use Rattle.raft_safety.specs.Configurations.{IsQuorumAfter, voter_changes}
use Rattle.raft_safety.specs.Cluster.{VoteRequest, Election, Cluster, In, HasVoted}
use Rattle.raft_safety.proofs.Configurations.{DoMeet, DoMeet-one_change, voter_changes-prefix}
use Rattle.raft_safety.proofs.Invariants.{IsKnown, MayCountBy, AreInvariants}
use Rattle.raft_safety.proofs.Growth.{IsKnown-prefix}
use Rattle.raft_safety.proofs.Safety.CommittedChain.{IsKnown-both_alike}
use Rattle.raft_safety.proofs.Safety.OneBehind.{HasQuorum, DoMeet-shared_voter, HasQuorum-one_behind}
use Rattle.raft_safety.proofs.Safety.CompleteLeaders.{HasQuorum-of_election, AreComplete-below, IsComplete-each_term}
use Rattle.raft_safety.proofs.Logs.{IsPrefix-empty}

known_few : (first : Configuration) (c : Cluster) → AreInvariants first c → (r : VoteRequest) (counted : Log) (votes : Ids) → HasQuorum first c r counted votes
    → (log : Log) → IsKnown c r.term log → voter_changes first log ≤ voter_changes first counted + 1
known_few first c i r counted votes q log known = elim known [
  | inl none ↦ (let s : voter_changes first log ≤ voter_changes first counted = voter_changes-prefix first log counted (subst (λ (x : Log). IsPrefix x counted) (sym none) (IsPrefix-empty counted)) in omega arith)
  | inr found ↦ (
      let s1 : voter_changes first log ≤ voter_changes first found.0.log = voter_changes-prefix first log found.0.log found.3 in
      let s2 : voter_changes first found.0.log ≤ voter_changes first counted + 1 = HasQuorum-one_behind first c i r counted votes q (AreComplete-below first c i r.term) found.0 found.1 found.2 in
      omega arith)
]

pub wins-alone : (first : Configuration) (c : Cluster) → AreInvariants first c → (e : Election) → In e c.elections → (r : VoteRequest) (counted : Log) (votes : Ids) → In r c.requests
    → ((voter : ℕ) → has votes voter ≡ true → HasVoted c r.term voter r.candidate) → MayCountBy first r counted → IsQuorumAfter first counted votes
    → e.request.term ≡ r.term → e.request.candidate ≡ r.candidate
wins-alone first c i e in_e r counted votes in_r voted counts quorum same =
    let known = i.elections e in_e in
    let other : Log = known.counted in
    let q1 = HasQuorum-of_election first c i e in_e in
    let q2 : HasQuorum first c r counted votes = record { asked = in_r; voted = voted; counts = counts; quorum = quorum; led = λ won in_won its. inr (IsComplete-each_term first c i r.term) } in
    let known_r : IsKnown c r.term counted = IsKnown-prefix c r.term counted r.committed counts.part (i.requests r in_r).known in
    let known_e : IsKnown c e.request.term other = IsKnown-prefix c e.request.term other e.request.committed known.counts.part (i.requests e.request known.asked).known in
    let known1 : IsKnown c r.term other = subst (λ (t : ℕ). IsKnown c t other) same known_e in
    let known2 : IsKnown c e.request.term counted = subst (λ (t : ℕ). IsKnown c t counted) (sym same) known_r in
    let few1 : voter_changes first other ≤ voter_changes first counted + 1 = known_few first c i r counted votes q2 other known1 in
    let few2 : voter_changes first counted ≤ voter_changes first other + 1 = known_few first c i e.request other e.votes q1 counted known2 in
    let meet : DoMeet first other counted =
    elim (IsKnown-both_alike first c i r.term (AreComplete-below first c i r.term) other counted known1 known_r) [
      | inl less ↦ DoMeet-one_change first other counted less few2
      | inr more ↦ (let m = DoMeet-one_change first counted other more few1 in record { forth = m.back; back = m.forth })
    ] in
    let common = DoMeet-shared_voter first other counted meet e.votes votes known.quorum quorum in
    i.one_vote r.term common.0 e.request.candidate r.candidate
    (subst (λ (t : ℕ). HasVoted c t common.0 e.request.candidate) same (known.voted common.0 common.1)) (voted common.0 common.2)
