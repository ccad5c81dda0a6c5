-- Who has a quorum of votes is at most one change of the voters behind all that was committed in earlier terms.
use Rattle.std.proofs.Common.{◌≡◌, ℕ, ◌+◌, ◌≤◌, ◌<◌, ◌⊎◌, true, ◌∷◌, refl, sym, ap, subst, ◌∙◌, inl, inr, arith}
use Rattle.std.proofs.lemmas.Bool.{cases_lt}
use Rattle.quorum_sets.specs.Ids.{has, Ids}
use Rattle.conf_change.specs.Configuration.{Configuration}
use Rattle.raft_safety.specs.Logs.{Log, IsPrefix}
use Rattle.raft_safety.specs.Configurations.{IsQuorumAfter, voter_changes}
use Rattle.raft_safety.specs.Cluster.{VoteRequest, Election, Commitment, Cluster, In, HasVoted}
use Rattle.raft_safety.proofs.Configurations.{DoMeet, DoMeet-one_change, voter_changes-prefix, change-numbered}
use Rattle.raft_safety.proofs.Invariants.{MayCountBy, AreInvariants, log_of}
use Rattle.raft_safety.proofs.Growth.{IsKnown-prefix}
use Rattle.raft_safety.proofs.Safety.CommittedChain.{IsComplete, AreComplete, IsKnown-alike, IsKept-below}
use Rattle.raft_safety.proofs.Logs.{IsPrefix-compare}

-- a request that has a quorum of votes; if its term is led, these are the leader's, or the leader is complete
pub record HasQuorum (first : Configuration) (c : Cluster) (r : VoteRequest) (counted : Log) (votes : Ids) : Type 0 where
  pub asked : In r c.requests
  pub voted : (voter : ℕ) → has votes voter ≡ true → HasVoted c r.term voter r.candidate
  pub counts : MayCountBy first r counted
  pub quorum : IsQuorumAfter first counted votes
  pub led : (e : Election) → In e c.elections → e.request.term ≡ r.term → (e.votes ≡ votes) ⊎ IsComplete c r.term

-- what a quorum committed that shares a voter with the votes is in the candidate's log
pub HasQuorum-has_committed : (first : Configuration) (c : Cluster) → AreInvariants first c → (r : VoteRequest) (counted : Log) (votes : Ids) → HasQuorum first c r counted votes → AreComplete c r.term
    → (m : Commitment) → In m c.commitments → m.term < r.term → (voter : ℕ) → has votes voter ≡ true → has m.servers voter ≡ true → IsPrefix m.log r.log
HasQuorum-has_committed first c i r counted votes q complete m in_m below voter in_votes in_servers =
    let known = i.commitments m in_m in
    i.voters_keep r voter m.term m.log q.asked (q.voted voter in_votes) (known.acknowledged voter in_servers) below known.own_term
    (IsKept-below c r.term complete m in_m)
    (λ e in_e same. elim (q.led e in_e same) [
      | inl its ↦ inl (ap (λ (ids : Ids). has ids voter) its ∙ in_votes)
      | inr whole ↦ inr (subst (λ (t : ℕ). IsPrefix m.log (log_of c t e.request.candidate)) (sym same) (whole m e.request.candidate in_m below (e, in_e, same, refl)))
    ])

-- a voter that two quorums share
pub DoMeet-shared_voter : (first : Configuration) (one other : Log) → DoMeet first one other → (a b : Ids) → IsQuorumAfter first one a → IsQuorumAfter first other b
    → (id : ℕ) × (has a id ≡ true) × (has b id ≡ true)
unfolding IsQuorumAfter
DoMeet-shared_voter first one other meet a b qa qb =
    let found = meet.forth a b (record { quorum_before = qa; quorum_after = qb }) in (found.0, found.1.in_first, found.1.in_second)

pub HasQuorum-one_behind : (first : Configuration) (c : Cluster) → AreInvariants first c → (r : VoteRequest) (counted : Log) (votes : Ids) → HasQuorum first c r counted votes → AreComplete c r.term
    → (m : Commitment) → In m c.commitments → m.term < r.term → voter_changes first m.log ≤ voter_changes first counted + 1
HasQuorum-one_behind first c i r counted votes q complete m in_m below = elim (cases_lt (voter_changes first counted + 1) (voter_changes first m.log)) [
  | inr few ↦ few
  | inl many ↦ absurd (
      let j = change-numbered first (voter_changes first counted + 1) m.log many in
      let e0 : voter_changes first (j.0 ∷ j.1) ≡ voter_changes first counted + 1 + 1 = j.3 in
      let e1 : voter_changes first j.1 ≡ voter_changes first counted + 1 = j.4 in
      let found = i.counted_before m j.0 j.1 in_m j.2 in
      let n : Commitment = found.0 in
      let order : n.term ≤ m.term = found.2 in
      let its = i.commitments n found.1 in
      let mine = i.requests r q.asked in
      let s1 : voter_changes first n.counted ≤ voter_changes first j.1 = voter_changes-prefix first n.counted j.1 found.3 in
      let s2 : voter_changes first (j.0 ∷ j.1) ≤ voter_changes first n.log = voter_changes-prefix first (j.0 ∷ j.1) n.log found.4 in
      let s3 : voter_changes first n.log ≤ voter_changes first n.counted + 1 = its.one_change_beyond in
      let below_n : n.term < r.term = omega arith in
      let before : IsPrefix counted n.log = elim (IsKnown-alike first c i r.term complete counted n (IsKnown-prefix c r.term counted r.committed q.counts.part mine.known) found.1 below_n) [
        | inl p ↦ p
        | inr p ↦ (let s4 : voter_changes first n.log ≤ voter_changes first counted = voter_changes-prefix first n.log counted p in absurd (omega arith))
      ] in
      let less : IsPrefix counted n.counted = elim (IsPrefix-compare counted n.counted n.log before its.counted) [
        | inl p ↦ p
        | inr p ↦ (let s4 : voter_changes first n.counted ≤ voter_changes first counted = voter_changes-prefix first n.counted counted p in absurd (omega arith))
      ] in
      let meet = DoMeet-one_change first counted n.counted less (omega arith) in
      let common = DoMeet-shared_voter first counted n.counted meet votes n.servers q.quorum its.quorum in
      let has_it : IsPrefix n.log r.log = HasQuorum-has_committed first c i r counted votes q complete n found.1 below_n common.0 common.1 common.2 in
      let s5 : voter_changes first n.log ≤ voter_changes first r.log = voter_changes-prefix first n.log r.log has_it in
      let s6 : voter_changes first r.log ≤ voter_changes first counted + 1 = q.counts.one_change_beyond in
      omega arith)
]
