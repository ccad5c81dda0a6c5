-- A cluster that begins without incoming voters: no leader is ever elected.
use Rattle.std.proofs.Common.{◌≡◌, ℕ, ◌<◌, ◌||◌, true, false, List, [], ◌∷◌, length, refl, sym, ap, subst, inl, inr, arith}
use Rattle.std.proofs.lemmas.Bool.{and_parts}
use Rattle.quorum_sets.specs.Ids.{Ids, no_ids, has, is_empty, majority_passes}
use Rattle.quorum_sets.proofs.Offered.{written_out}
use Rattle.conf_change.specs.Configuration.{Configuration}
use Rattle.raft_safety.specs.Logs.{Entry, Log, IsPrefix}
use Rattle.raft_safety.specs.Configurations.{configuration_after, voters_after, IsQuorumAfter}
use Rattle.raft_safety.specs.Cluster.{Commitment, Cluster, In, Leads, new_cluster}
use Rattle.raft_safety.specs.Steps.{Action, AreAllowed, after_actions}
use Rattle.raft_safety.proofs.Invariants.{AreInvariants}
use Rattle.raft_safety.proofs.Growth.{IsKnown-prefix}
use Rattle.raft_safety.proofs.Theorem.{AreInvariants-reached}

none_of_none : (ids : Ids) → majority_passes (has ids) no_ids ≡ false
none_of_none ids = simp written_out refl

no_quorum : (first : Configuration) → first.incoming ≡ no_ids → (log : Log) → log ≡ [] → (ids : Ids) → IsQuorumAfter first log ids → ⊥
unfolding IsQuorumAfter voters_after configuration_after
no_quorum first none [] is ids quorum =
    let some : majority_passes (has ids) first.incoming ≡ true =
    (and_parts (majority_passes (has ids) first.incoming) (is_empty first.outgoing || majority_passes (has ids) first.outgoing) quorum).0 in
    let some_of_none : majority_passes (has ids) no_ids ≡ true = subst (λ (voters : Ids). majority_passes (has ids) voters ≡ true) none some in
    let none_passes : majority_passes (has ids) no_ids ≡ false = none_of_none ids in
    absurd cc
no_quorum first none (entry ∷ log) is ids quorum = absurd cc

oldest : (entry : Entry) (log : Log) → (first : Entry) × IsPrefix (first ∷ []) (entry ∷ log)
oldest entry [] = (entry, inl refl)
oldest entry (next ∷ log) = let found = oldest next log in (found.0, inr found.1)

-- the oldest entry that is committed would have been committed by a quorum of the first configuration
nothing_committed : (first : Configuration) (c : Cluster) → AreInvariants first c → first.incoming ≡ no_ids → (log : Log) (m : Commitment) → m.log ≡ log → In m c.commitments → ⊥
nothing_committed first c i none [] m is in_m =
    let shorter : length m.counted < length m.log = (i.commitments m in_m).shorter in
    let e : length m.log ≡ 0 = ap (λ (x : Log). length x) is in
    omega arith
nothing_committed first c i none (entry ∷ log) m is in_m =
    let found = oldest entry log in
    let before = i.counted_before m found.0 [] in_m (subst (IsPrefix (found.0 ∷ [])) (sym is) found.1) in
    no_quorum first none before.0.counted before.3 before.0.servers (i.commitments before.0 before.1).quorum

pub Leads-no_voters : (first : Configuration) (actions : List Action) → first.incoming ≡ no_ids → AreAllowed first new_cluster actions → (term leader : ℕ) → ¬ Leads (after_actions new_cluster actions) term leader
Leads-no_voters first actions none allowed term leader leads =
    let c : Cluster = after_actions new_cluster actions in
    let i = AreInvariants-reached first actions allowed in
    let e = i.elections leads.0 leads.1 in
    elim (IsKnown-prefix c leads.0.request.term e.counted leads.0.request.committed e.counts.part (i.requests leads.0.request e.asked).known) [
      | inl empty ↦ no_quorum first none e.counted empty leads.0.votes e.quorum
      | inr by ↦ nothing_committed first c i none by.0.log by.0 refl by.1
    ]
