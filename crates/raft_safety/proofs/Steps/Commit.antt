-- The step Commit keeps the invariants.
use Rattle.std.proofs.Common.{◌≡◌, ℕ, ◌+◌, ◌≤◌, ◌<◌, ◌∷◌, refl, sym, subst, inl, inr, arith, length, []}
use Rattle.conf_change.specs.Configuration.{Configuration}
use Rattle.raft_safety.specs.Logs.{Log, IsPrefix, Entry}
use Rattle.raft_safety.specs.Cluster.{Election, Commitment, Cluster, In, Leadership}
use Rattle.raft_safety.proofs.Invariants.{AreInvariants, IsElectedWith, IsElectedWith-leads, IsCommitment}
use Rattle.raft_safety.specs.Steps.{Commit, MayCommit, after_action}
use Rattle.raft_safety.proofs.Updates.{leadership-same, with_leadership-here}
use Rattle.raft_safety.proofs.Growth.{Follows, IsCommitment-later}
use Rattle.raft_safety.proofs.Steps.OneLeader.{Follows-leader, one_leader-keeps}
use Rattle.raft_safety.proofs.Logs.{IsPrefix-refl, IsPrefix-trans, IsPrefix-compare, IsPrefix-length}

-- what is committed was committed before, and more
pub commit-rises : (first : Configuration) (c : Cluster) (leader : ℕ) (m : Commitment) → MayCommit first c leader m → AreInvariants first c → IsPrefix (c.leaderships m.term leader).committed m.log
commit-rises first c leader m may i = grind (arith, IsPrefix-compare, IsElectedWith-leads, IsPrefix-length)

pub commit-keeps : (first : Configuration) (c : Cluster) (leader : ℕ) (m : Commitment) → MayCommit first c leader m → AreInvariants first c → AreInvariants first (after_action c (Commit leader m))
commit-keeps first c leader m may i =
    let now : Leadership = c.leaderships m.term leader in
    let new : Leadership = record now { committed = m.log } in
    let d : Cluster = after_action c (Commit leader m) in
    let el : Election = may.leads.0 in
    let its_term : el.request.term ≡ m.term = may.leads.2 in
    let its : IsElectedWith first c el now = subst (IsElectedWith first c el) (leadership-same c m.term leader el.request.term el.request.candidate its_term may.leads.3) (i.elections el may.leads.1) in
    let before : IsPrefix now.committed m.log = commit-rises first c leader m may i in
    let counted_in : IsPrefix m.counted m.log = IsPrefix-trans m.counted now.committed m.log may.counted before in
    let f : Follows c d = Follows-leader c m.term leader new (m ∷ c.commitments) (IsPrefix-refl now.log) (λ log past p. p) (λ n x. inr x) in
    let old_part : (entry : Entry) (log : Log) → IsPrefix (entry ∷ log) now.committed
    → (n : Commitment) × In n d.commitments × (n.term ≤ m.term) × IsPrefix n.counted log × IsPrefix (entry ∷ log) n.log
    = λ entry log p. elim its.known [
      | inl none ↦ (let nothing : entry ∷ log ≡ [] = subst (IsPrefix (entry ∷ log)) none p in absurd cc)
      | inr found ↦ (
          let h = i.counted_before found.0 entry log found.1 (IsPrefix-trans (entry ∷ log) now.committed found.0.log p found.3) in
          (h.0, inr h.1, (let g : h.0.term ≤ found.0.term = h.2 in let k : found.0.term < el.request.term + 1 = found.2 in omega arith), h.3, h.4))
    ] in
    one_leader-keeps first c m.term leader new (m ∷ c.commitments) f i
    (λ e same it. (it.grown, may.in_log, inr (m, inl refl, (let g : e.request.term ≡ m.term = same in omega arith), IsPrefix-refl m.log)))
    (λ n x. elim x [
      | inl is ↦ subst (IsCommitment first d) (sym is) (record {
        led = (leader, may.leads, subst (λ (q : Leadership). IsPrefix m.log q.log) (sym (with_leadership-here c m.term leader new)) may.in_log);
        own_term = may.own_term;
        counted = counted_in;
        shorter = (let h : length m.counted ≤ length now.committed = IsPrefix-length m.counted now.committed may.counted in let g : length now.committed < length m.log = may.longer_than in omega arith);
        one_change_beyond = may.one_change_beyond;
        quorum = may.quorum;
        acknowledged = may.acknowledged;
      })
      | inr in_c ↦ IsCommitment-later first c d f n (i.commitments n in_c)
    ])
    (λ n entry log x p. elim x [
      | inr in_c ↦ (let h = i.counted_before n entry log in_c p in (h.0, inr h.1, h.2, h.3, h.4))
      | inl is ↦ (
          let in_m : IsPrefix (entry ∷ log) m.log = subst (λ (q : Commitment). IsPrefix (entry ∷ log) q.log) is p in
          let found : (k : Commitment) × In k d.commitments × (k.term ≤ m.term) × IsPrefix k.counted log × IsPrefix (entry ∷ log) k.log =
          elim (IsPrefix-compare now.committed (entry ∷ log) m.log before in_m) [
            | inr more ↦ old_part entry log more
            | inl (inl all) ↦ old_part entry log (subst (IsPrefix (entry ∷ log)) (sym all) (IsPrefix-refl (entry ∷ log)))
            | inl (inr part) ↦ (m, inl refl, (omega arith), IsPrefix-trans m.counted now.committed log may.counted part, in_m)
          ] in
          (found.0, found.1, subst (λ (q : Commitment). found.0.term ≤ q.term) (sym is) found.2, found.3, found.4))
    ])
