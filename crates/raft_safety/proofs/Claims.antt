-- The claims follow from the invariants: those of one state, and those of two, where the second has each commitment of the
-- first.
use Rattle.std.proofs.Common.{◌≡◌, ℕ, ◌+◌, ◌≤◌, [], ◌∷◌, length, refl, sym, subst, ◌∙◌, inl, inr, arith}
use Rattle.std.specs.Prelude.{Some, nat_eq}
use Rattle.std.proofs.lemmas.Bool.{cases_eq, cond-false}
use Rattle.std.proofs.lemmas.Bool.Decides.{nat_tests}
use Rattle.conf_change.specs.Configuration.{Configuration}
use Rattle.raft_safety.specs.Logs.{Entry, Log, IsPrefix, entry_at}
use Rattle.raft_safety.specs.Cluster.{Commitment, Cluster, In}
use Rattle.raft_safety.specs.Claims.{ElectionSafety, LeaderCompleteness, CommittedIsStored, LogMatching, StateMachineSafety, IsCommittedIn, CommitOneLog}
use Rattle.raft_safety.proofs.Logs.{IsPrefix-length}
use Rattle.raft_safety.proofs.Invariants.{IsKnown, AreInvariants, IsElectedWith-leads}
use Rattle.raft_safety.proofs.Safety.OneLeader.{ElectionSafety-from_invariants}
use Rattle.raft_safety.proofs.Safety.CommittedChain.{AreAlike}
use Rattle.raft_safety.proofs.Safety.CompleteLeaders.{IsComplete-each_term}
use Rattle.raft_safety.proofs.Safety.KnownCommitted.{IsKnown-one_chain}
use Rattle.raft_safety.proofs.FromLeaders.{logs-match}

-- ---- two states
-- each commitment of the first state is one of the second
abbrev pub AreCommitmentsKept : Cluster → Cluster → Type 0
AreCommitmentsKept c d = (m : Commitment) → In m c.commitments → In m d.commitments

known_then : (c d : Cluster) → AreCommitmentsKept c d → (bound : ℕ) (log : Log) → IsKnown c bound log → IsKnown d bound log
known_then c d kept bound log (inl none) = inl none
known_then c d kept bound log (inr m) = inr (m.0, kept m.0 m.1, m.2, m.3)

-- what is known in the first state and in the second is one chain
pub IsKnown-two_states : (first : Configuration) (c d : Cluster) → AreInvariants first d → AreCommitmentsKept c d → (a b : ℕ) (one other : Log) → IsKnown c a one → IsKnown d b other → AreAlike one other
IsKnown-two_states first c d i kept a b one other known_one known_other = IsKnown-one_chain first d i a b one other (known_then c d kept a one known_one) known_other

-- what a server or a leader has committed was committed by a leader
known_committed : (first : Configuration) (c : Cluster) → AreInvariants first c → (log : Log) → IsCommittedIn c log → (bound : ℕ) × IsKnown c bound log
known_committed first c i log (inl at) = ((c.servers at.0).term + 1, subst (IsKnown c ((c.servers at.0).term + 1)) (sym at.1) (i.servers at.0).known)
known_committed first c i log (inr at) = (at.2.0.request.term + 1, subst (IsKnown c (at.2.0.request.term + 1)) (sym at.3) (IsElectedWith-leads first c i at.0 at.1 at.2).known)

CommitOneLog-from_invariants : (first : Configuration) (c d : Cluster) → AreInvariants first c → AreInvariants first d → AreCommitmentsKept c d → CommitOneLog c d
CommitOneLog-from_invariants first c d i j kept one other at_one at_other =
    let a = known_committed first c i one at_one in
    let b = known_committed first d j other at_other in
    IsKnown-two_states first c d j kept a.0 b.0 one other a.1 b.1

-- ---- entries by their index
entry_at_within : (log : Log) (index : ℕ) (entry : Entry) → entry_at log index ≡ Some entry → index ≤ length log
entry_at_within [] index entry is = absurd cc
entry_at_within (newest ∷ log) index entry is = elim (cases_eq index (length (newest ∷ log))) [
  | inl last ↦ omega arith
  | inr other ↦ (
      let e : entry_at (newest ∷ log) index ≡ entry_at log index = cond-false (nat_eq index (length (newest ∷ log))) (Some newest) (entry_at log index) (grind (arith, nat_tests)) in
      let h : index ≤ length log = entry_at_within log index entry (sym e ∙ is) in
      omega arith)
]

entry_at_prefix : (a log : Log) (index : ℕ) (entry : Entry) → IsPrefix a log → entry_at a index ≡ Some entry → entry_at log index ≡ Some entry
entry_at_prefix a [] index entry p is = subst (λ (x : Log). entry_at x index ≡ Some entry) p is
entry_at_prefix a (newest ∷ log) index entry (inl p) is = subst (λ (x : Log). entry_at x index ≡ Some entry) p is
entry_at_prefix a (newest ∷ log) index entry (inr p) is = grind (arith, entry_at_within, IsPrefix-length, cond-false, nat_tests, entry_at_prefix a log index entry p is)

same_entries : (a b : Log) (index : ℕ) (one other : Entry) → AreAlike a b → entry_at a index ≡ Some one → entry_at b index ≡ Some other → one ≡ other
same_entries a b index one other (inl p) x y = let e : entry_at b index ≡ Some one = entry_at_prefix a b index one p x in cc
same_entries a b index one other (inr p) x y = let e : entry_at a index ≡ Some other = entry_at_prefix b a index other p y in cc

-- all claims of a run: of its end, and of an earlier moment and its end
pub record AreClaims (early late : Cluster) : Type 0 where
  pub election_safety : ElectionSafety late
  pub leader_completeness : LeaderCompleteness late
  pub log_matching : LogMatching late
  pub stored : CommittedIsStored late
  pub state_machine_safety : StateMachineSafety early late
  pub one_log : CommitOneLog early late

pub AreClaims-from_invariants : (first : Configuration) (c d : Cluster) → AreInvariants first c → AreInvariants first d → AreCommitmentsKept c d → AreClaims c d
AreClaims-from_invariants first c d i j kept = record {
  election_safety = ElectionSafety-from_invariants first d j;
  leader_completeness = λ m term leader in_m leads below. IsComplete-each_term first d j term m leader in_m below leads;
  log_matching = λ one other a b before_a before_b p q place same.
      logs-match first d j (d.servers one).log (d.servers other).log (j.servers one).from_leaders (j.servers other).from_leaders a b before_a before_b p q place same;
  stored = λ server. (j.servers server).stored;
  state_machine_safety = λ one other index a b at_one at_other.
      same_entries (c.servers one).committed (d.servers other).committed index a b
      (CommitOneLog-from_invariants first c d i j kept (c.servers one).committed (d.servers other).committed (inl (one, refl)) (inl (other, refl)))
      at_one at_other;
  one_log = CommitOneLog-from_invariants first c d i j kept;
}
