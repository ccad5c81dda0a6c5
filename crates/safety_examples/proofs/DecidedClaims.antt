-- That a claim of raft_safety's Claims.antt is false of a cluster is decided by computing, where it is said what refutes it.
use Rattle.std.proofs.Common.{ℕ, ◌<◌, ◌∷◌, length, refl, inl, inr}
use Rattle.raft_safety.specs.Logs.{Entry, Log, IsPrefix}
use Rattle.raft_safety.specs.Cluster.{Commitment, Cluster}
use Rattle.raft_safety.specs.Claims.{ElectionSafety, LeaderCompleteness, LogMatching, CommittedIsStored, CommitOneLog}
use Rattle.safety_examples.proofs.Decisions.{Decision, number_is, less, so, negated, both, some_in}
use Rattle.safety_examples.proofs.Equality.{log_is, prefix}
use Rattle.safety_examples.proofs.ListedRuns.{Run, last_state}
use Rattle.safety_examples.proofs.DecidedSteps.{steps, leads, AllButField, all_but_field}

-- two servers lead the term
abbrev pub two_leaders : (term one other : ℕ) → (c : Cluster) → Decision (¬ ElectionSafety c)
two_leaders term one other c =
    so (λ found claim. found.1.1 (claim term one other found.0 found.1.0)) (both (leads c term one) (both (leads c term other) (negated (number_is one other))))

-- the leader of the term lacks what was committed in an earlier one
abbrev pub incomplete_leader : (term leader : ℕ) → (c : Cluster) → Decision (¬ LeaderCompleteness c)
incomplete_leader term leader c =
    let log = (c.leaderships term leader).log in
    so (λ found claim. found.1.2.1 (claim found.1.0 term leader found.1.1 found.0 found.1.2.0))
    (both (leads c term leader)
    (some_in (λ (m : Commitment). (m.term < term) × (¬ IsPrefix m.log log)) (λ m. both (less m.term term) (negated (prefix m.log log))) c.commitments))

-- the servers have these entries of one term at one index, and differ up to there
abbrev pub different_entries : (one other : ℕ) → (a b : Entry) → (before_a before_b : Log) → (c : Cluster) → Decision (¬ LogMatching c)
different_entries one other a b before_a before_b c =
    so (λ found claim. found.1.1.1.1 (claim one other a b before_a before_b found.0 found.1.0 found.1.1.0 found.1.1.1.0))
    (both (prefix (a ∷ before_a) (c.servers one).log)
    (both (prefix (b ∷ before_b) (c.servers other).log)
    (both (number_is (length before_a) (length before_b))
    (both (number_is a.term b.term)
    (negated (log_is (a ∷ before_a) (b ∷ before_b)))))))

-- the server has not stored what it takes to be committed
abbrev pub not_stored : (server : ℕ) → (c : Cluster) → Decision (¬ CommittedIsStored c)
not_stored server c = so (λ found claim. found (claim server)) (negated (prefix (c.servers server).committed (c.servers server).log))

-- what two leaders have committed, the second at the same moment or later, differs
abbrev pub two_logs : (term leader other_term other : ℕ) → (early late : Cluster) → Decision (¬ CommitOneLog early late)
two_logs term leader other_term other early late =
    let a = (early.leaderships term leader).committed in
    let b = (late.leaderships other_term other).committed in
    so (λ found claim. elim (claim a b (inr (term, leader, found.0, refl)) (inr (other_term, other, found.1.0, refl))) [ inl less ↦ found.1.1.0 less | inr more ↦ found.1.1.1 more ])
    (both (leads early term leader) (both (leads late other_term other) (both (negated (prefix a b)) (negated (prefix b a)))))

-- ---- a run that shows what a rule is for
-- all but the field of this number of one guard is kept, and a claim is false in the end
abbrev pub Refutes : ℕ → (Cluster → Type 0) → Run steps → Type 0
Refutes field Claim run = AllButField field run × (¬ Claim (last_state steps run))

abbrev pub refutes : {Claim : Cluster → Type 0} → (field : ℕ) → (run : Run steps) → ((c : Cluster) → Decision (¬ Claim c)) → Decision (Refutes field Claim run)
refutes field run refuted = both (all_but_field field run) (refuted (last_state steps run))
