-- The claims, for runs that wait.
use Rattle.std.proofs.Common.{List, ◌++◌, refl, inr}
use Rattle.conf_change.specs.Configuration.{Configuration}
use Rattle.raft_safety.specs.Waiting.{IsAllowedWaiting, WaitingCluster, WaitingAction, Commit, new_waiting_cluster, after_waiting, after_waitings, AreAllowedWaiting}
use Rattle.raft_safety.proofs.Claims.{AreCommitmentsKept, AreClaims}
use Rattle.raft_safety.proofs.Runs.{claims-of_run}
use Rattle.raft_safety.proofs.Theorem.{AreInvariants-new}
use Rattle.raft_safety.proofs.Waiting.Keeps.{AreWaitingInvariants, waiting_keeps}

stay : (w : WaitingCluster) (action : WaitingAction) → AreCommitmentsKept w.cluster (after_waiting w action).cluster
stay w (Commit leader commitment) m x = inr x
stay w action m x = x

pub claims-waiting : (first : Configuration) (early late : List WaitingAction) → AreAllowedWaiting first new_waiting_cluster (early ++ late)
    → AreClaims (after_waitings new_waiting_cluster early).cluster (after_waitings new_waiting_cluster (early ++ late)).cluster
claims-waiting first =
    claims-of_run after_waiting (IsAllowedWaiting first) (AreWaitingInvariants first) (waiting_keeps first) (λ w. w.cluster) (λ w action may i. stay w action) first (λ w i. i.core)
    new_waiting_cluster (record { core = AreInvariants-new first; known = λ s. refl; stored = λ s. refl; changes = λ m x. absurd x })
