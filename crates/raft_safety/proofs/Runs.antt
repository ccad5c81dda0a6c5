-- Runs of anything that takes actions: what each action keeps, a run keeps, and the claims follow from the invariants.
use Rattle.std.proofs.Common.{◌≡◌, List, [], ◌∷◌, ◌++◌, refl, sym, subst}
use Rattle.conf_change.specs.Configuration.{Configuration}
use Rattle.raft_safety.specs.Runs.{after_all, AreAllAllowed}
use Rattle.raft_safety.specs.Cluster.{Cluster}
use Rattle.raft_safety.proofs.Invariants.{AreInvariants}
use Rattle.raft_safety.proofs.Claims.{AreCommitmentsKept, AreClaims, AreClaims-from_invariants}

pub after-append : {S A : Type 0} (step : S → A → S) (s : S) (early late : List A) → after_all step s (early ++ late) ≡ after_all step (after_all step s early) late
after-append step s [] late = refl
after-append step s (action ∷ early) late = after-append step (step s action) early late

module _ {S A : Type 0} (step : S → A → S) (IsAllowed : S → A → Type 0) where
  pub allowed-first : (s : S) (early late : List A) → AreAllAllowed step IsAllowed s (early ++ late) → AreAllAllowed step IsAllowed s early
  allowed-first s [] late allowed = tt
  allowed-first s (action ∷ early) late allowed = (allowed.0, allowed-first (step s action) early late allowed.1)

  pub allowed-then : (s : S) (early late : List A) → AreAllAllowed step IsAllowed s (early ++ late) → AreAllAllowed step IsAllowed (after_all step s early) late
  allowed-then s [] late allowed = allowed
  allowed-then s (action ∷ early) late allowed = allowed-then (step s action) early late allowed.1

  pub allowed-both : (s : S) (early late : List A) → AreAllAllowed step IsAllowed s early → AreAllAllowed step IsAllowed (after_all step s early) late → AreAllAllowed step IsAllowed s (early ++ late)
  allowed-both s [] late allowed more = more
  allowed-both s (action ∷ early) late allowed more = (allowed.0, allowed-both (step s action) early late allowed.1 more)

  module _ (Holds : S → Type 0) (keeps : (s : S) (action : A) → IsAllowed s action → Holds s → Holds (step s action)) where
    pub all-keep : (s : S) (actions : List A) → AreAllAllowed step IsAllowed s actions → Holds s → Holds (after_all step s actions)
    all-keep s [] allowed holds = holds
    all-keep s (action ∷ actions) allowed holds = all-keep (step s action) actions allowed.1 (keeps s action allowed.0 holds)

    module _ (cluster : S → Cluster) (stay : (s : S) (action : A) → IsAllowed s action → Holds s → AreCommitmentsKept (cluster s) (cluster (step s action))) where
      all-stay : (s : S) (actions : List A) → AreAllAllowed step IsAllowed s actions → Holds s → AreCommitmentsKept (cluster s) (cluster (after_all step s actions))
      all-stay s [] allowed holds m x = x
      all-stay s (action ∷ actions) allowed holds m x = all-stay (step s action) actions allowed.1 (keeps s action allowed.0 holds) m (stay s action allowed.0 holds m x)

      -- of two moments of an allowed run
      pub commitments-kept : (s : S) (early late : List A) → AreAllAllowed step IsAllowed s (early ++ late) → Holds s
          → AreCommitmentsKept (cluster (after_all step s early)) (cluster (after_all step s (early ++ late)))
      commitments-kept s early late allowed holds =
          subst (λ (t : S). AreCommitmentsKept (cluster (after_all step s early)) (cluster t)) (sym (after-append step s early late))
          (all-stay (after_all step s early) late (allowed-then s early late allowed) (all-keep s early (allowed-first s early late allowed) holds))

      pub claims-of_run : (first : Configuration) → ((s : S) → Holds s → AreInvariants first (cluster s)) → (s : S) → Holds s → (early late : List A) → AreAllAllowed step IsAllowed s (early ++ late)
          → AreClaims (cluster (after_all step s early)) (cluster (after_all step s (early ++ late)))
      claims-of_run first core s holds early late allowed =
          AreClaims-from_invariants first (cluster (after_all step s early)) (cluster (after_all step s (early ++ late)))
          (core _ (all-keep s early (allowed-first s early late allowed) holds)) (core _ (all-keep s (early ++ late) allowed holds)) (commitments-kept s early late allowed holds)
