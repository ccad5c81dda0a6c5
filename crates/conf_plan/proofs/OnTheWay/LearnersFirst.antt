-- The path on which new voters are learners first: what holds of it, part by part, and how long it is.
use Rattle.std.proofs.Common.{◌≡◌, ℕ, ◌+◌, ◌≤◌, true, false, ◌||◌, List, ◌∷◌, ◌++◌, length, refl, sym, ap, subst, ◌∙◌, arith}
use Rattle.std.specs.Prelude.{nat_le}
use Rattle.std.proofs.lemmas.Bool.{or_left, cond_both, both_ways, eqb-true, le-leb}
use Rattle.quorum_sets.specs.Ids.{no_ids, has, is_empty, difference_count, union}
use Rattle.quorum_sets.proofs.Offered.{has-no_ids, has-union}
use Rattle.conf_change.specs.Configuration.{Configuration, is_member}
use Rattle.conf_change.specs.declared.step.Step.{Step}
use Rattle.conf_change.specs.declared.step.Step.TheVariants.{Simple}
use Rattle.conf_change.proofs.Offered.{is_same_set-refl, outgoing-none}
use Rattle.conf_plan.specs.OnTheWay.{HasQuorumsOf, MakesVotersOfReady, NoVoterCatchesUp, LearnersFirstPromises}
use Rattle.conf_plan.specs.LearnersFirst.{newcomers, learner_changes, with_learners, learners_first_from_single}
use Rattle.conf_plan.specs.PathBy.{path_by}
use Rattle.conf_plan.specs.Planned.{single_with, single_steps, planned_from_single, planned}
use Rattle.conf_plan.specs.Run.{Gives, IsValidWithVoter, IsRun, IsRunWith}
use Rattle.conf_plan.specs.declared.strategy.Strategy.TheVariants.{LearnersFirst}
use Rattle.conf_plan.proofs.FindingMoves.ResultingConfiguration.{IsSingle, single_with-own}
use Rattle.conf_plan.proofs.BestPlan.PreservedMembers.{Keeps, moves-remove_no_wanted, path_by-preserves_all, planned_from_single-keeps}
use Rattle.conf_plan.proofs.BestPlan.FewestSteps.{path_by-shortest, planned_from_single-shortest, planned-shortest}
use Rattle.conf_plan.proofs.BestPlan.Theorem.{run-overlaps}
use Rattle.conf_plan.proofs.PlannedSteps.AlongPath.{path_by-holds}
use Rattle.conf_plan.proofs.PlannedSteps.RunToTarget.{planned-is_run, planned-at_most_four}
use Rattle.conf_plan.proofs.Runs.Chains.{IsRun-from_IsRunWith, IsRunWith-weaker}
use Rattle.conf_plan.proofs.OnTheWay.Newcomers.{HasNoNewcomer, HasNoNewcomer-empty, HasNoNewcomer-with_newcomers, newcomers-learn, newcomers-own, with_newcomers-has_members, with_newcomers-is_single}
use Rattle.conf_plan.proofs.OnTheWay.Quorums.{AreCovered, AreCovered-now, HasQuorumsOf-leaving, HasQuorumsOf-single, KeepsTolerance-from_quorums, planned_from_single-keeps_quorums}
use Rattle.conf_plan.proofs.OnTheWay.ReadyVoters.{KeepsVoters, KeepsVoters-leaving, MakesVotersOfReady-from_kept, NoVoterCatchesUp-from_kept, planned_from_single-keeps_voters, simple_moves-keep_voters}

abbrev learners_first : Configuration → Configuration → List Step
learners_first = path_by LearnersFirst no_ids

-- ---- its shapes
-- from a configuration that is not joint, the plan has no first step to leave it
pub planned-of_single : (c target : Configuration) → IsSingle c → planned c target ≡ planned_from_single c target
planned-of_single c target single = grind (arith, single.single)

-- with newcomers, the step that makes them learners is the one by the moves
pub learners_first-some_voter : (c target : Configuration) → IsSingle c → IsValidWithVoter target → is_empty (newcomers c target) ≡ false
    → learners_first_from_single c target ≡ single_steps c c.incoming (union c.learners (newcomers c target)) ++ planned_from_single (with_learners c (newcomers c target)) target
learners_first-some_voter c target single valid_with_voter some_voter =
    let new = newcomers c target in
    let none = eqb-true (difference_count c.incoming c.incoming) 0 (is_same_set-refl c.incoming) in
    let few : nat_le (difference_count c.incoming c.incoming) 1 ≡ true = le-leb (difference_count c.incoming c.incoming) 1 (omega arith) in
    rw (some_voter, few, planned-of_single (with_learners c new) target (with_newcomers-is_single c target single valid_with_voter)) refl

-- ---- what holds at each step
-- what holds when newcomers become learners, and along the plan from a configuration that knows all voters of the target
pub from_single-holds : (Holds : Configuration → Step → Configuration → Type 0) (c target : Configuration) → IsSingle c → IsValidWithVoter target
    → Holds c (Simple (learner_changes c (newcomers c target))) (single_with c.incoming (union c.learners (newcomers c target)))
    → ((d : Configuration) → IsSingle d → d.incoming ≡ c.incoming → HasNoNewcomer d target → ((q : ℕ) → is_member c q ≡ true → is_member d q ≡ true)
    → IsRunWith Holds d (planned_from_single d target) target)
    → IsRunWith Holds c (learners_first_from_single c target) target
from_single-holds Holds c target single valid_with_voter learning planning =
    let new = newcomers c target in
    let learn = Simple (learner_changes c new) in
    let single_after = with_newcomers-is_single c target single valid_with_voter in
    let Reaches : Configuration → List Step → Type 0 = λ d steps. IsRunWith Holds d steps target in
    let Learns : Configuration → Type 0 = λ d. Holds c learn (with_learners d new) in
    cond_both (is_empty new) (planned c target) (learn ∷ planned (with_learners c new) target) (Reaches c)
    (λ none. subst (Reaches c) (sym (planned-of_single c target single)) (planning c single refl (HasNoNewcomer-empty c target none) (λ q member. member)))
    (λ some. (
      with_learners c new,
      (newcomers-learn c target single valid_with_voter, subst Learns (single_with-own c single) learning),
      subst (Reaches (with_learners c new)) (sym (planned-of_single (with_learners c new) target single_after))
          (planning (with_learners c new) single_after refl (HasNoNewcomer-with_newcomers c target) (with_newcomers-has_members c target)),
    ))

learners_first-keeps_quorums : (now target : Configuration) → IsValidWithVoter now → IsValidWithVoter target → IsRunWith (λ before step after. HasQuorumsOf now target after) now (learners_first now target) target
learners_first-keeps_quorums now target now_valid_with_voter valid_with_voter =
    let Holds : Configuration → Step → Configuration → Type 0 = λ before step after. HasQuorumsOf now target after in
    path_by-holds LearnersFirst no_ids Holds now target now_valid_with_voter (HasQuorumsOf-leaving now target) (λ differs c single same.
    from_single-holds Holds c target single valid_with_voter (HasQuorumsOf-single now target c.incoming (union c.learners (newcomers c target)) (subst (AreCovered now target) (sym same) (AreCovered-now now target)))
    (λ d single_d alike known stay. planned_from_single-keeps_quorums now d target single_d valid_with_voter (alike ∙ same)))

learners_first-keeps_voters : (now target : Configuration) → IsValidWithVoter now → IsValidWithVoter target → IsRunWith KeepsVoters now (learners_first now target) target
learners_first-keeps_voters now target now_valid_with_voter valid_with_voter =
    path_by-holds LearnersFirst no_ids KeepsVoters now target now_valid_with_voter (KeepsVoters-leaving now) (λ differs c single same.
    from_single-holds KeepsVoters c target single valid_with_voter
    (simple_moves-keep_voters c c.incoming (union c.learners (newcomers c target)) (λ q votes. or_left (has c.incoming q || has c.outgoing q) _ (or_left _ _ votes)))
    (λ d single_d alike known stay. planned_from_single-keeps_voters d target single_d valid_with_voter known))

-- whose progress is preserved
from_single-keeps : (c target : Configuration) (q : ℕ) → IsSingle c → IsValidWithVoter target → is_member c q ≡ true → is_member target q ≡ true → IsRunWith (Keeps q) c (learners_first_from_single c target) target
from_single-keeps c target q single valid_with_voter member stays =
    let new = newcomers c target in
    from_single-holds (Keeps q) c target single valid_with_voter
    (grind (arith, member, outgoing-none c single.single, has-no_ids q, has-union c.learners new q, moves-remove_no_wanted c c.incoming (union c.learners new) q))
    (λ d single_d alike known stay. planned_from_single-keeps d target q single_d valid_with_voter (stay q member) stays)

-- ---- how long it is
from_single-shortest : (c target : Configuration) (other : List Step) → IsSingle c → IsValidWithVoter target → IsRun c other target
    → length (learners_first_from_single c target) ≤ length other + 1
from_single-shortest c target other single valid_with_voter run =
    let learning = with_learners c (newcomers c target) in
    cond_both (is_empty (newcomers c target)) (planned c target) (Simple (learner_changes c (newcomers c target)) ∷ planned learning target) (λ steps. length steps ≤ length other + 1)
    (λ none. omega (arith, planned-shortest c target other single.valid_with_voter valid_with_voter run))
    (λ some.
    let single_after = with_newcomers-is_single c target single valid_with_voter in
    let differs : c ≡ target → ⊥ = λ same. both_ways _ some (newcomers-own c target same) in
    let rest = planned_from_single-shortest learning c target other refl (λ same. absurd (differs same)) single_after single valid_with_voter run in
    let whole = ap length (planned-of_single learning target single_after) in
    omega arith)

-- ---- all of it
pub learners_first-keeps_promises : (now target : Configuration) → IsValidWithVoter now → IsValidWithVoter target → LearnersFirstPromises now (learners_first now target) target
learners_first-keeps_promises now target now_valid_with_voter valid_with_voter =
    let quorums = learners_first-keeps_quorums now target now_valid_with_voter valid_with_voter in
    let run = IsRun-from_IsRunWith (λ before step after. HasQuorumsOf now target after) now target (learners_first now target) quorums in
    let one_more : (other : List Step) → IsRun now other target → length (learners_first now target) ≤ length other + 1 =
    λ other is. path_by-shortest Gives (λ a b step gives. gives) LearnersFirst no_ids 1 now target other now_valid_with_voter is (λ c steps single. from_single-shortest c target steps single valid_with_voter) in
    let kept = learners_first-keeps_voters now target now_valid_with_voter valid_with_voter in
    record {
      run = run;
      one_more = one_more;
      at_most_five = omega (arith, one_more (planned now target) (planned-is_run now target now_valid_with_voter valid_with_voter), planned-at_most_four now target);
      quorums = quorums;
      tolerance = λ down. KeepsTolerance-from_quorums down now target (learners_first now target) quorums;
      voters = IsRunWith-weaker KeepsVoters MakesVotersOfReady MakesVotersOfReady-from_kept now target (learners_first now target) kept;
      caught_up = IsRunWith-weaker KeepsVoters NoVoterCatchesUp NoVoterCatchesUp-from_kept now target (learners_first now target) kept;
      preserving = path_by-preserves_all LearnersFirst no_ids now target now_valid_with_voter (λ differs c single q. from_single-keeps c target q single valid_with_voter);
      overlap = run-overlaps now target (learners_first now target) run;
    }
