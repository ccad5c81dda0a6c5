-- No run is shorter than the plan.
use Rattle.std.proofs.Common.{◌≡◌, ℕ, ◌+◌, ◌≤◌, true, false, not, List, [], ◌∷◌, ◌++◌, length, refl, ap, subst, ◌∙◌, arith, eqb-true}
use Rattle.std.specs.Prelude.{Ok}
use Rattle.std.proofs.lemmas.Bool.{true≢false}
use Rattle.std.proofs.lemmas.List.{length-append}
use Rattle.quorum_sets.specs.Ids.{Ids, no_ids, difference_count}
use Rattle.conf_change.specs.Configuration.{Configuration, is_joint}
use Rattle.conf_change.specs.Outcome.{outcome, after_leave}
use Rattle.conf_change.specs.declared.step.Step.{Step}
use Rattle.conf_change.proofs.Offered.{is_same_set-refl, outcome-are_neighbours}
use Rattle.conf_plan.specs.PathBy.{from_single_by, path_by}
use Rattle.conf_plan.specs.Run.{Gives, IsChain, IsValidWithVoter, IsRun}
use Rattle.conf_plan.specs.Planned.{single_steps, shared_members, planned_from_single, planned}
use Rattle.conf_plan.specs.declared.strategy.Strategy.{Strategy}
use Rattle.conf_plan.specs.declared.strategy.Strategy.TheVariants.{Shortest}
use Rattle.conf_plan.proofs.FindingMoves.ResultingConfiguration.{IsSingle}
use Rattle.conf_plan.proofs.Runs.JointEnds.{LeavesFirst-from_chain, EntersLast-from_IsRun}
use Rattle.conf_plan.proofs.PlannedSteps.Shapes.{planned_from_single-of_shapes, path_by-of_shapes}
use Rattle.conf_plan.proofs.PlannedSteps.BetweenSingle.{single_steps-one, single_steps-at_most_two}

-- ---- between configurations that are not joint
-- one step alters one voter at most
one_step_one_voter : (c d : Configuration) (step : Step) → IsSingle c → is_joint d ≡ false → outcome c step ≡ Ok d → difference_count c.incoming d.incoming ≤ 1
one_step_one_voter c d step single apart e = grind (arith, outcome-are_neighbours, true≢false, not, eqb-true, is_same_set-refl)

-- the steps from as many voters are no more than those of a run
single_steps-shortest : (start c d : Configuration) (learners : Ids) (other : List Step) → start.incoming ≡ c.incoming → IsSingle c → is_joint d ≡ false → (c ≡ d → ⊥) → IsRun c other d
    → length (single_steps start d.incoming learners) ≤ length other
single_steps-shortest start c d learners [] alike single apart differs run = absurd (differs run)
single_steps-shortest start c d learners (step ∷ []) alike single apart differs run = grind (arith, single_steps-one, one_step_one_voter)
single_steps-shortest start c d learners (step ∷ next ∷ steps) alike single apart differs run = grind (arith, single_steps-at_most_two)

-- ---- into a joint configuration
-- as many steps as it takes to get to its outgoing voters, and the one that enters it
inserted-shortest : (start c target : Configuration) (entering : Step) (learners : Ids) (other : List Step) → start.incoming ≡ c.incoming → IsSingle c → is_joint target ≡ true
    → (c.incoming ≡ target.outgoing → ⊥) → IsRun c other target → length (single_steps start target.outgoing learners ++ entering ∷ []) ≤ length other
inserted-shortest start c target entering learners other alike single joint differs run =
    let last = EntersLast-from_IsRun c target other single.single joint run in
    let P : Ids → Type 0 = λ voters. length (single_steps start voters learners) ≤ length last.opened.prefix in
    let fewer : length (single_steps start target.outgoing learners) ≤ length last.opened.prefix =
    subst P last.voters
    (single_steps-shortest start c last.opened.middle learners last.opened.prefix alike single last.single
    (λ same. differs (ap (λ (d : Configuration). d.incoming) same ∙ last.voters)) last.opened.run) in
    let ours = length-append (single_steps start target.outgoing learners) (entering ∷ []) in
    let theirs = ap length last.opened.whole ∙ length-append last.opened.prefix (last.opened.last ∷ []) in
    omega arith

-- ---- the plan
-- from a configuration with the voters from which a run leads, it is no longer than the run
pub planned_from_single-shortest : (start c target : Configuration) (other : List Step) → start.incoming ≡ c.incoming → (c ≡ target → start ≡ target) → IsSingle start → IsSingle c
    → IsValidWithVoter target → IsRun c other target → length (planned_from_single start target) ≤ length other
planned_from_single-shortest start c target other alike there single_start single valid_with_voter run =
    planned_from_single-of_shapes start target (λ steps. length steps ≤ length other) single_start valid_with_voter (record {
      nothing = λ same. omega arith;
      apart = λ apart differs. single_steps-shortest start c target target.learners other alike single apart (λ same. differs (there same)) run;
      at_once = λ joint same.
          let last = EntersLast-from_IsRun c target other single.single joint run in
          let theirs = ap length last.opened.whole ∙ length-append last.opened.prefix (last.opened.last ∷ []) in
          omega arith;
      inserted = λ joint differs. inserted-shortest start c target _ (shared_members start target) other alike single joint (λ same. differs (alike ∙ same)) run;
    })

-- A path by a strategy is no longer than another chain of steps, or by so much, if it is so from each configuration that is not joint.
pub path_by-shortest : (Leads : Configuration → Step → Configuration → Type 0) → ((a b : Configuration) (step : Step) → Leads a step b → Gives a step b)
    → (strategy : Strategy) (down : Ids) (more : ℕ) (now target : Configuration) (other : List Step) → IsValidWithVoter now → IsChain Leads now other target
    → ((c : Configuration) (steps : List Step) → IsSingle c → IsChain Leads c steps target → length (from_single_by strategy down c target) ≤ length steps + more)
    → length (path_by strategy down now target) ≤ length other + more
path_by-shortest Leads gives strategy down more now target other valid_with_voter run from_single =
    path_by-of_shapes strategy down now target (λ steps. length steps ≤ length other + more) valid_with_voter (λ same. omega arith)
    (λ differs joint single.
    let left = LeavesFirst-from_chain Leads gives now target other joint differs run in
    omega (arith, from_single (after_leave now) left.rest single left.run, ap length left.whole))
    (λ differs single. from_single now other single run)

pub planned-shortest : (now target : Configuration) (other : List Step) → IsValidWithVoter now → IsValidWithVoter target → IsRun now other target
    → length (planned now target) ≤ length other
planned-shortest now target other now_valid_with_voter valid_with_voter run =
    omega (
      arith,
      path_by-shortest Gives (λ a b step gives. gives) Shortest no_ids 0 now target other now_valid_with_voter run (λ c steps single run.
          omega (arith, planned_from_single-shortest c c target steps refl (λ same. same) single single valid_with_voter run)),
    )
