-- That the steps of a path lead from the one configuration to the other, also from a line of the first.
use Rattle.std.proofs.Common.{◌≡◌, ℕ, ◌+◌, ◌∷◌, List, [], ap, ◌∙◌}
use Rattle.std.specs.Prelude.{Option, Some, None, Ok}
use Rattle.quorum_sets.specs.Ids.{Ids}
use Rattle.conf_change.specs.Configuration.{Configuration}
use Rattle.conf_change.specs.ConfState.{ConfStateLists, lists_of, restored}
use Rattle.conf_change.specs.ConfStateLine.{conf_state_text}
use Rattle.conf_change.specs.Violation.{valid_of, unless_bad}
use Rattle.conf_change.specs.declared.step.Step.{Step}
use Rattle.conf_plan.specs.PathBy.{KeepsPromises}
use Rattle.conf_plan.specs.Run.{IsRun, IsRunWith}
use Rattle.conf_plan.specs.declared.strategy.Strategy.{Strategy}
use Rattle.conf_plan.specs.declared.strategy.Strategy.TheVariants.{Shortest, LearnersFirst, OneAtATime}
use Rattle.confscript_c.specs.Applied.{restored_of, restored_one, steps_result, then_result}
use Rattle.confscript_c.specs.InputLines.{read_as}

-- along a run no step is refused
pub steps_result-run : (number : ℕ) (before after : Configuration) (steps : List Step) → IsRun before steps after
    → steps_result number before steps ≡ Ok (conf_state_text (lists_of after))
steps_result-run number before after [] run = ap (λ c. Ok (conf_state_text (lists_of c))) run
steps_result-run number before after (step ∷ steps) run =
    ap (λ o. then_result number o (λ next. steps_result (number + 1) next steps)) run.1
    ∙ steps_result-run (number + 1) run.0 after steps run.2

IsRun-from_with : (Holds : Configuration → Step → Configuration → Type 0) (before after : Configuration) (steps : List Step) → IsRunWith Holds before steps after → IsRun before steps after
IsRun-from_with Holds before after [] run = run
IsRun-from_with Holds before after (step ∷ steps) run = (run.0, run.1.0, IsRun-from_with Holds run.0 after steps run.2)

-- the configuration of a line is the one that is restored from it, if each saved one is restored that is valid
pub restored_of-from_line : (c : Configuration) → ((saved : ConfStateLists) → valid_of saved ≡ Ok c → restored saved ≡ Some c) → (read : Option ConfStateLists) → unless_bad read ≡ Ok c
    → restored_of (read_as 1 read) ≡ Ok c
restored_of-from_line c restores None is = cc
restored_of-from_line c restores (Some saved) is = ap restored_one (restores saved is)

-- the path of each strategy is a run
pub IsRun-by : (strategy : Strategy) (down : Ids) (before after : Configuration) (steps : List Step) → KeepsPromises strategy down before steps after → IsRun before steps after
IsRun-by Shortest down before after steps promises = promises.best.run
IsRun-by LearnersFirst down before after steps promises = promises.run
IsRun-by OneAtATime down before after steps promises = IsRun-from_with _ before after steps promises.run
