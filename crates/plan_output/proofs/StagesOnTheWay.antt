-- The stages of a path, one step after another.
use Rattle.std.proofs.Common.{◌≡◌, List, [], ◌∷◌, ◌++◌, refl, sym, ap, subst, ◌∙◌, append_assoc, arith}
use Rattle.std.specs.Prelude.{Ok}
use Rattle.std.specs.Result.{result_unwrap_or}
use Rattle.quorum_sets.specs.Ids.{Ids}
use Rattle.conf_change.specs.Configuration.{Configuration}
use Rattle.conf_change.specs.Outcome.{Outcome}
use Rattle.conf_change.specs.declared.step.Step.{Step}
use Rattle.conf_plan.specs.OnTheWay.{catching_up}
use Rattle.conf_plan.specs.Run.{IsRun}
use Rattle.plan_output.specs.Stages.{AreOnTheWay, StageState, configuration_after_step, stage_after, stages_after}

-- one more stage, and those after it
pub stages_after-next : (stages : List StageState) (last next : StageState) (step : Step) (steps more : List Step) → steps ≡ step ∷ more → next ≡ stage_after last.config step
    → (stages ++ last ∷ []) ++ next ∷ stages_after next.config more ≡ stages ++ last ∷ stages_after last.config steps
stages_after-next stages last next step steps more first is = grind (arith, append_assoc)

-- the stages of a run are on its way, whichever members catch up at first
pub AreOnTheWay-run : (now target : Configuration) (catching : Ids) (steps : List Step) → IsRun now steps target
    → AreOnTheWay (record { config = now; catching_up = catching } ∷ stages_after now steps) steps target
AreOnTheWay-run now target catching [] run = run
AreOnTheWay-run now target catching (step ∷ steps) run =
    let after = configuration_after_step now step in
    let same : run.0 ≡ after = sym (ap (λ (o : Outcome). result_unwrap_or o now) run.1) in
    (run.1 ∙ ap Ok same, refl, AreOnTheWay-run after target (catching_up now step after) steps (subst (λ c. IsRun c steps target) same run.2))
