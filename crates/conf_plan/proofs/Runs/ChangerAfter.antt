-- That the changer after steps is the one that the function gives.
use Rattle.std.proofs.Common.{◌≡◌, List, [], ◌∷◌, refl, ap, ◌∙◌}
use Rattle.std.specs.Prelude.{Result, Ok, Err, Some, option_and_then}
use Rattle.std.specs.Result.{result_ok}
use Rattle.conf_change.specs.Configuration.{Configuration}
use Rattle.conf_change.specs.Changer.{ChangerState, moved_by, moved_to, changer_after}
use Rattle.conf_change.specs.declared.refused.Refused.{Refused}
use Rattle.conf_change.specs.declared.step.Step.{Step}
use Rattle.conf_change.proofs.Offered.{changer_after-from_Accepts, Accepts-from_changer_after}
use Rattle.conf_plan.specs.Run.{IsRun, Takes, after_steps}

-- the steps after one that is accepted
after_accepted : (before next : ChangerState) (step : Step) (steps : List Step) → changer_after before step ≡ Ok next
    → after_steps before (step ∷ steps) ≡ after_steps next steps
after_accepted before next step steps e = ap (λ given. option_and_then (λ n. after_steps n steps) (result_ok given)) e

pub after_steps-from_Takes : (before after : ChangerState) (steps : List Step) → Takes before steps after → after_steps before steps ≡ Some after
after_steps-from_Takes before after [] taken = ap Some taken
after_steps-from_Takes before after (step ∷ steps) taken =
    after_accepted before taken.0 step steps (changer_after-from_Accepts before taken.0 step taken.1) ∙ after_steps-from_Takes taken.0 after steps taken.2

pub Takes-from_after_steps : (before after : ChangerState) (steps : List Step) → after_steps before steps ≡ Some after → Takes before steps after
Takes-from_after_steps before after [] e = cc
Takes-from_after_steps before after (step ∷ steps) e = by (λ next. Takes-from_after_steps next after steps) (changer_after before step) refl e
  where
    by : ((next : ChangerState) → after_steps next steps ≡ Some after → Takes next steps after)
        → (given : Result ChangerState Refused) → changer_after before step ≡ given
        → option_and_then (λ n. after_steps n steps) (result_ok given) ≡ Some after → Takes before (step ∷ steps) after
    by rest (Ok next) is e = (next, Accepts-from_changer_after before next step is, rest next e)
    by rest (Err why) is e = cc

-- a run is taken
pub after_steps-from_IsRun : (before : ChangerState) (steps : List Step) (target : Configuration) → IsRun before.tracker.config steps target
    → (after : ChangerState) × (after_steps before steps ≡ Some after) × (after.tracker.config ≡ target)
after_steps-from_IsRun before [] target run = (before, (λ i. Some before), run)
after_steps-from_IsRun before (step ∷ steps) target run =
    let next = moved_to before step run.0 in
    let rest = after_steps-from_IsRun next steps target run.2 in
    (rest.0, after_accepted before next step steps (ap (moved_by before step) run.1) ∙ rest.1, rest.2)
