use Rattle.std.proofs.Common.{[], ◌∷◌, take, ap, ◌∙◌, subst, sym}
use Rattle.std.specs.Prelude.{map}
use Rattle.std.proofs.lemmas.List.{map-append, take_all, take_more}
use Rattle.conf_change.specs.declared.change.Change.{Change}
use Rattle.conf_change.specs.declared.step.Step.{Step}
use Rattle.conf_change.specs.declared.step.Step.TheVariants.{Simple}
use Rattle.conf_plan.specs.AddedSteps.{IsAdded}
use Rattle.conf_plan.proofs.PlannedSteps.Cases.{added-more}
use Rattle.conf_plan.proofs.one_change_each.add_each_change.Goals as goal

pub loop-change-preserved : goal.loop-change-preserved
loop-change-preserved c =
    let step : Change → Step = λ change. Simple (change ∷ []) in
    let now = c.loop-change in
    let changes = c.as_slice-change-items.result.now in
    subst (λ steps. IsAdded c.args.steps.now.items steps c.add_change.new.steps.items)
    (sym (ap (map step) (take_more changes now.change-index _ c.loop-change-test.true) ∙ map-append step (take now.change-index changes) _))
    (added-more _ _ now.steps.items _ _ now.invariant c.in_ok-add_change-in-Simple.ensures)

pub returns-after-loop-change : goal.returns-after-loop-change
returns-after-loop-change c =
    rw c.in-Simple.is
    (subst (λ changes. IsAdded c.args.steps.now.items (map (λ (change : Change). Simple (change ∷ [])) changes) c.loop-change.steps.items)
    (take_all c.loop-change.change-index c.as_slice-change-items.result.now c.loop-change-test.false ∙ c.as_slice-change-items.ensures) c.loop-change.invariant)
