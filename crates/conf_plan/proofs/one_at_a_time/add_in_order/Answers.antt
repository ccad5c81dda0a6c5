use Rattle.std.proofs.Common.{ℕ, List, subst, ◌∙◌}
use Rattle.std.specs.Prelude.{flat_map}
use Rattle.std.proofs.lemmas.List.{take_all}
use Rattle.conf_plan.specs.OneAtATime.{steps_of}
use Rattle.conf_plan.specs.AddedSteps.{IsAdded}
use Rattle.conf_plan.proofs.OnTheWay.InTurn.{added-item}
use Rattle.conf_plan.proofs.one_at_a_time.add_in_order.Goals as goal

pub loop-id-preserved : goal.loop-id-preserved
loop-id-preserved g c =
    let of = steps_of c.args.start.now c.args.target.now in
    let now = c.loop-id in
    added-item of _ now.steps.items _ c.as_slice-id-items.result.now now.id-index _ c.loop-id-test.true now.invariant c.in_ok-add_steps_of.ensures

pub returns : goal.returns
returns g c =
    let of = steps_of c.args.start.now c.args.target.now in
    let Added : List ℕ → Type 0 = λ ids. IsAdded c.args.steps.now.items (flat_map of ids) c.loop-id.steps.items in
    subst Added (take_all c.loop-id.id-index c.as_slice-id-items.result.now c.loop-id-test.false ∙ c.as_slice-id-items.ensures ∙ c.in_ok-ids.ensures) c.loop-id.invariant
