use Rattle.std.proofs.Common.{◌≡◌, ℕ, ◌+◌, ◌<◌, ◌++◌, List, length, drop, get_or, sym, ap, ◌∙◌, arith}
use Rattle.conf_change.specs.Configuration.{Configuration}
use Rattle.conf_change.specs.declared.step.Step.{Step}
use Rattle.plan_output.specs.Stages.{StageState, first_stage, stages}
use Rattle.confscript_c.specs.Stages.{stages_numbers}
use Rattle.confscript_c.proofs.StagesWritten.{length-stages_after, stages_numbers-next}
use Rattle.confscript_c.proofs.stages.append_stages.Goals as goal

-- the index of the stage after a step is in range
within : (now : Configuration) (path steps : List Step) (all seen : List StageState) (i : ℕ) → seen ≡ all → all ≡ stages now path → steps ≡ path → i < length steps → i + 1 < length seen
within now path steps all seen i is all_is steps_is small = omega (arith, ap length is, ap length all_is, ap length steps_is, length-stages_after now path)

pub bounds-stages-index : goal.bounds-stages-index
bounds-stages-index c =
    let next = within c.args.now.now c.args.path.now _ _ _ c.loop-index.index c.as_slice-stages.ensures.value c.in_ok-all.ensures c.as_slice-steps.ensures.steps c.loop-index-test.true in
    omega (arith, next)

pub offset_bounds-stages-index : goal.offset_bounds-stages-index
offset_bounds-stages-index c =
    let next = within c.args.now.now c.args.path.now _ _ _ c.loop-index.index c.as_slice-stages.ensures.value c.in_ok-all.ensures c.as_slice-steps.ensures.steps c.loop-index-test.true in
    omega (arith, next)

pub bounds-stages-index-in-loop-index : goal.bounds-stages-index-in-loop-index
bounds-stages-index-in-loop-index c =
    within c.args.now.now c.args.path.now _ _ _ c.loop-index.index c.as_slice-stages.ensures.value c.in_ok-all.ensures c.as_slice-steps.ensures.steps c.loop-index-test.true

pub offset_bounds-stages-index-in-loop-index : goal.offset_bounds-stages-index-in-loop-index
offset_bounds-stages-index-in-loop-index c =
    let next = within c.args.now.now c.args.path.now _ _ _ c.loop-index.index c.as_slice-stages.ensures.value c.in_ok-all.ensures c.as_slice-steps.ensures.steps c.loop-index-test.true in
    omega (arith, next)

pub loop-index-preserved : goal.loop-index-preserved
loop-index-preserved c =
    let down = c.args.down.now in
    let now = c.args.now.now in
    let steps = c.as_slice-steps.result.now in
    let i = c.loop-index.index in
    let all : List StageState = stages now steps in
    let before : StageState = c.index-stages-index.result in
    let after : StageState = c.index-stages-index-in-loop-index.result in
    let are : c.as_slice-stages.result.now ≡ all = c.as_slice-stages.ensures.value ∙ c.in_ok-all.ensures ∙ ap (stages now) (sym c.as_slice-steps.ensures.steps) in
    ap (λ numbers. numbers ++ stages_numbers down (get_or all (i + 1) (first_stage now)) (drop (i + 1) steps)) c.in_ok-append_stage.ensures
    ∙ stages_numbers-next down (first_stage now) steps i c.index-steps-index.result before after c.loop-index.numbers.items c.loop-index-test.true c.index-steps-index.is
    (c.index-stages-index.is ∙ ap (λ xs. get_or xs i before) are) (c.index-stages-index-in-loop-index.is ∙ ap (λ xs. get_or xs (i + 1) after) are)
    ∙ c.loop-index.invariant
