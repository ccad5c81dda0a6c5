use Rattle.std.proofs.Common.{ℕ, not, ◌||◌, sym, ap, ◌∙◌}
use Rattle.std.specs.Option.{is_none}
use Rattle.std.specs.Prelude.{Option}
use Rattle.std.proofs.lemmas.List.Folds.{list_any_at, list_any_more}
use Rattle.plan_output.specs.Stages.{StageState, may_be_down_besides}
use Rattle.plan_output.proofs.stage.some_stalls.Goals as goal

pub returns-then-is_none : goal.returns-then-is_none
returns-then-is_none c =
    let down = c.args.down.now in
    let here : StageState = c.stage-item.result in
    sym (list_any_at (λ stage. is_none (may_be_down_besides stage down)) c.args.stages.now c.loop-stage.stage-index here c.loop-stage-test.true
    (ap (λ stage. is_none (may_be_down_besides stage down)) (sym c.stage-item.is)
    ∙ ap (λ (o : Option ℕ). is_none o) (sym c.in_ok-may_be_down_besides.ensures.counted)
    ∙ ap not c.is_none.ensures ∙ ap (λ b. not (not b)) c.if-is_none.true))

pub loop-stage-preserved : goal.loop-stage-preserved
loop-stage-preserved c =
    let down = c.args.down.now in
    let here : StageState = c.stage-item.result in
    list_any_more (λ stage. is_none (may_be_down_besides stage down)) c.args.stages.now c.loop-stage.stage-index here c.loop-stage-test.true
    ∙ (λ k. c.loop-stage.invariant k || (ap (λ stage. is_none (may_be_down_besides stage down)) (sym c.stage-item.is)
    ∙ ap (λ (o : Option ℕ). is_none o) (sym c.in_ok-may_be_down_besides.ensures.counted)
    ∙ ap not c.is_none.ensures ∙ ap (λ b. not (not b)) c.if-is_none.false) k)
