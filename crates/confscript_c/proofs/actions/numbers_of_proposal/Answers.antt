use Rattle.std.proofs.Common.{◌≡◌, ℕ, List, ◌∷◌, ◌++◌, ap, ◌∙◌}
use Rattle.plan_output.specs.Stages.{StageState, first_stage, stage_after}
use Rattle.confscript_c.specs.Stages.{stage_numbers}
use Rattle.confscript_c.proofs.actions.numbers_of_proposal.Goals as goal

stage_between : (down : _) (now : _) (step : _) (before after : StageState) → before ≡ first_stage now → after ≡ stage_after before.config step
    → stage_numbers down before step after ≡ stage_numbers down (first_stage now) step (stage_after now step)
stage_between down now step before after first next =
    ap (λ (s : StageState). stage_numbers down s step after) first
    ∙ ap (stage_numbers down (first_stage now) step) (next ∙ ap (λ (s : StageState). stage_after s.config step) first)

pub returns : goal.returns
returns c =
    c.in_ok-append_stage.ensures
    ∙ ap (λ (items : List ℕ). items ++ stage_numbers c.args.down.now c.in_ok-before.before c.args.step.now c.in_ok-after.after) c.in_ok-numbers.ensures
    ∙ ap (λ (numbers : List ℕ). 3 ∷ 0 ∷ 0 ∷ numbers) (stage_between c.args.down.now c.args.now.now c.args.step.now _ _ c.in_ok-before.ensures c.in_ok-after.ensures)
