use Rattle.std.proofs.Common.{Ok, append-nil, ap, ◌∙◌}
use Rattle.conf_plan.specs.PlanCode.{steps_in}
use Rattle.conf_plan.proofs.PlanText.ReadSoFar.{after_read, HasU64Ids-from_ok}
use Rattle.conf_plan.proofs.text.read_path.Goals as goal

pub of_steps-requires-2 : goal.of_steps-requires-2
of_steps-requires-2 c =
    let steps = c.loop-line.steps.items in
    HasU64Ids-from_ok c.args.text.now steps
    (c.loop-line.invariant ∙ ap (λ lines. after_read steps (steps_in lines)) c.in_default.ensures.full_lines ∙ ap (λ all. Ok all) (append-nil steps))
