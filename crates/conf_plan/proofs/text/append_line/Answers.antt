use Rattle.std.proofs.Common.{◌∙◌}
use Rattle.conf_plan.proofs.PlanText.PrintedStep.{line_and_newline-appended}
use Rattle.conf_plan.proofs.text.append_line.Goals as goal

pub returns-clause-ok : goal.returns-clause-ok
returns-clause-ok c =
    c.in_ok-push.ensures.items ∙ rw (c.in_ok-append_changes.ensures.ok, c.in_ok-extend_from_slice.ensures.items, c.command_text.ensures, c.changes.ensures) (line_and_newline-appended c.args.text.now.items c.args.step.now)
