use Rattle.std.proofs.Common.{◌++◌, ap, ◌∙◌}
use Rattle.std.specs.Prelude.{option_copied}
use Rattle.serde_json.specs.Written.{has_float}
use Rattle.serde_json.proofs.Views.{view-Object}
use Rattle.plan_output.specs.Json.{value_line}
use Rattle.plan_output.proofs.JsonLines.{has_float-step_json}
use Rattle.plan_output.proofs.json.add_step_line.Goals as goal

pub add_line-requires : goal.add_line-requires
add_line-requires c =
    let number = c.args.number in
    ap has_float (view-Object _ ∙ c.in_ok-members.ensures)
    ∙ has_float-step_json (option_copied c.args.down) number.stalls number.plan number.steps number.step c.args.before.now c.args.step.now c.in_ok-after.after

pub returns-clause-line : goal.returns-clause-line
returns-clause-line c = c.in_ok-add_line.ensures.ok ∙ ap (λ d. c.args.lines.now.items ++ value_line d) (view-Object _ ∙ c.in_ok-members.ensures)
