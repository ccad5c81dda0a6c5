use Rattle.std.proofs.Common.{◌∙◌, ◌++◌}
use Rattle.plan_output.specs.Output.{text_as}
use Rattle.confscript_c.proofs.planning.path_text.Goals as goal

pub returns-clause-text : goal.returns-clause-text
returns-clause-text c =
    let request = c.args.request.now in
    let down = c.as_ref-down.ensures.value in
    c.in_ok-add_path.ensures.ok ∙ (λ i. c.new-text.ensures.items i ++ text_as c.args.output 1 (down i) c.args.now.now c.args.path.now)
