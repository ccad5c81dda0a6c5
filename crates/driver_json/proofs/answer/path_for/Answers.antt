use Rattle.std.proofs.Common.{ap, ◌∙◌}
use Rattle.conf_driver.specs.View.{ViewState}
use Rattle.conf_plan.specs.PathBy.{path_by}
use Rattle.driver_json.proofs.answer.path_for.Goals as goal

pub returns-in-Ok : goal.returns-in-Ok
returns-in-Ok c =
    let q = c.args.question.now in
    c.in-Ok.ensures.path ∙ ap (λ (seen : ViewState). path_by q.strategy q.down seen.conf_state q.target) c.view.view_is
