use Rattle.std.proofs.Common.{ap, ◌∙◌}
use Rattle.conf_plan.specs.PathBy.{path_by}
use Rattle.conf_driver.specs.Next.{answer_on}
use Rattle.conf_driver.specs.View.{ViewState}
use Rattle.conf_driver.proofs.answer.next.Goals as goal

pub returns-in_ok-answer_on-in-Ok-clause-answer : goal.returns-in_ok-answer_on-in-Ok-clause-answer
returns-in_ok-answer_on-in-Ok-clause-answer c =
    let path = c.in-Ok.ensures.path ∙ ap (λ (v : ViewState). path_by c.args.strategy c.args.down.now v.conf_state c.args.target.now) c.view.view_is in
    c.in_ok-answer_on-in-Ok.ensures ∙ ap (answer_on c.args.target.now c.args.down.now c.args.view.now) path
