use Rattle.std.proofs.Common.{◌≡◌, ap, ◌∙◌}
use Rattle.std.proofs.lemmas.Result.{IfOk-weaker}
use Rattle.plan_output.specs.Stages.{stalls}
use Rattle.conf_driver.specs.Next.{answer_in, answer_on}
use Rattle.conf_driver.specs.Situation.{situation_of, values_of}
use Rattle.conf_driver.specs.View.{ViewState}
use Rattle.conf_driver.proofs.answer.answer_on.Goals as goal

pub returns : goal.returns
returns c =
    let target = c.args.target.now in
    let down = c.args.down.now in
    let view = c.args.view.now in
    let path = c.args.path.now in
    let each = c.in_ok-each.ensures in
    let stalling = c.in_ok-stalls.ensures ∙ ap (λ (v : ViewState). stalls v.conf_state path down) c.view.view_is in
    let situation = c.in_ok-situation.ensures ∙ (λ i. situation_of target down view (each i) (stalling i)) in
    IfOk-weaker c.answer_in.result (λ action. action ≡ answer_in (values_of c.in_ok-situation.situation) c.in_ok-each.each) (λ action. action ≡ answer_on target down view path)
    (λ action is. is ∙ (λ i. answer_in (situation i) (each i))) c.answer_in.ensures
