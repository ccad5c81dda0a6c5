use Rattle.std.proofs.Common.{rules, ◌≡◌, false, ap, arith}
use Rattle.std.proofs.lemmas.Result.{IfOk-weaker}
use Rattle.quorum_sets.specs.Ids.{is_empty}
use Rattle.conf_driver.specs.View.{ViewState}
use Rattle.driver_json.proofs.Lines.{first_line_of-down}
use Rattle.driver_json.proofs.answer.first_line_of.Goals as goal

pub returns-clause-line : goal.returns-clause-line
returns-clause-line c =
    let q = c.args.question.now in
    let some : is_empty q.down ≡ false = search (rules, arith) in
    IfOk-weaker c.first_line-2.result _ _ (λ members line. first_line_of-down q c.args.path.now _ _ (ap (λ (seen : ViewState). seen.conf_state) c.view.view_is) some line) c.first_line-2.ensures.line
