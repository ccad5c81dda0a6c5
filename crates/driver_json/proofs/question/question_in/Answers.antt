use Rattle.std.proofs.lemmas.Result.{err_from_is_err_and}
use Rattle.serde_json.specs.View.{view}
use Rattle.driver_json.proofs.Questions.{question_in-refused}
use Rattle.driver_json.proofs.question.question_in.Goals as goal

pub returns-in_err-strategy-clause-fault : goal.returns-in_err-strategy-clause-fault
returns-in_err-strategy-clause-fault c =
    let p = err_from_is_err_and c.from_residual-in_err-strategy.result c.from_residual-in_err-strategy.ensures.1 in
    rw (p.1, p.2) (λ other. question_in-refused (view c.args.line.now) c.in_ok-view.view c.in_ok-target.target c.in_err-strategy.field-0.0 c.in_ok-view.ensures.seen
    c.in_ok-target.ensures.configuration (c.in_err-strategy.ensures.fault other))
