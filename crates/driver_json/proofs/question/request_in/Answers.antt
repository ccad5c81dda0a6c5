use Rattle.std.proofs.Common.{sym}
use Rattle.std.proofs.lemmas.Result.{err_from_is_err_and}
use Rattle.serde_json.specs.View.{view}
use Rattle.driver_json.proofs.Questions.{request_in-refused}
use Rattle.driver_json.proofs.question.request_in.Goals as goal

pub returns-in_err-ids_at-clause-fault : goal.returns-in_err-ids_at-clause-fault
returns-in_err-ids_at-clause-fault c =
    let p = err_from_is_err_and c.from_residual-in_err-ids_at.result c.from_residual-in_err-ids_at.ensures.1 in
    rw (p.1, p.2) (λ other. request_in-refused (view c.args.line.now) c.in_ok-strategy_at.field-0 c.in_err-ids_at.field-0.0 (sym c.in_ok-strategy_at.ensures) (c.in_err-ids_at.ensures.fault other))
