use Rattle.std.proofs.Common.{refl}
use Rattle.std.proofs.lemmas.Result.{err_from_is_err_and}
use Rattle.driver_json.proofs.answer.answer_of.Goals as goal

pub returns-in_err-action-clause-fault : goal.returns-in_err-action-clause-fault
returns-in_err-action-clause-fault c =
    let p = err_from_is_err_and c.from_residual.result c.from_residual.ensures.1 in
    rw (p.1, p.2) (λ other. rw (c.in_err-action.ensures.fault other) refl)

pub returns-in_err-action_value-clause-fault : goal.returns-in_err-action_value-clause-fault
returns-in_err-action_value-clause-fault c =
    let p = err_from_is_err_and c.from_residual-in_err-action_value.result c.from_residual-in_err-action_value.ensures.1 in
    rw (p.1, p.2) (λ other. absurd (other refl))
