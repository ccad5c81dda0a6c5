use Rattle.std.proofs.lemmas.Result.{err_from_is_err_and}
use Rattle.conf_tool.proofs.command_line.options_of.Goals as goal

pub returns-in_err-ids_down-clause-fault : goal.returns-in_err-ids_down-clause-fault
returns-in_err-ids_down-clause-fault c =
    let p = err_from_is_err_and c.from_residual.result c.from_residual.ensures.1 in
    rw (p.1, p.2) (rw c.text_of-6.ensures at c.in_err-ids_down.ensures.fault)
