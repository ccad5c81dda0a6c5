use Rattle.std.proofs.Common.{◌∙◌, ◌++◌, ap, sym, subst}
use Rattle.std.proofs.Math.Bool.{or-true}
use Rattle.std.specs.Io.KnownBytes.{Appends}
use Rattle.std.proofs.lemmas.Result.{err_from_is_err_and}
use Rattle.dd_file.specs.Device.{AppendsPart}
use Rattle.conf_tool.specs.Outputs.{planned_texts}
use Rattle.conf_tool.specs.declared.status.Status.{Status}
use Rattle.conf_tool.proofs.Modes.Plan.{stop-unwritten, texts-stop, texts-unread}
use Rattle.conf_tool.proofs.run.plan.answer_texts.Goals as goal

pub returns-in_err-status-clause-output : goal.returns-in_err-status-clause-output
returns-in_err-status-clause-output g c =
    let p = err_from_is_err_and c.from_residual.result c.from_residual.ensures.1 in
    rw (p.1, p.2) (texts-stop c.args.options.now c.args.texts.from.now c.args.texts.to.now _ _ c.in_err-status.ensures.fault)

pub returns-in_err-status-clause-read : goal.returns-in_err-status-clause-read
returns-in_err-status-clause-read g c =
    let p = err_from_is_err_and c.from_residual.result c.from_residual.ensures.1 in
    rw (p.1, p.2) (texts-unread _ _ c.in_err-status.ensures.fault)

pub returns-in_err-status-clause-write : goal.returns-in_err-status-clause-write
returns-in_err-status-clause-write g c =
    let p = err_from_is_err_and c.from_residual.result c.from_residual.ensures.1 in
    rw (p.1, p.2) (stop-unwritten Status _ _ _ c.in_err-status.ensures.fault)

pub returns-in_err-write_all-clause-output : goal.returns-in_err-write_all-clause-output
returns-in_err-write_all-clause-output g c =
    let p = err_from_is_err_and c.from_residual-in_err-write_all.result c.from_residual-in_err-write_all.ensures.1 in
    rw (p.1, p.2) (subst (AppendsPart _ _) (c.in_ok-status.ensures.text ∙ ap (λ text. text ++ (planned_texts c.args.options.now c.args.texts.from.now c.args.texts.to.now).text) c.new-text.ensures.items) (rw c.as_slice.ensures.value at c.in_err-write_all.ensures.err))

pub returns-in_err-write_all-clause-write : goal.returns-in_err-write_all-clause-write
returns-in_err-write_all-clause-write g c =
    let p = err_from_is_err_and c.from_residual-in_err-write_all.result c.from_residual-in_err-write_all.ensures.1 in
    rw (p.1, p.2) (c.in_err-write_all.ensures.failed ∙ sym (or-true _))

pub returns-clause-output : goal.returns-clause-output
returns-clause-output g c = (c.in_ok-status.ensures.outcome, subst (Appends _ _) (c.in_ok-status.ensures.text ∙ ap (λ text. text ++ (planned_texts c.args.options.now c.args.texts.from.now c.args.texts.to.now).text) c.new-text.ensures.items) (rw c.as_slice.ensures.value at c.in_ok-write_all.ensures.ok))
