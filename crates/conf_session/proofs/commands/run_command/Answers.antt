use Rattle.std.proofs.Common.{◌≡◌, sym, ap, ◌∙◌}
use Rattle.conf_session.specs.Input.{Input}
use Rattle.conf_session.proofs.commands.run_command.Goals as goal

pub returns-in-Simple : goal.returns-in-Simple
returns-in-Simple c =
    let changes : c.as_slice-changes.result.now ≡ c.args.input.now.changes = c.as_slice-changes.ensures.value ∙ ap (λ (i : Input). i.changes) c.input.view_is in
    rw c.in-Simple.is (rw (sym c.changer-changer.ensures) (rw (sym changes) c.run.ensures))
