use Rattle.std.proofs.Common.{◌++◌, [], sym, ap, ◌∙◌, append-nil}
use Rattle.conf_session.specs.Commands.{undo_reply}
use Rattle.conf_session.specs.Reply.{replied, replied_line}
use Rattle.conf_session.specs.ReplyTexts.{line}
use Rattle.conf_session.proofs.commands.undo.run.Goals as goal

pub returns-in_ok-append_line-in_default : goal.returns-in_ok-append_line-in_default
returns-in_ok-append_line-in_default c =
    let refused = (c.undo_plan.ensures.refused c.in-Err.fault c.in_default.not-NoMemory).0 c.in-Err.is in
    let why = c.as_slice.ensures.value ∙ c.in_ok-why-in_default.ensures in
    let text = c.in_ok-append_line-in_default.ensures ∙ (λ i. c.requires.blank i ++ line (why i ++ [])) in
    ap replied text ∙ ap replied_line (append-nil _) ∙ sym (ap (undo_reply c.args.session.now c.args.count) refused)
