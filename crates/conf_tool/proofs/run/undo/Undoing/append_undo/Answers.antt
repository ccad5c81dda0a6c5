use Rattle.std.proofs.Common.{◌∙◌, ◌++◌, [], ◌∷◌, ap, sym}
use Rattle.conf_tool.specs.Outputs.{undo_status}
use Rattle.conf_tool.specs.Reports.{answered_text}
use Rattle.conf_tool.specs.UndoScript.{comment, undo_items}
use Rattle.conf_tool.proofs.run.undo.Undoing.append_undo.Goals as goal

pub returns-in_ok-append_comment-in_default : goal.returns-in_ok-append_comment-in_default
returns-in_ok-append_comment-in_default c =
    let refused = (c.undo_plan.ensures.refused c.in-Err.fault c.in_default.not-NoMemory).0 c.in-Err.is in
    let session = c.args.self.now.session in
    record {
      status = sym (ap undo_status refused);
      text = c.in_ok-append_comment-in_default.ensures.text
          ∙ ap (λ why. c.args.text.now.items ++ answered_text session (comment why ∷ [])) (c.as_slice-in_default.ensures.value ∙ c.in_ok-why-in_default.ensures)
          ∙ ap (λ plan. c.args.text.now.items ++ answered_text session (undo_items plan)) (sym refused);
    }
