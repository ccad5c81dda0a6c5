use Rattle.std.proofs.Common.{refl}
use Rattle.conf_tool.proofs.run.undo.UndoingHandlerItem.end.Goals as goal

pub returns-clause-output : goal.returns-clause-output
returns-clause-output c = rw (c.in_default.is, c.end_script.ensures, c.in_ok-status.ensures.text, c.requires.empty, c.in_ok-status.ensures.status) refl
