use Rattle.std.proofs.Common.{ap}
use Rattle.conf_tool.specs.Answered.{undo_left}
use Rattle.conf_tool.proofs.run.undo.UndoingHandlerItem.new.Goals as goal

pub returns-clause-all : goal.returns-clause-all
returns-clause-all c = λ rest. ap (λ session. undo_left session c.args.options.steps rest) c.in_ok-with_floor.ensures
