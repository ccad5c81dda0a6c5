use Rattle.std.proofs.Common.{[], refl}
use Rattle.conf_tool.proofs.Modes.Rewrite.{rewritten-nothing}
use Rattle.conf_tool.proofs.run.rewrite.RewritingHandlerItem.new.Goals as goal

pub returns-clause-unanswered : goal.returns-clause-unanswered
returns-clause-unanswered c = ([], refl)

pub returns-clause-all : goal.returns-clause-all
returns-clause-all c = rewritten-nothing c.args.options.history c.args.options.floor _ _ c.in_ok-with_floor.ensures refl
