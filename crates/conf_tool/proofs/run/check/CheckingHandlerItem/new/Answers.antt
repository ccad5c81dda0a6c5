use Rattle.std.proofs.Common.{arith}
use Rattle.conf_tool.proofs.Modes.Check.{checked-nothing}
use Rattle.conf_tool.proofs.run.check.CheckingHandlerItem.new.Goals as goal

pub returns-clause-unanswered : goal.returns-clause-unanswered
returns-clause-unanswered c = omega (arith, c.new.ensures.directives)

pub returns-clause-all : goal.returns-clause-all
returns-clause-all c = checked-nothing c.args.options.history c.args.options.floor _ _ _ c.in_ok-with_floor.ensures c.new.ensures.directives c.new.ensures.mismatches
