use Rattle.conf_tool.proofs.Modes.Check.{check-over}
use Rattle.conf_tool.proofs.run.check.CheckingHandlerItem.end.Goals as goal

pub returns-clause-output : goal.returns-clause-output
returns-clause-output c = rw (c.in_ok-append_to.ensures, c.requires.empty, c.status.ensures, c.in_default.is) (check-over c.args.self.now.session _ _)
