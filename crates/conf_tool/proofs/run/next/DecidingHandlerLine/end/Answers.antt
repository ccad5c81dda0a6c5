use Rattle.conf_tool.proofs.Modes.Next.{next-end}
use Rattle.conf_tool.proofs.run.next.DecidingHandlerLine.end.Goals as goal

pub returns-clause-output : goal.returns-clause-output
returns-clause-output c = rw (c.requires.empty, c.outcome.ensures) (next-end c.args.self.now.refused c.args.fault)
