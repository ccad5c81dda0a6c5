use Rattle.std.proofs.Common.{ap, ◌||◌}
use Rattle.conf_tool.proofs.Modes.Next.{next-line}
use Rattle.conf_tool.proofs.run.next.DecidingHandlerLine.answer.Goals as goal

pub returns-clause-text : goal.returns-clause-text
returns-clause-text c = λ rest.
    let reply = rw c.as_slice.ensures at c.in_ok-refused.ensures in
    rw (reply.text, c.requires.empty) (next-line _ _ c.args.line.now (ap (λ r. c.args.self.now.refused || r) reply.refused) rest)
