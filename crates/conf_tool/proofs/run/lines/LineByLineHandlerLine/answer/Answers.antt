use Rattle.std.proofs.Common.{refl}
use Rattle.conf_tool.proofs.run.lines.LineByLineHandlerLine.answer.Goals as goal

pub returns-clause-text : goal.returns-clause-text
returns-clause-text c = λ rest.
    let reply = rw c.as_slice.ensures at c.in_ok-answer_line.ensures in
    rw (c.in_ok-append.ensures.ok, reply.text, reply.after, c.requires.empty) refl
