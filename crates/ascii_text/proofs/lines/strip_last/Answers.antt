use Rattle.ascii_text.proofs.LineEnds.{without_last-same, without_last-other}
use Rattle.ascii_text.proofs.lines.strip_last.Goals as goal

pub returns-then-last-end : goal.returns-then-last-end
returns-then-last-end c = without_last-same c.args.end _ _ _ c.in-Some.ensures.cases.0 c.if-last-end.true

pub returns-else-last-end : goal.returns-else-last-end
returns-else-last-end c = without_last-other c.args.end _ _ _ c.in-Some.ensures.cases.0 c.if-last-end.false
