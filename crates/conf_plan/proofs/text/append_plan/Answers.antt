use Rattle.conf_change.proofs.Offered.{Extends-append}
use Rattle.conf_plan.proofs.text.append_plan.Goals as goal

pub returns-in_err-append_line-clause-extends : goal.returns-in_err-append_line-clause-extends
returns-in_err-append_line-clause-extends c = Extends-append _ _ _ (rw c.loop-step.invariant at c.append_line.ensures.extends)
