use Rattle.std.proofs.Common.{append_assoc}
use Rattle.conf_change.proofs.Offered.{Extends-append}
use Rattle.conf_plan.proofs.text.append_changes.Goals as goal

pub returns-in_err-append_token-clause-extends : goal.returns-in_err-append_token-clause-extends
returns-in_err-append_token-clause-extends c = Extends-append _ _ _ (rw (c.in_ok-push.ensures.items, c.loop-change.invariant, append_assoc) at c.append_token.ensures.extends)
