use Rattle.std.proofs.Common.{arith}
use Rattle.std.proofs.lemmas.Grind.{common_steps}
use Rattle.std.proofs.lemmas.Option.{gets}
use Rattle.ascii_text.proofs.Offered.{Extends-append, join-one_more}
use Rattle.conf_change.proofs.text.append_ids.Goals as goal
use Rattle.conf_change.proofs.text.append_ids.Goals.{in-Some+in_ok-append_number_at, in_default}

pub returns-in_err-append_number_at-clause-extends : goal.returns-in_err-append_number_at-clause-extends
returns-in_err-append_number_at-clause-extends g c = grind (arith, Extends-append, c.loop-position.invariant, c.append_number_at.ensures.extends)

pub loop-position-preserved : goal.loop-position-preserved
loop-position-preserved g c = grind (arith, common_steps, gets, join-one_more, c.match-at.branch)
