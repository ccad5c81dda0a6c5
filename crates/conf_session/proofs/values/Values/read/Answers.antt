use Rattle.std.proofs.Common.{arith}
use Rattle.std.proofs.lemmas.Grind.{common_steps}
use Rattle.std.proofs.Math.Bool.{and-false}
use Rattle.std.proofs.lemmas.Option.{slice_get-get_or}
use Rattle.conf_session.proofs.ReadValues.{HasMore-values, bad-here, good-here}
use Rattle.conf_session.proofs.values.Values.read.Goals as goal
use Rattle.conf_session.proofs.values.Values.read.Goals.{then-has_key-via-then-has_key, then-has_key-via-else-has_key+in_ok-take+then-not-branch}

pub returns-then-has_key-clause-bad : goal.returns-then-has_key-clause-bad
returns-then-has_key-clause-bad c = grind (arith, common_steps, slice_get-get_or, and-false, bad-here, c.loop-index-test.true, c.index-arguments-index.is, c.has_key.ensures, c.key.ensures, c.then-has_key.branch, c.key-then-has_key.ensures, c.loop-index.invariant.0)

pub loop-index-preserved : goal.loop-index-preserved
loop-index-preserved c = grind (arith, common_steps, slice_get-get_or, good-here, HasMore-values, c.loop-index-test.true, c.index-arguments-index.is, c.has_key.ensures, c.key.ensures, c.if-has_key.false, c.if-not-branch.false, c.in_ok-take.ensures.allowed, c.loop-index.invariant.0, c.loop-index.invariant.1, c.in_ok-take.ensures.values)
