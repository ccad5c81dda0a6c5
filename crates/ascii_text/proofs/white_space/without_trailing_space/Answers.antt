use Rattle.std.proofs.Common.{arith}
use Rattle.std.proofs.Common.{true, false}
use Rattle.ascii_text.proofs.WhiteSpace.{without_trailing_space-space, without_trailing_space-other}
use Rattle.ascii_text.proofs.white_space.without_trailing_space.Goals as goal

pub returns-then-not-is_space : goal.returns-then-not-is_space
returns-then-not-is_space c = grind (arith, false, without_trailing_space-other, c.in-Some.ensures.cases.0, c.loop-last.invariant)

pub loop-last-preserved : goal.loop-last-preserved
loop-last-preserved c = grind (arith, true, without_trailing_space-space, c.in-Some.ensures.cases.0, c.loop-last.invariant)
