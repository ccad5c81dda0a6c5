use Rattle.std.proofs.Common.{◌≡◌, length}
use Rattle.ascii_text.specs.WhiteSpace.{without_leading_space}
use Rattle.ascii_text.proofs.white_space.without_leading_space.Given as goal

-- what is left has the same answer
abbrev pub invariant-loop-first : goal.invariant-loop-first
invariant-loop-first l = without_leading_space l.rest ≡ without_leading_space l.text

abbrev pub decreases-loop-first : goal.decreases-loop-first
decreases-loop-first l = length l.rest
