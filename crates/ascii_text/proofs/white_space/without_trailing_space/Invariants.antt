use Rattle.std.proofs.Common.{◌≡◌, length}
use Rattle.ascii_text.specs.WhiteSpace.{without_trailing_space}
use Rattle.ascii_text.proofs.white_space.without_trailing_space.Given as goal

-- what is left has the same answer
abbrev pub invariant-loop-last : goal.invariant-loop-last
invariant-loop-last l = without_trailing_space l.rest ≡ without_trailing_space l.text

abbrev pub decreases-loop-last : goal.decreases-loop-last
decreases-loop-last l = length l.rest
