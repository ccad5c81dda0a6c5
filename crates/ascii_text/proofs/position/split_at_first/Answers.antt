use Rattle.std.proofs.Common.{arith}
use Rattle.ascii_text.proofs.SplitTexts.{slice_split-last, slice_split-more}
use Rattle.ascii_text.proofs.position.split_at_first.Goals as goal

pub returns-clause-last : goal.returns-clause-last
returns-clause-last c = grind (arith, slice_split-last, c.position_of.ensures.position, c.split_at.ensures.front, c.split_at.ensures.back)

pub returns-clause-more : goal.returns-clause-more
returns-clause-more c = grind (arith, slice_split-more, c.position_of.ensures.position, c.split_at.ensures.front, c.split_at.ensures.back)
