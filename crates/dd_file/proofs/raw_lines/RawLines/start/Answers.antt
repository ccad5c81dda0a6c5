use Rattle.std.proofs.Common.{arith}
use Rattle.dd_file.proofs.TextLines.EndPositions.{next-start}
use Rattle.dd_file.proofs.raw_lines.RawLines.start.Goals as goal

pub returns-clause-position : goal.returns-clause-position
returns-clause-position c = grind (arith, next-start, c.end.ensures.position)
