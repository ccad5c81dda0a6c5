use Rattle.std.proofs.Common.{arith}
use Rattle.std.proofs.lemmas.Option.{slice_get-get_or}
use Rattle.dd_file.proofs.TextLines.EndPositions.{first-suffix}
use Rattle.dd_file.proofs.raw_lines.RawLines.get.Goals as goal

pub returns : goal.returns
returns c = grind (arith, first-suffix, slice_get-get_or, c.split_at.ensures.front, c.text_after.ensures)
