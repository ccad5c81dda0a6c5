use Rattle.std.proofs.Common.{length, ap, ◌∙◌, arith}
use Rattle.dd_file.proofs.TextLines.EndPositions.{length-ends_of}
use Rattle.dd_file.proofs.raw_lines.RawLines.count.Goals as goal

pub returns : goal.returns
returns c = omega (arith, c.len.ensures, c.self.inside.ends.ok.0, ap length c.self.invariant.positions ∙ length-ends_of 0 _ ∙ ap length c.self.view_is)
