use Rattle.std.proofs.Common.{drop, ap, ◌∙◌}
use Rattle.dd_file.proofs.TextLines.EndPositions.{text-suffix}
use Rattle.dd_file.proofs.raw_lines.RawLines.text_after.Goals as goal

pub returns : goal.returns
returns c = c.split_at.ensures.back ∙ ap (drop c.start.result) c.text.ensures ∙ text-suffix c.args.self.now c.args.count c.start.result c.start.ensures.position
