use Rattle.dd_file.proofs.TextLines.LastNewlines.{newlines_at_end-second}
use Rattle.dd_file.proofs.rewriter.count_newline.Goals as goal

pub returns-else-newlines-eq0 : goal.returns-else-newlines-eq0
returns-else-newlines-eq0 c text e = newlines_at_end-second _ _ text c.if-byte-ne10.false c.if-newlines-eq0.false e
