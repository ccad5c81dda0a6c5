use Rattle.std.proofs.Common.{arith}
use Rattle.ascii_text.proofs.FullLines.{first_len-position}
use Rattle.ascii_text.proofs.lines.first_line_len.Goals as goal

pub returns-clause-count : goal.returns-clause-count
returns-clause-count c = omega (arith, c.find_far_byte.ensures.position, first_len-position c.args.bytes.now)
