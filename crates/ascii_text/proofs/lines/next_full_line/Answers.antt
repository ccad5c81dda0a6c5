use Rattle.std.proofs.Common.{false, length, arith}
use Rattle.std.proofs.lemmas.List.{nil_from_length}
use Rattle.ascii_text.proofs.FullLines.{full_lines-first, first_len-some}
use Rattle.ascii_text.proofs.lines.next_full_line.Goals as goal

pub returns-then-is_empty-clause-full_lines : goal.returns-then-is_empty-clause-full_lines
returns-then-is_empty-clause-full_lines c = grind (arith, length, nil_from_length)

pub returns-clause-full_lines : goal.returns-clause-full_lines
returns-clause-full_lines c = grind (arith, length, false, full_lines-first, c.split_at.ensures.front, c.split_at.ensures.back, c.first_line_len.ensures.count)

pub returns-clause-shorter : goal.returns-clause-shorter
returns-clause-shorter c = grind (arith, length, first_len-some, c.first_line_len.ensures.count, c.split_at.ensures.back_len)
