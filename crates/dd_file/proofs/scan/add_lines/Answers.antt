use Rattle.std.proofs.Common.{arith}
use Rattle.dd_file.proofs.Reading.NoNewline.{begins-within}
use Rattle.dd_file.proofs.Reading.LinesOfDraft.{draft-bound, draft-farther, draft-line}
use Rattle.dd_file.proofs.scan.add_lines.Goals as goal

pub returns-in_default-clause-lines : goal.returns-in_default-clause-lines
returns-in_default-clause-lines g c = grind (arith, draft-farther, c.lines.invariant.so_far, c.split_at.ensures.back, c.in_default.ensures.line)

pub returns-in_default-clause-none : goal.returns-in_default-clause-none
returns-in_default-clause-none g c _ = grind (arith, draft-bound, c.lines.invariant.so_far, c.split_at.ensures.back_len)

pub overflow_add-scan : goal.overflow_add-scan
overflow_add-scan g c =
    let bound = draft-bound c.lines.invariant.so_far in
    let within = begins-within _ _ c.in-Some.ensures.line in
    omega (arith, bound.0, bound.1, within, c.in-Some.ensures.searched, c.split_at.ensures.back_len)

pub returns-then-done-clause-lines : goal.returns-then-done-clause-lines
returns-then-done-clause-lines g c = grind (arith, draft-line, c.lines.invariant.so_far, c.split_at.ensures.back, c.in-Some.ensures.line, c.in-Some.ensures.searched, c.in_ok-done.ensures.kept, c.line_of.ensures, c.in_ok-done.ensures.added)

pub lines-preserved : goal.lines-preserved
lines-preserved g c = grind (arith, draft-line, c.lines.invariant.farther, c.lines.invariant.so_far, c.split_at.ensures.back, c.in-Some.ensures.line, c.in-Some.ensures.searched, c.in_ok-done.ensures.kept, c.line_of.ensures, c.in_ok-done.ensures.added, c.in_ok-done.ensures.done, c.if-done.false)
