use Rattle.std.proofs.Common.{arith, length, take, drop, append_assoc}
use Rattle.std.proofs.Math.Seq.{drop-append_seam, take-append-add}
use Rattle.std.proofs.lemmas.List.{length-drop, take_all}
use Rattle.std.proofs.lemmas.Result.{IfOk-weaker}
use Rattle.ascii_text.proofs.Offered.{take-without_trailing_space}
use Rattle.plan_output.proofs.grid.append_line.Goals as goal

pub returns : goal.returns
returns c = grind (arith, length, take_all, drop, length-drop, drop-append_seam, take, take-append-add, take-without_trailing_space, IfOk-weaker, append_assoc, c.in_ok-append_cells.ensures, c.without_trailing_space-len.ensures, c.as_slice.ensures.value, c.truncate.ensures.items, c.append.ensures.ok)
