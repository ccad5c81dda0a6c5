use Rattle.std.proofs.Common.{false, arith}
use Rattle.plan_output.proofs.names.denoted_row.Goals as goal

pub returns : goal.returns
returns c = grind (arith, false, c.in_ok-append.ensures, c.new-name.ensures.items, c.in_ok-append_number.ensures.ok, c.new-decimal_digits.ensures.items, c.in_ok-add-3.ensures, c.in_ok-add-2.ensures, c.in_ok-add.ensures, c.new-row.ensures)
