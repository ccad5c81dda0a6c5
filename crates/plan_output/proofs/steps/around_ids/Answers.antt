use Rattle.std.proofs.Common.{arith}
use Rattle.plan_output.specs.Names.{name_by}
use Rattle.plan_output.proofs.steps.around_ids.Goals as goal

pub returns : goal.returns
unfolding name_by
returns c = grind (arith, c.as_slice.ensures.value, c.in_ok-digits.ensures, c.digits.ensures, c.in_ok-extend_from_slice-2.ensures.items, c.in_ok-extend_from_slice.ensures.items, c.in_ok-text.ensures.items)
