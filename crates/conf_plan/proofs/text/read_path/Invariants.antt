use Rattle.std.proofs.Common.{◌≡◌, length}
use Rattle.ascii_text.specs.Lines.{full_lines}
use Rattle.conf_plan.specs.PlanCode.{path_in, steps_in}
use Rattle.conf_plan.proofs.PlanText.ReadSoFar.{after_read}
use Rattle.conf_plan.proofs.text.read_path.Given as goal

abbrev pub invariant-loop-line : goal.invariant-loop-line
invariant-loop-line l = path_in l.text ≡ after_read l.steps.items (steps_in (full_lines l.rest))

abbrev pub decreases-loop-line : goal.decreases-loop-line
decreases-loop-line l = length l.rest
