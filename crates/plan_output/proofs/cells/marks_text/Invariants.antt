use Rattle.std.proofs.Common.{◌≡◌, take}
use Rattle.plan_output.specs.Names.{name_by}
use Rattle.plan_output.specs.Table as spec
use Rattle.plan_output.proofs.cells.marks_text.Given as goal

abbrev pub invariant-loop-index : goal.invariant-loop-index
invariant-loop-index l = l.text.items ≡ spec.marks_text (name_by l.names) (take l.index l.ids) l.config
