use Rattle.std.proofs.Common.{◌≡◌, take}
use Rattle.plan_output.specs.Names.{name_by, names_text}
use Rattle.plan_output.proofs.cells.names_text.Given as goal

abbrev pub invariant-loop-index : goal.invariant-loop-index
invariant-loop-index l = l.text.items ≡ names_text (name_by l.names) (take l.index l.ids)
