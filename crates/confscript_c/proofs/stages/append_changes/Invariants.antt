use Rattle.std.proofs.Common.{◌≡◌, ◌++◌, take}
use Rattle.std.specs.Prelude.{flat_map}
use Rattle.confscript_c.specs.Stages.{change_numbers}
use Rattle.confscript_c.proofs.stages.append_changes.Given as goal

-- the numbers of the changes so far
abbrev pub invariant-loop-change : goal.invariant-loop-change
invariant-loop-change l = l.numbers.items ≡ l.initial.numbers.items ++ flat_map change_numbers (take l.change-index l.changes)
