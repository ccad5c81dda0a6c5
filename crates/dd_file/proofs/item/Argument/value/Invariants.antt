use Rattle.std.proofs.Common.{◌≡◌, drop}
use Rattle.dd_file.proofs.item.Argument.value.Given as goal

-- the values that are left
abbrev pub invariant-loop-passed : goal.invariant-loop-passed
invariant-loop-passed l = l.values ≡ drop l._passed l.self.values
