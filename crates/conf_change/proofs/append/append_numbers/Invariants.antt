use Rattle.std.proofs.Common.{◌≡◌, ◌++◌, take}
use Rattle.conf_change.specs.Text.{spaced_numbers}
use Rattle.conf_change.proofs.append.append_numbers.Given as goal

abbrev pub invariant-loop-position : goal.invariant-loop-position
invariant-loop-position l = l.text.items ≡ l.initial.text.items ++ spaced_numbers (take l.position l.numbers)
