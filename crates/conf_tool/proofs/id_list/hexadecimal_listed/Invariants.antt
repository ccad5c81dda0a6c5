use Rattle.std.proofs.Common.{◌≡◌, length}
use Rattle.conf_tool.specs.IdList.{hexadecimal_listed}
use Rattle.conf_tool.proofs.id_list.hexadecimal_listed.Given as goal

abbrev pub invariant-loop-after : goal.invariant-loop-after
invariant-loop-after l = hexadecimal_listed l.text ≡ hexadecimal_listed l.rest

abbrev pub decreases-loop-after : goal.decreases-loop-after
decreases-loop-after l = length l.rest
