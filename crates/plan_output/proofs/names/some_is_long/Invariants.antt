use Rattle.std.proofs.Common.{◌≡◌, false, take}
use Rattle.std.specs.List.{list_any}
use Rattle.plan_output.specs.Names.{is_long}
use Rattle.plan_output.proofs.names.some_is_long.Given as goal

abbrev pub invariant-loop-id : goal.invariant-loop-id
invariant-loop-id l = list_any is_long (take l.id-index l.ids) ≡ false
