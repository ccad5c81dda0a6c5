use Rattle.std.proofs.Common.{◌≡◌, ◌++◌}
use Rattle.std.specs.Prelude.{take}
use Rattle.conf_plan.specs.OneAtATime.{in_turn}
use Rattle.conf_plan.proofs.one_at_a_time.add_in_turn.Given as goal

abbrev pub invariant-loop-index : goal.invariant-loop-index
invariant-loop-index l = l.list.items ≡ l.initial.list.items ++ in_turn (take l.index l.joins) (take l.index l.retires)
