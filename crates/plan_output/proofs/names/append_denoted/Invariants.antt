use Rattle.std.proofs.Common.{◌≡◌, map, take}
use Rattle.plan_output.specs.Names.{denoted_row, name_by}
use Rattle.plan_output.proofs.names.append_denoted.Given as goal

abbrev pub invariant-loop-id : goal.invariant-loop-id
invariant-loop-id l = l.rows.items ≡ map (denoted_row (name_by l.names)) (take l.id-index l.id-items)
