use Rattle.std.proofs.Common.{◌≡◌, take, not}
use Rattle.std.specs.Prelude.{filter, if◌then◌else◌}
use Rattle.quorum_sets.specs.Ids.{has}
use Rattle.conf_driver.proofs.sets.kept.Given as goal

-- the ids so far that are kept
abbrev pub invariant-loop-id : goal.invariant-loop-id
invariant-loop-id l = l.ids.items ≡ filter (λ id. if l.in_second then has l.b id else not (has l.b id)) (take l.id-index l.id-items)
