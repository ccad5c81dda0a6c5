use Rattle.std.proofs.Common.{◌≡◌, map, take}
use Rattle.quorum_sets.specs.Chart.{ranked}
use Rattle.quorum_sets.proofs.charts.ranked.Given as goal

abbrev pub invariant-loop-id : goal.invariant-loop-id
invariant-loop-id g l = l.rows.items ≡ map (ranked (g.A.AckSource.acks l.acks)) (take l.id-index l.ids)
