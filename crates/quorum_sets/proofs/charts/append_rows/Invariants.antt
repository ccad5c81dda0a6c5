use Rattle.std.proofs.Common.{◌≡◌, ◌++◌, take, flat_map}
use Rattle.quorum_sets.specs.Chart.{chart_row}
use Rattle.quorum_sets.proofs.charts.append_rows.Given as goal

abbrev pub invariant-loop-id : goal.invariant-loop-id
invariant-loop-id g l = l.text.items ≡ l.initial.text.items ++ flat_map (chart_row l.ids (g.A.AckSource.acks l.acks)) (take l.id-index l.ids)
