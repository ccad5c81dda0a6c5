use Rattle.std.proofs.Common.{◌≡◌, map, take}
use Rattle.serde_json.specs.View.{view}
use Rattle.raft_json.specs.ConfChangeJson.{change_json}
use Rattle.raft_json.proofs.conf_change_json.changes_value.Given as goal

abbrev pub invariant-loop-change : goal.invariant-loop-change
invariant-loop-change l = map view l.items.items ≡ map change_json (take l.change-index l.changes)
