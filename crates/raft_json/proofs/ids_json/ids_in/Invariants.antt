use Rattle.std.proofs.Common.{◌≡◌, ◌++◌, drop, option_map}
use Rattle.serde_json.specs.View.{items_view}
use Rattle.raft_json.specs.IdsJson.{ids_from}
use Rattle.raft_json.proofs.ids_json.ids_in.Given as goal

-- the ids so far are before those of the other items
abbrev pub invariant-loop-item : goal.invariant-loop-item
invariant-loop-item l = ids_from (items_view l.item-items) ≡ option_map (λ more. l.ids.items ++ more) (ids_from (items_view (drop l.item-index l.item-items)))
