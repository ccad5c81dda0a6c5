use Rattle.std.proofs.Common.{◌≡◌, ◌++◌, drop}
use Rattle.std.specs.Prelude.{Ok}
use Rattle.serde_json.specs.View.{items_view}
use Rattle.driver_json.specs.Values.{given, members_from}
use Rattle.driver_json.proofs.members.progress_in.Given as goal

-- the members so far are before those of the other items
abbrev pub invariant-loop-index : goal.invariant-loop-index
invariant-loop-index l = members_from 0 (items_view l.item-items) ≡ given (members_from l.index (items_view (drop l.index l.item-items))) (λ more. Ok (l.members.items ++ more))
