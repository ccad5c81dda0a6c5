use Rattle.std.proofs.Common.{◌≡◌, ◌≤◌, ◌++◌, drop, map}
use Rattle.quorum_sets.specs.AscendingLists.{IsAscending}
use Rattle.quorum_sets.proofs.KeptSets.Merged.{merged}
use Rattle.quorum_sets.proofs.merging.merge.Given as goal

abbrev pub invariant-loop-id : goal.invariant-loop-id
invariant-loop-id g l = record {
  capacity : l.fn.items.capacity ≤ l.items.capacity;
  rest_ascends : IsAscending (map g.T.Item.key l.rest);
  all : l.items.items ++ merged g.T.Item.key (λ e. g.E.ItemEdit.item_after e l.context) l.rest (drop l.id-index l.edits) ≡ merged g.T.Item.key (λ e. g.E.ItemEdit.item_after e l.context) l.others l.edits;
}
