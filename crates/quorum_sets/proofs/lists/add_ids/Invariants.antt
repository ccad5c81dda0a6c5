use Rattle.std.proofs.Common.{◌≡◌, ◌++◌, ◌+◌, ◌≤◌, length, take}
use Rattle.quorum_sets.specs.Ids.{ascending, size}
use Rattle.quorum_sets.proofs.lists.add_ids.Given as goal

abbrev pub invariant-loop-position : goal.invariant-loop-position
invariant-loop-position g l = record {
  items : l.ids.items ≡ l.initial.ids.items ++ take l.position (ascending (g.S.MemberSet.ids l.set));
  count : length l.ids.items ≡ length l.initial.ids.items + l.position;
  room : length l.initial.ids.items + size (g.S.MemberSet.ids l.set) ≤ l.ids.capacity;
}
