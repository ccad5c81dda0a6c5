use Rattle.std.proofs.Common.{◌≡◌, ◌≤◌, length, map, take}
use Rattle.quorum_sets.specs.Ids.{ascending, size}
use Rattle.quorum_sets.specs.Committed.{acked_index}
use Rattle.quorum_sets.proofs.commit.gather.Given as goal

abbrev pub invariant-loop-position : goal.invariant-loop-position
invariant-loop-position g l = record {
  items : l.indexes.items ≡ map (acked_index (g.A.AckSource.acks l.acks)) (take l.position (ascending (g.S.MemberSet.ids l.set)));
  count : length l.indexes.items ≡ l.position;
  room : size (g.S.MemberSet.ids l.set) ≤ l.indexes.capacity;
}
