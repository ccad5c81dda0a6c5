use Rattle.std.proofs.Common.{◌≡◌, ◌≤◌, take}
use Rattle.std.specs.Prelude.{count_by}
use Rattle.quorum_sets.specs.Ids.{has, ascending}
use Rattle.quorum_sets.proofs.difference.common_count.Given as goal

abbrev pub invariant-loop-position : goal.invariant-loop-position
invariant-loop-position g l = record {
  counted : l.count ≡ count_by (has (g.S.MemberSet.ids l.b)) (take l.position (ascending (g.S.MemberSet.ids l.a)));
  small : l.count ≤ l.position;
}
