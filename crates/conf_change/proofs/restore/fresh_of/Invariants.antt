use Rattle.std.proofs.Common.{◌≡◌, map, take}
use Rattle.quorum_sets.specs.Ids.{has, ascending}
use Rattle.conf_change.specs.Progress.{fresh_progress}
use Rattle.conf_change.proofs.restore.fresh_of.Given as goal

abbrev pub invariant-loop-position : goal.invariant-loop-position
invariant-loop-position g l =
    let own = g.S.MemberSet.ids in
    l.members.items ≡ map (λ id. (id, fresh_progress l.next_index (has (own l.learners) id))) (take l.position (ascending (own l.ids)))
