use Rattle.std.proofs.Common.{◌≡◌, ◌++◌, take}
use Rattle.quorum_sets.specs.Ids.{ascending}
use Rattle.conf_change.specs.Text.{spaced_numbers}
use Rattle.conf_change.proofs.text.append_ids.Given as goal

abbrev pub invariant-loop-position : goal.invariant-loop-position
invariant-loop-position g l = l.text.items ≡ l.initial.text.items ++ spaced_numbers (take l.position (ascending (g.S.MemberSet.ids l.set)))
