use Rattle.std.proofs.Common.{◌≡◌, ◌≤◌, length, drop}
use Rattle.quorum_sets.specs.Ids.{ids_of}
use Rattle.conf_change.specs.Violation.{first_repeat}
use Rattle.conf_change.proofs.configuration_line.first_repeat.Given as goal

abbrev pub invariant-loop-position : goal.invariant-loop-position
invariant-loop-position l = record {
  within : l.position ≤ length l.list;
  later : l.later ≡ ids_of (drop l.position l.list);
  found : l.repeat ≡ first_repeat (drop l.position l.list);
}

abbrev pub decreases-loop-position : goal.decreases-loop-position
decreases-loop-position l = l.position
