use Rattle.std.proofs.Common.{◌≡◌, ◌≤◌, length, take}
use Rattle.quorum_sets.specs.Ids.{has}
use Rattle.conf_change.specs.Configuration.{is_member}
use Rattle.conf_change.proofs.MemberProgress.Filtered.{filtered, kept_entry}
use Rattle.conf_change.proofs.tracker.keep_members.Given as goal

abbrev pub invariant-loop-id : goal.invariant-loop-id
invariant-loop-id g l = record {
  items : l.members.items ≡ filtered (λ m. m.0) (kept_entry (is_member l.config) (has l.config.learners)) (take l.id-index l.others);
  count : length l.members.items ≤ l.id-index;
  room : length l.others ≤ l.members.capacity;
}
