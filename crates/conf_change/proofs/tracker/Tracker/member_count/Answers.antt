use Rattle.std.proofs.Common.{arith}
use Rattle.quorum_sets.proofs.Offered.{ascends-sorted}
use Rattle.conf_change.proofs.MemberProgress.Entries.{entries-from_entries}
use Rattle.conf_change.proofs.tracker.Tracker.member_count.Goals as goal

pub returns : goal.returns
returns g c = grind (arith, entries-from_entries, ascends-sorted, c.len.ensures.value, c.self.invariant, c.self.view_is)
