use Rattle.std.proofs.Common.{arith}
use Rattle.quorum_sets.proofs.Offered.{ascends-sorted}
use Rattle.conf_change.proofs.MemberProgress.Entries.{entries-from_entries, item-copied}
use Rattle.conf_change.proofs.tracker.Tracker.member_at.Goals as goal

pub returns : goal.returns
returns g c = grind (arith, item-copied, entries-from_entries, ascends-sorted, c.copied.ensures, c.get.ensures.lookup, c.as_slice.ensures, c.self.invariant, c.self.view_is)
