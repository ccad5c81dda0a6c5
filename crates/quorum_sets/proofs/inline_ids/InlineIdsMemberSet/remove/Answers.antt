use Rattle.std.proofs.Common.{arith}
use Rattle.quorum_sets.proofs.KeptSets.AscendingList.{ascends-remove}
use Rattle.quorum_sets.proofs.inline_ids.InlineIdsMemberSet.remove.Goals as goal

pub invariant_of-self : goal.invariant_of-self
invariant_of-self c = grind (arith, ascends-remove, c.as_slice.ensures, c.in-Ok.ensures, c.remove.ensures.items, c.self.invariant.ascends, c.self.invariant.room, c.remove.ensures.capacity)
