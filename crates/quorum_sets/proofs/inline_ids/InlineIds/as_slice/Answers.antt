use Rattle.std.proofs.Common.{sym, ap, ◌∙◌}
use Rattle.quorum_sets.specs.Ids.{ascending}
use Rattle.quorum_sets.proofs.KeptSets.AscendingList.{ascending-ascends}
use Rattle.quorum_sets.proofs.inline_ids.InlineIds.as_slice.Goals as goal

pub returns-clause-ids : goal.returns-clause-ids
returns-clause-ids c = c.as_slice.ensures ∙ sym (ascending-ascends c.self.inside.list.items c.self.invariant.ascends) ∙ ap ascending c.self.view_is
