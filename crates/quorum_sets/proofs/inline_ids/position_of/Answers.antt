use Rattle.quorum_sets.proofs.KeptSets.AscendingList.{search-in_ascending}
use Rattle.quorum_sets.proofs.inline_ids.position_of.Goals as goal

pub returns : goal.returns
returns c = search-in_ascending c.args.list.now c.args.id c.binary_search.result c.binary_search.ensures.position c.requires
