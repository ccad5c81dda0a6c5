use Rattle.quorum_sets.proofs.Offered.{search-in_ascending}
use Rattle.conf_session.proofs.values_by_id.position_of.Goals as goal

pub returns : goal.returns
returns c = search-in_ascending c.args.ids.now c.args.id c.binary_search.result c.binary_search.ensures.position c.requires
