use Rattle.std.proofs.Common.{arith}
use Rattle.quorum_sets.proofs.IdSets.Members.{has_by_cmp-ids_of}
use Rattle.quorum_sets.proofs.tree_ids.TreeIdsMemberSet.insert.Goals as goal

pub returns-clause-changed : goal.returns-clause-changed
returns-clause-changed c = grind (arith, c.in_ok-insert.ensures.added, c.self.view_is, has_by_cmp-ids_of c.self.inside.tree.keys c.args.id)
