use Rattle.std.proofs.Common.{arith}
use Rattle.quorum_sets.proofs.IdSets.Members.{has_by_cmp-ids_of}
use Rattle.quorum_sets.proofs.tree_ids.TreeIdsMemberSet.contains.Goals as goal

pub returns : goal.returns
returns c = grind (arith, c.contains.ensures, c.self.view_is, has_by_cmp-ids_of c.self.inside.tree.keys c.args.id)
