use Rattle.std.proofs.Common.{sym, subst}
use Rattle.quorum_sets.specs.AscendingLists.{IsAscending}
use Rattle.plan_output.proofs.names.Names.of_columns.Goals as goal

pub invariant_of-result : goal.invariant_of-result
invariant_of-result c = subst IsAscending (sym c.in_ok-from_slice.ensures.items) c.requires
