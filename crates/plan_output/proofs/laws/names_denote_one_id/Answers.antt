use Rattle.std.proofs.Common.{get_or, arith}
use Rattle.quorum_sets.proofs.Offered.{ascending-is_ascending}
use Rattle.plan_output.specs.Names.{name_by}
use Rattle.plan_output.proofs.NumberedIds.{names-differ, number_in-there}
use Rattle.plan_output.proofs.laws.names_denote_one_id.Goals as goal

pub returns : goal.returns
unfolding name_by
returns c = grind (arith, get_or, number_in-there, ascending-is_ascending, names-differ)
