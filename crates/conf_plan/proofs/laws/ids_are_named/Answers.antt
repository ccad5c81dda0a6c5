use Rattle.conf_plan.proofs.Runs.PartOfEachId.{run-is_in}
use Rattle.conf_plan.proofs.laws.ids_are_named.Goals as goal

pub returns : goal.returns
returns c = run-is_in
