use Rattle.conf_plan.proofs.Runs.Chains.{run-is_valid}
use Rattle.conf_plan.proofs.laws.run_stays_valid.Goals as goal

pub returns : goal.returns
returns c = run-is_valid
