use Rattle.conf_plan.proofs.OnTheWay.NextPath.{Gives-valid, has_path-next, next_path-shorter}
use Rattle.conf_plan.proofs.laws.next_path_is_shorter.Goals as goal

pub returns-clause-shorter : goal.returns-clause-shorter
returns-clause-shorter c = next_path-shorter

pub returns-clause-has_path : goal.returns-clause-has_path
returns-clause-has_path c = has_path-next

pub returns-clause-valid : goal.returns-clause-valid
returns-clause-valid c = Gives-valid
