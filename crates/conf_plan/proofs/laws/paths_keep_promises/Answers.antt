use Rattle.std.proofs.Common.{refl}
use Rattle.conf_plan.proofs.OnTheWay.EachStrategy.{path_by-keeps_promises}
use Rattle.conf_plan.proofs.laws.paths_keep_promises.Goals as goal

pub returns-clause-shortest : goal.returns-clause-shortest
returns-clause-shortest c = λ down now target. refl

pub returns-clause-promises : goal.returns-clause-promises
returns-clause-promises c = path_by-keeps_promises
