use Rattle.std.proofs.Common.{rules}
use Rattle.conf_change.proofs.Configurations.Violations.{no_violation}
use Rattle.conf_change.proofs.violation.first_violation.Goals as goal

pub returns-in-Some-clause-none : goal.returns-in-Some-clause-none
returns-in-Some-clause-none g c = no_violation c.args.config.now _ (search rules)

pub returns-in-Some-find_id-clause-none : goal.returns-in-Some-find_id-clause-none
returns-in-Some-find_id-clause-none g c = no_violation c.args.config.now _ (search rules)

pub returns-in-Some-find_id-2-clause-none : goal.returns-in-Some-find_id-2-clause-none
returns-in-Some-find_id-2-clause-none g c = no_violation c.args.config.now _ (search rules)

pub returns-clause-none : goal.returns-clause-none
returns-clause-none g c = no_violation c.args.config.now _ (search rules)
