use Rattle.std.proofs.Common.{rules, arith}
use Rattle.conf_change.proofs.Configurations.Equality.{is_same-by_test}
use Rattle.conf_change.proofs.config.Config.same.Goals as goal

pub returns-then-has_same_ids-4-clause-equal : goal.returns-then-has_same_ids-4-clause-equal
returns-then-has_same_ids-4-clause-equal g c = is_same-by_test c.args.self.now c.args.other.now _ (grind arith)

pub returns-else-has_same_ids-4-clause-equal : goal.returns-else-has_same_ids-4-clause-equal
returns-else-has_same_ids-4-clause-equal g c = is_same-by_test c.args.self.now c.args.other.now _ (search rules)
