use Rattle.std.proofs.Common.{sym, ap, ◌∙◌, inr}
use Rattle.conf_change.specs.Violation.{unless_violated}
use Rattle.conf_change.proofs.Configurations.Violations.{valid_of-described}
use Rattle.conf_change.proofs.configuration_line.valid_lists.Goals as goal

pub returns-in-None-clause-configuration : goal.returns-in-None-clause-configuration
returns-in-None-clause-configuration g c =
    valid_of-described c.args.lists.now _ c.in-Ok.ensures.value ∙ ap (unless_violated _) (sym c.in-None.ensures.value)

pub returns-in-Some-clause-fault : goal.returns-in-Some-clause-fault
returns-in-Some-clause-fault g c =
    inr (valid_of-described c.args.lists.now _ c.in-Ok.ensures.value ∙ ap (unless_violated _) (sym c.in-Some.ensures.value))
