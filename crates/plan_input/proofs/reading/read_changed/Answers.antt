use Rattle.std.proofs.Common.{◌∙◌, ap}
use Rattle.conf_change.specs.Configuration.{is_valid}
use Rattle.plan_input.proofs.ValidTargets.{after_changes-valid}
use Rattle.plan_input.proofs.reading.read_changed.Goals as goal

pub returns-clause-valid : goal.returns-clause-valid
returns-clause-valid c = ap is_valid c.in_ok-after_changes.ensures ∙ after_changes-valid c.args.now.now c.as_slice-2.result.now c.requires
