use Rattle.std.proofs.Common.{sym, ◌∙◌}
use Rattle.conf_change.proofs.Configurations.Violations.{repeat_in-there}
use Rattle.conf_change.proofs.configuration_line.listed_twice.Goals as goal

pub unreachable-requires : goal.unreachable-requires
unreachable-requires c = repeat_in-there c.args.lists.now c.requires (sym c.in-Ok-None.ensures ∙ c.in-Ok-None.field-0-is)
