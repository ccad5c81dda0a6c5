use Rattle.conf_tool.proofs.Theorems.JoinedScript.{joined-clean}
use Rattle.conf_tool.proofs.laws.joined_clean.Goals as goal

pub returns : goal.returns
returns c = joined-clean c.written_script.ensures c.directive_is_well_formed.ensures c.joined_items.ensures c.actual_output_is_valid.ensures
