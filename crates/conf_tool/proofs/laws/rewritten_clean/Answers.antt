use Rattle.conf_tool.proofs.Theorems.RewrittenScript.{rewritten-clean}
use Rattle.conf_tool.proofs.laws.rewritten_clean.Goals as goal

pub returns : goal.returns
returns c = rewritten-clean c.written_script.ensures c.items_are_well_formed.ensures c.items_have_keys.ensures c.actual_output_is_valid.ensures
