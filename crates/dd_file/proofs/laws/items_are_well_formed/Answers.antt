use Rattle.dd_file.proofs.ScriptGrammar.GivenItems.{script_of-given}
use Rattle.dd_file.proofs.laws.items_are_well_formed.Goals as goal

pub returns : goal.returns
returns c = script_of-given
