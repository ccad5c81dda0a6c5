use Rattle.dd_file.proofs.ScriptGrammar.JoinedItems.{script-joined}
use Rattle.dd_file.proofs.laws.joined_items.Goals as goal

pub returns : goal.returns
returns c script text complete fits = script-joined script text complete fits
