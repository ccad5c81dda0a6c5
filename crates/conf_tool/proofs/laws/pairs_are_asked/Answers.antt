use Rattle.conf_tool.proofs.Theorems.PairByPair.{pairs-asked}
use Rattle.conf_tool.proofs.laws.pairs_are_asked.Goals as goal

pub returns : goal.returns
returns c = pairs-asked
