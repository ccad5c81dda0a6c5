use Rattle.conf_change.proofs.Configurations.DescribedByLists.{Describes-lists_of, Describes-same}
use Rattle.conf_change.proofs.laws.conf_state_describes.Goals as goal

pub returns-clause-own : goal.returns-clause-own
returns-clause-own c = Describes-lists_of

pub returns-clause-one : goal.returns-clause-one
returns-clause-one c = Describes-same
