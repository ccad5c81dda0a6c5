use Rattle.conf_change.proofs.Configurations.Validity.{ValidByMember-from_is_valid, is_valid-from_members}
use Rattle.conf_change.proofs.laws.valid_by_member.Goals as goal

pub returns : goal.returns
returns c = λ configuration. (ValidByMember-from_is_valid configuration, is_valid-from_members configuration)
