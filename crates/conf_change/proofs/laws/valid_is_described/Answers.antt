use Rattle.conf_change.proofs.Configurations.Violations.{IsValidOf-from_valid_of, valid_of-from_Describes}
use Rattle.conf_change.proofs.laws.valid_is_described.Goals as goal

pub returns : goal.returns
returns c = λ saved d.
    (λ e. let is = IsValidOf-from_valid_of saved d e in (is.describes, is.valid), λ h. valid_of-from_Describes saved d h.0 h.1)
