use Rattle.conf_change.proofs.Configurations.DescribedByLists.{restored-from_Describes, IsDescribed-from_restored}
use Rattle.conf_change.proofs.laws.restored_is_described.Goals as goal

pub returns : goal.returns
returns c = λ saved d.
    (λ e. let is = IsDescribed-from_restored saved d e in (is.describes, is.restorable), λ h. restored-from_Describes saved d h.0 h.1)
