use Rattle.conf_change.proofs.Steps.ChangerAfter.{changer_after-from_Accepts, Accepts-from_changer_after, changer_after-from_refusal, outcome-from_refusal}
use Rattle.conf_change.proofs.laws.one_changer_after_a_step.Goals as goal

pub returns-clause-ok : goal.returns-clause-ok
returns-clause-ok c = λ before after step. (changer_after-from_Accepts before after step, Accepts-from_changer_after before after step)

pub returns-clause-err : goal.returns-clause-err
returns-clause-err c = λ before step why. (changer_after-from_refusal before step why, outcome-from_refusal before step why)
