use Rattle.std.proofs.Common.{sym, ◌∙◌}
use Rattle.conf_change.specs.Step.{changes_of}
use Rattle.std.proofs.lemmas.Result.{MatchResult-at_ok, MatchResult-at_err}
use Rattle.conf_plan.proofs.PlanText.PlanFromLines.{plan_in-is_exact, means-or_refuses}
use Rattle.conf_plan.proofs.PlanText.PrintedPlan.{Denotes-printed, ParsesToPlan-printed}
use Rattle.conf_plan.proofs.laws.one_plan_per_text.Goals as goal

pub returns-clause-ok : goal.returns-clause-ok
returns-clause-ok c = λ text steps. ((plan_in-is_exact text).ok steps, λ e. MatchResult-at_ok _ _ steps e (plan_in-is_exact text).is)

pub returns-clause-err : goal.returns-clause-err
returns-clause-err c = λ text fault. ((plan_in-is_exact text).err fault, λ e. MatchResult-at_err _ _ fault e (plan_in-is_exact text).is)

pub returns-clause-each : goal.returns-clause-each
returns-clause-each c = λ text. means-or_refuses _ _ _ (plan_in-is_exact text).is

pub returns-clause-one : goal.returns-clause-one
returns-clause-one c = λ text a b first second. let same = sym ((plan_in-is_exact text).ok a first) ∙ (plan_in-is_exact text).ok b second in cc

pub returns-clause-printed : goal.returns-clause-printed
returns-clause-printed c = ParsesToPlan-printed

pub returns-clause-changes : goal.returns-clause-changes
returns-clause-changes c = λ step. Denotes-printed (changes_of step)
