use Rattle.std.proofs.Common.{List, sym, ◌∙◌, subst}
use Rattle.conf_change.specs.declared.step.Step.{Step}
use Rattle.conf_plan.specs.PlanText.{plan_text, ParsesToPath}
use Rattle.std.proofs.lemmas.Result.{MatchResult-at_ok, MatchResult-at_err}
use Rattle.conf_plan.proofs.PlanText.PlanFromLines.{path_in-is_exact, means-or_refuses}
use Rattle.conf_plan.proofs.PlanText.PrintedPlan.{ParsesToPath-printed}
use Rattle.conf_plan.proofs.PlanText.ReadSoFar.{HasU64Ids-from_path}
use Rattle.conf_plan.proofs.laws.one_path_per_text.Goals as goal

pub returns-clause-ok : goal.returns-clause-ok
returns-clause-ok c = λ text steps. ((path_in-is_exact text).ok steps, λ e. MatchResult-at_ok _ _ steps e (path_in-is_exact text).is)

pub returns-clause-err : goal.returns-clause-err
returns-clause-err c = λ text fault. ((path_in-is_exact text).err fault, λ e. MatchResult-at_err _ _ fault e (path_in-is_exact text).is)

pub returns-clause-each : goal.returns-clause-each
returns-clause-each c = λ text. means-or_refuses _ _ _ (path_in-is_exact text).is

pub returns-clause-one : goal.returns-clause-one
returns-clause-one c = λ text a b first second. let same = sym ((path_in-is_exact text).ok a first) ∙ (path_in-is_exact text).ok b second in cc

pub returns-clause-printed : goal.returns-clause-printed
returns-clause-printed c = λ steps other small. (
  λ other_is. returns-clause-one c (plan_text steps) other steps other_is (ParsesToPath-printed steps small),
  λ same. let P : List Step → Type 0 = λ xs. ParsesToPath (plan_text steps) xs in subst P (sym same) (ParsesToPath-printed steps small),
)

pub returns-clause-u64_ids : goal.returns-clause-u64_ids
returns-clause-u64_ids c = HasU64Ids-from_path
