use Rattle.std.proofs.Common.{List, length, ◌≤◌, subst}
use Rattle.conf_change.specs.declared.step.Step.{Step}
use Rattle.conf_plan.specs.PlanText.{ParsesToPath, plan_text}
use Rattle.conf_plan.proofs.PlanText.PlanFromLines.{plan_in-is_exact}
use Rattle.conf_plan.proofs.text.print_plan.Goals as goal

pub returns-clause-denotes : goal.returns-clause-denotes
returns-clause-denotes c = record {
  at_most_four = subst (λ (steps : List Step). length steps ≤ 4) c.deref.ensures.0 c.deref.ensures.1;
  path = subst (λ (steps : List Step). ParsesToPath (plan_text steps) steps) c.deref.ensures.0 c.print_path.ensures.denotes;
}

pub returns-clause-reads_back : goal.returns-clause-reads_back
returns-clause-reads_back c = (plan_in-is_exact _).ok _ (returns-clause-denotes c)
