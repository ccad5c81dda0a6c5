use Rattle.std.proofs.Common.{◌≡◌, ◌∙◌, List, ap, inl, inr, sym}
use Rattle.std.specs.Prelude.{Result, Ok, Err, MatchResult}
use Rattle.std.proofs.lemmas.Result.{err_from_is_err_and}
use Rattle.conf_change.specs.Configuration.{Configuration}
use Rattle.conf_change.specs.declared.step.Step.{Step}
use Rattle.conf_plan.specs.PlanCode.{path_in}
use Rattle.conf_plan.specs.declared.text.PlanTextFault.{PlanTextFault}
use Rattle.confscript_c.specs.Applied.{applied, text_fault_answer}
use Rattle.confscript_c.specs.declared.answer.Answer.{Answer}
use Rattle.confscript_c.proofs.applying.line_after.Goals as goal

of_fault : (c : Configuration) (read : Result (List Step) PlanTextFault) (why : Answer) → MatchResult read (λ steps. ⊥) (λ fault. why ≡ text_fault_answer fault) → applied (Ok c) read ≡ Err why
of_fault c (Ok steps) why is = absurd is
of_fault c (Err fault) why is = ap Err (sym is)

pub returns-in_err-path-clause-refused : goal.returns-in_err-path-clause-refused
returns-in_err-path-clause-refused c =
    let p = err_from_is_err_and c.from_residual-in_err-path.result c.from_residual-in_err-path.ensures.1 in
    rw (p.1, p.2) (elim c.in_err-path.ensures.refused [
      | inl memory ↦ inl memory
      | inr bad ↦ inr (ap (λ restored. applied restored (path_in c.args.path.now)) c.in_ok-changer.ensures.restored ∙ of_fault _ (path_in c.args.path.now) _ bad)
    ])
