use Rattle.std.proofs.Common.{sym, ap, ◌∙◌, arith}
use Rattle.std.specs.Prelude.{option_copied}
use Rattle.std.proofs.lemmas.Result.{IfOk-weaker}
use Rattle.serde_json.specs.Written.{has_float}
use Rattle.plan_output.proofs.JsonLines.{first_line-step, has_float-no_steps_json, has_float-step_json}
use Rattle.plan_output.proofs.json.first_line.Goals as goal

pub returns-in-Some-clause-line : goal.returns-in-Some-clause-line
returns-in-Some-clause-line c =
    IfOk-weaker c.step_members.result _ _
    (λ members is. first_line-step (option_copied c.args.down) c.in_ok-stalls.stalls c.args.plan c.len.result c.args.now.now c.args.path.now c.in_ok-each.each c.in-Some.step.now
    c.in_ok-before-in-Some.before c.in_ok-after-in-Some.after _ c.in_ok-each.ensures c.in_ok-stalls.ensures c.len.ensures (sym c.in-Some.ensures) c.in_ok-before-in-Some.ensures c.in_ok-after-in-Some.ensures is)
    c.step_members.ensures

pub returns-in-Some-clause-no_float : goal.returns-in-Some-clause-no_float
returns-in-Some-clause-no_float c =
    IfOk-weaker c.step_members.result _ _
    (λ members is. ap has_float is ∙ has_float-step_json (option_copied c.args.down) c.in_ok-stalls.stalls c.args.plan c.len.result 1 c.in_ok-before-in-Some.before c.in-Some.step.now
    c.in_ok-after-in-Some.after)
    c.step_members.ensures

pub returns-clause-no_float : goal.returns-clause-no_float
returns-clause-no_float c = grind (arith, IfOk-weaker, has_float-no_steps_json, c.no_steps_members.ensures)
