use Rattle.std.proofs.Common.{◌≡◌, ◌++◌, refl, sym, subst}
use Rattle.std.specs.Prelude.{IfOk, OnOk}
use Rattle.clap.proofs.BuiltLemmas.{on_ok_always}
use Rattle.plan_output.specs.Output as output
use Rattle.plan_output.specs.Stages.{stalls_with}
use Rattle.conf_tool.specs.PlanAnswer.{session_as, text_as}
use Rattle.conf_tool.proofs.plan_answer.append_path.Goals as goal

pub returns-in-Text-clause-text : goal.returns-in-Text-clause-text
returns-in-Text-clause-text c =
    let now = c.args.now.now in
    let steps = c.args.path.now in
    let before = c.args.text.now.items in
    let after = c.add_path.new.text.items in
    let printed = subst (λ down. OnOk c.add_path.result (after ≡ before ++ output.text_as c.in-Text.output c.args.number down now steps)) c.as_ref-down.ensures.value c.add_path.ensures.ok in
    subst (λ form. OnOk c.add_path.result (after ≡ before ++ text_as form c.args.session.now c.args.number c.args.options.now.down now steps)) (sym c.in-Text.is) printed

pub returns-in-Text-clause-session : goal.returns-in-Text-clause-session
returns-in-Text-clause-session c =
    let session = c.args.session.now in
    subst (λ form. OnOk c.add_path.result (session ≡ session_as form session c.args.options.now.down c.args.now.now c.args.path.now)) (sym c.in-Text.is) (on_ok_always c.add_path.result refl)

pub returns-in-Text-clause-stalls : goal.returns-in-Text-clause-stalls
returns-in-Text-clause-stalls c =
    subst (λ down. IfOk c.add_path.result (λ stalls. stalls ≡ stalls_with down c.args.now.now c.args.path.now)) c.as_ref-down.ensures.value c.add_path.ensures.stalls
