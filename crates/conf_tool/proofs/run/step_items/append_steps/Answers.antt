use Rattle.std.proofs.Common.{◌≡◌, ◌∙◌, ◌++◌, length, sym, ap, subst, arith, rules}
use Rattle.std.specs.Prelude.{Some}
use Rattle.std.proofs.lemmas.Option.{slice_get-get_or}
use Rattle.conf_tool.specs.Reports.{answered_text, session_after_all}
use Rattle.conf_tool.proofs.ModeOutput.AppendedItems.{Appended, appended-nothing, appended-more, directives-more, no-steps, all-steps, ok-by}
use Rattle.conf_tool.proofs.run.step_items.append_steps.Goals as goal

pub loop-step-init : goal.loop-step-init
loop-step-init c = appended-nothing _ _

pub loop-step-preserved : goal.loop-step-preserved
loop-step-preserved c =
    let ran = rw c.in_ok-directive.ensures at c.in_ok-rewrite_item.ensures in
    subst (Appended c.args.session.now c.rewrite_item.new.session c.args.text.now.items c.rewrite_item.new.text.items)
    (sym (directives-more c.args.steps.now c.loop-step.step-index _ (slice_get-get_or _ _ _ c.loop-step-test.true ∙ ap Some (sym c.step-item.is))))
    (appended-more _ _ _ _ _ _ _ _ c.loop-step.invariant ran.session ran.text)

pub returns-then-is_empty : goal.returns-then-is_empty
returns-then-is_empty c =
    let none : length c.args.steps.now ≡ 0 = search rules in
    record {
      session = ok-by c.append_comment.result (λ same. same ∙ sym (ap (session_after_all c.args.session.now) (no-steps c.args.steps.now none))) c.append_comment.ensures.session;
      text = ok-by c.append_comment.result (λ is. is ∙ ap (λ items. c.args.text.now.items ++ answered_text c.args.session.now items) (sym (no-steps c.args.steps.now none))) c.append_comment.ensures.text;
    }

pub returns : goal.returns
returns c =
    let some : length c.args.steps.now ≡ 0 → ⊥ = search (rules, arith) in
    let all = subst (Appended c.args.session.now c.loop-step.session c.args.text.now.items c.loop-step.text.items) (all-steps c.args.steps.now c.loop-step.step-index some c.loop-step-test.false) c.loop-step.invariant in
    record { session = all.session; text = all.text }
