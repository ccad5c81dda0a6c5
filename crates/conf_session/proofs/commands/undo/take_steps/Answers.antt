use Rattle.std.proofs.Common.{◌≡◌, List, ℕ, ◌++◌, sym, ap, ◌∙◌}
use Rattle.std.specs.Prelude.{Some, unwrap_or}
use Rattle.conf_change.specs.ChangerState.{ChangerState}
use Rattle.conf_plan.specs.PlanText.{plan_text}
use Rattle.conf_plan.specs.Run.{after_steps}
use Rattle.conf_session.specs.Reply.{Reply}
use Rattle.conf_session.specs.ReplyTexts.{tracker_text}
use Rattle.conf_session.specs.SessionState.{Undone}
use Rattle.conf_session.specs.Undo.{undone_by}
use Rattle.conf_session.proofs.commands.undo.take_steps.Goals as goal

pub returns-in_ok-append_tracker-in-Ok : goal.returns-in_ok-append_tracker-in-Ok
returns-in_ok-append_tracker-in-Ok c =
    let steps = c.args.plan.now in
    let changer = c.args.session.now.changer in
    let after = c.apply_plan.new.changer in
    let copied : c.in_ok-next.field-0 ≡ changer = c.in_ok-next.ensures.same ∙ c.changer.ensures in
    let there : after_steps changer steps ≡ Some after =
    ap (λ (before : ChangerState). after_steps before steps) (sym copied) ∙ (c.one_changer_after_steps.ensures.taken c.in_ok-next.field-0 after steps).0 c.in-Ok.ensures.taken in
    let reply : List ℕ → Reply = λ actual. record { actual = actual; update = Undone after c.args.count } in
    let plan = c.in_ok-print_plan-in-Ok.ensures.ok ∙ ap (λ t. t ++ plan_text steps) c.requires.blank in
    let text = c.in_ok-append_tracker-in-Ok.ensures ∙ (λ i. plan i ++ tracker_text (c.tracker.ensures.tracker i)) in
    ap reply text ∙ sym (ap (λ o. undone_by (unwrap_or o changer) c.args.count steps) there)
