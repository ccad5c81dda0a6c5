use Rattle.std.proofs.Common.{◌≡◌, ap, subst, sym, ◌∙◌}
use Rattle.conf_session.specs.Commands.{row_of, reply_by, reply_to}
use Rattle.conf_session.specs.Reply.{Reply, reply_in}
use Rattle.conf_session.specs.ReplyLines.{IsValidOutput}
use Rattle.conf_session.specs.SessionState.{SessionState, IsSession, after_directive}
use Rattle.conf_session.proofs.session.Session.step.Goals as goal

pub apply-requires : goal.apply-requires
apply-requires c =
    let state = c.self.inside.state in
    let directive = c.args.directive.now in
    let After : Reply → Type 0 = λ reply. IsSession (after_directive state reply.update) in
    let row = (λ i. reply_by (c.row_of-row.ensures i) state (c.input-input.ensures i) (c.arguments-arguments.ensures.arguments i)) ∙ ap (λ name. reply_by (row_of name) state directive.input directive.arguments) c.command.ensures in
    subst After (sym (c.in_ok-update.ensures ∙ row)) (c.answer_keeps_session.ensures state directive c.is_session.ensures)

pub returns : goal.returns
returns c =
    let state = c.self.inside.state in
    let directive = c.args.directive.now in
    let After : Reply → SessionState = λ reply. after_directive state reply.update in
    let reply : reply_in state.changer c.run.new.buffers.next c.run.new.text.items c.in_ok-update.update ≡ reply_to state directive =
    c.in_ok-update.ensures ∙ (λ i. reply_by (c.row_of-row.ensures i) state (c.input-input.ensures i) (c.arguments-arguments.ensures.arguments i)) ∙ ap (λ name. reply_by (row_of name) state directive.input directive.arguments) c.command.ensures in
    let same : state ≡ c.args.self.now = c.self.view_is in
    let actual = ap (λ (r : Reply). r.actual) reply in
    record {
      actual = actual ∙ ap (λ s. (reply_to s directive).actual) same;
      valid_output = subst IsValidOutput (sym actual) (c.actual_output_is_valid.ensures state directive c.arguments-arguments.ensures.keys);
      session = c.apply.ensures ∙ ap After reply ∙ ap (λ s. after_directive s (reply_to s directive).update) same;
      unchanged = tt;
    }
