use Rattle.std.proofs.Common.{◌≡◌, List, ℕ, ◌++◌, sym, ap, ◌∙◌}
use Rattle.conf_change.specs.Changer.{begun_with}
use Rattle.conf_session.specs.Commands.{restore_reply}
use Rattle.conf_session.specs.Reply.{Reply, restored_with}
use Rattle.conf_session.specs.ReplyTexts.{tracker_text}
use Rattle.conf_session.specs.SessionState.{Restored}
use Rattle.conf_session.proofs.commands.restore.run.Goals as goal

pub returns-in_ok-append_tracker-in-Ok : goal.returns-in_ok-append_tracker-in-Ok
returns-in_ok-append_tracker-in-Ok c =
    let changer = c.args.changer.now in
    let after = c.in-Ok.after in
    let config = after.tracker.config in
    let is = c.in-Ok.ensures in
    let begun : after ≡ begun_with changer.tracker.floor changer.last_index config =
    is.described config is.restored is.sound.restorable ∙ (λ i. begun_with (c.floor.ensures i) (c.last_index.ensures i) config) in
    let reply : List ℕ → Reply = λ actual. record { actual = actual; update = Restored after } in
    let text = c.in_ok-append_tracker-in-Ok.ensures ∙ (λ i. c.requires i ++ tracker_text (c.tracker.ensures.tracker i)) in
    ap reply text ∙ ap restored_with begun ∙ sym (ap (restore_reply changer) is.as_function)
