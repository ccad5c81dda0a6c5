use Rattle.std.proofs.Common.{rules, ◌≡◌, sym, subst}
use Rattle.conf_session.specs.SessionState.{SessionState, IsSession, session_with, after_directive}
use Rattle.conf_session.specs.Reply.{session_change}
use Rattle.conf_session.proofs.state.State.apply.Goals as goal

pub invariant_of-self : goal.invariant_of-self
invariant_of-self c =
    let before : SessionState = c.args.self.now in
    let inside = c.match-update.self-inside in
    let whole : session_with c.set_last_index.new.self inside.history inside.kept.items ≡ after_directive before (session_change before.changer c.args.next.now c.args.update) = search rules in
    (subst IsSession (sym whole) c.requires, search rules)
