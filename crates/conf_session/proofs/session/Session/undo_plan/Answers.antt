use Rattle.std.proofs.lemmas.Result.{IfOk-weaker}
use Rattle.conf_session.proofs.session.Session.undo_plan.Goals as goal

pub returns-clause-refused : goal.returns-clause-refused
returns-clause-refused c = rw c.self.view_is at c.undo_plan.ensures.refused

pub returns-clause-back : goal.returns-clause-back
returns-clause-back c =
    IfOk-weaker c.undo_plan.result _ _ (λ plan made. rw c.self.view_is at (c.undo_plan_leads_back.ensures c.self.inside.state c.args.count plan c.is_session.ensures c.requires made)) c.undo_plan.ensures.planned

pub returns-clause-best : goal.returns-clause-best
returns-clause-best c = rw c.self.view_is at c.undo_plan.ensures.best
