use Rattle.std.proofs.Common.{ap, subst, ◌∙◌}
use Rattle.quorum_sets.specs.Tolerance.{IsMostDown, may_be_down}
use Rattle.conf_change.specs.Configuration.{voters_of}
use Rattle.plan_output.proofs.stage.Stage.while_catching_up.Goals as goal

pub returns-clause-counted : goal.returns-clause-counted
returns-clause-counted c = c.most_down.ensures.counted ∙ ap (may_be_down (voters_of c.args.self.now.config)) c.catching_up.ensures

pub returns-clause-most : goal.returns-clause-most
returns-clause-most c = subst (λ uncounted. IsMostDown (voters_of c.args.self.now.config) uncounted c.most_down.result) c.catching_up.ensures c.most_down.ensures.most
