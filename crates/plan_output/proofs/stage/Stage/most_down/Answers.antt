use Rattle.std.proofs.Common.{ap, subst, ◌∙◌, arith}
use Rattle.quorum_sets.specs.Tolerance.{IsMostDown}
use Rattle.conf_change.specs.Configuration.{voters_of}
use Rattle.plan_output.specs.Stages.{StageState}
use Rattle.plan_output.proofs.stage.Stage.most_down.Goals as goal

pub returns-clause-counted : goal.returns-clause-counted
returns-clause-counted c = grind (arith, c.may_be_down.ensures.counted, c.config.view_is, c.self.view_is)

pub returns-clause-most : goal.returns-clause-most
returns-clause-most c =
    subst (λ voters. IsMostDown voters c.args.uncounted.now c.may_be_down.result)
    (ap voters_of c.config.view_is ∙ ap (λ (s : StageState). voters_of s.config) c.self.view_is) c.may_be_down.ensures.most
