use Rattle.std.proofs.Common.{ap, ◌∙◌}
use Rattle.quorum_sets.specs.Tolerance.{may_be_down}
use Rattle.conf_change.specs.Configuration.{voters_of}
use Rattle.conf_driver.specs.IdSets.{◌∖◌}
use Rattle.conf_driver.proofs.situation.tolerance.Goals as goal

pub returns : goal.returns
returns c =
    let voters = ap voters_of c.config.view_is in
    let uncounted = c.in_ok-uncounted.ensures ∙ ap (λ ids. ids ∖ c.args.ids.now) c.in_ok-voter_ids.ensures in
    c.may_be_down.ensures.counted ∙ (λ i. may_be_down (voters i) (uncounted i))
