use Rattle.quorum_sets.specs.Ids.{no_ids}
use Rattle.plan_output.proofs.StagesOnTheWay.{AreOnTheWay-run}
use Rattle.plan_output.proofs.laws.stages_are_on_the_way.Goals as goal

pub returns : goal.returns
returns c now target steps run = AreOnTheWay-run now target no_ids steps run
