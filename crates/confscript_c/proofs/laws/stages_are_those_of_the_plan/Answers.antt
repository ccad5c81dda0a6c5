use Rattle.confscript_c.proofs.StagesOfThePlan.{AreOfOnePath-results}
use Rattle.confscript_c.proofs.laws.stages_are_those_of_the_plan.Goals as goal

pub returns : goal.returns
returns c = AreOfOnePath-results
