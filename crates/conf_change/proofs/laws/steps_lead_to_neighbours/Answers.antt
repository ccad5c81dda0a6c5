use Rattle.conf_change.proofs.Steps.Soundness.{outcome-are_neighbours}
use Rattle.conf_change.proofs.laws.steps_lead_to_neighbours.Goals as goal

pub returns : goal.returns
returns c = outcome-are_neighbours
