use Rattle.conf_change.specs.Changer.{Accepts}
use Rattle.conf_plan.specs.Run.{Gives}
use Rattle.conf_plan.proofs.Runs.Chains.{IsChain-append, IsChain-split}
use Rattle.conf_plan.proofs.Runs.TakenInOrder.{StopsAt-first, StopsAt-rest}
use Rattle.conf_plan.proofs.laws.parts_are_the_whole.Goals as goal

pub returns-clause-taken : goal.returns-clause-taken
returns-clause-taken c = λ before after first rest. (
  IsChain-split Accepts before after first rest,
  λ parts. IsChain-append Accepts before parts.0 after first rest parts.1 parts.2,
)

pub returns-clause-run : goal.returns-clause-run
returns-clause-run c = λ before after first rest. (
  IsChain-split Gives before after first rest,
  λ parts. IsChain-append Gives before parts.0 after first rest parts.1 parts.2,
)

pub returns-clause-first_stops : goal.returns-clause-first_stops
returns-clause-first_stops c = StopsAt-first

pub returns-clause-rest_stops : goal.returns-clause-rest_stops
returns-clause-rest_stops c = StopsAt-rest
