use Rattle.std.proofs.Common.{◌≡◌, take, drop}
use Rattle.conf_session.specs.Arguments.{first_bad, bad_argument}
use Rattle.conf_session.specs.Values.{values_in}
use Rattle.conf_session.proofs.values.Values.read.Given as goal

abbrev pub invariant-loop-index : goal.invariant-loop-index
invariant-loop-index l =
    (first_bad l.parameters (take l.index l.arguments) (drop l.index l.arguments) ≡ bad_argument l.parameters l.arguments)
    × (l.self ≡ values_in (take l.index l.arguments))
