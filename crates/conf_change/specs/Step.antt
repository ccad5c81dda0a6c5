-- The parts of a step.
use Rattle.std.specs.Prelude.{List, []}
use Rattle.conf_change.specs.declared.change.Change.{Change}
use Rattle.conf_change.specs.declared.step.Step.{Step}
use Rattle.conf_change.specs.declared.step.Step.TheVariants.{Simple, EnterJoint, LeaveJoint}

-- the changes of a step, in order; leaving a joint configuration has none
abbrev pub changes_of : Step → List Change
changes_of (Simple changes) = changes
changes_of (EnterJoint _ changes) = changes
changes_of LeaveJoint = []
