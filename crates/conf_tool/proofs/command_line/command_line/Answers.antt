use Rattle.std.proofs.Common.{refl}
use Rattle.conf_tool.proofs.command_line.command_line.Goals as goal

pub returns-clause-refused : goal.returns-clause-refused
returns-clause-refused g c = (_, record { floors = refl; strategies = refl; outputs = refl }, c.read_arguments.ensures.refused)

pub returns-clause-asked : goal.returns-clause-asked
returns-clause-asked g c = (_, record { floors = refl; strategies = refl; outputs = refl }, c.read_arguments.ensures.asked)
