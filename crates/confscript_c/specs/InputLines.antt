-- What the ConfState line of a call denotes. If it is wrong, the answer has its number, counted from 1.
use Rattle.std.specs.Prelude.{ℕ, Option, Some, None, Result, Ok, Err}
use Rattle.conf_change.specs.ConfState.{ConfStateLists}
use Rattle.conf_change.specs.declared.saved_configuration.ConfStateFault.{ConfStateFault}
use Rattle.conf_change.specs.declared.saved_configuration.ConfStateFault.TheVariants as fault
use Rattle.confscript_c.specs.Answer.{status_answer, no_memory}
use Rattle.confscript_c.specs.declared.answer.Answer.{Answer}
use Rattle.confscript_c.specs.declared.status.Status.TheVariants.{BadConfState}

-- the answer for an error of the line with this number
abbrev pub line_answer : ℕ → ConfStateFault → Answer
line_answer number fault.BadConfState = status_answer BadConfState number
line_answer number fault.NoMemory = no_memory

-- the saved configuration of the line with this number, or the answer if the line has none
abbrev pub read_as : ℕ → Option ConfStateLists → Result ConfStateLists Answer
read_as number None = Err (status_answer BadConfState number)
read_as number (Some saved) = Ok saved
