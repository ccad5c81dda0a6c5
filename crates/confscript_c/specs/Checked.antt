-- What is wrong with the configuration of a line.
use Rattle.std.specs.Prelude.{ℕ, List, Result, Ok, Err}
use Rattle.conf_change.specs.Configuration.{Configuration}
use Rattle.conf_change.specs.Violation.{configuration_in}
use Rattle.conf_change.specs.declared.configuration_line.ConfigurationFault.{ConfigurationFault}
use Rattle.confscript_c.specs.Answer.{status_answer, done}
use Rattle.confscript_c.specs.Numbers.{fault_answer}
use Rattle.confscript_c.specs.declared.answer.Answer.{Answer}
use Rattle.confscript_c.specs.declared.status.Status.TheVariants.{BadConfState}

-- the answer for a line, given what was read from it
abbrev pub checked_answer : Result Configuration ConfigurationFault → Answer
checked_answer (Ok c) = done 0
checked_answer (Err fault) = fault_answer fault (status_answer BadConfState 1)

-- the answer of `confscript_check` for a line
abbrev pub check_answer : List ℕ → Answer
check_answer line = checked_answer (configuration_in line)
