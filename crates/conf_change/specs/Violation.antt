-- What is wrong with an invalid configuration, or with a ConfState or a line that describes no valid one (own).
use Rattle.std.specs.Prelude.{ℕ, not, ◌||◌, List, [], ◌∷◌, Option, Some, None, Result, Ok, Err, find, option_map, if◌then◌else◌}
use Rattle.std.specs.Option.{option_or}
use Rattle.quorum_sets.specs.Ids.{has, ascending, ids_of}
use Rattle.conf_change.specs.Configuration.{Configuration, keeps}
use Rattle.conf_change.specs.ConfState.{ConfStateLists, named_by}
use Rattle.conf_change.specs.ConfStateLine.{conf_state_in}
use Rattle.conf_change.specs.declared.config.Invariant.TheVariants.{ZeroId, NotJointButAutoLeave}
use Rattle.conf_change.specs.declared.violation.Violation.{Violation}
use Rattle.conf_change.specs.declared.violation.Violation.TheVariants as violated
use Rattle.conf_change.specs.declared.configuration_line.ConfigurationFault.{ConfigurationFault}
use Rattle.conf_change.specs.declared.configuration_line.ConfigurationFault.TheVariants.{BadConfState, NotAConfiguration, NoMemory}
use Rattle.conf_change.specs.declared.saved_configuration.ConfStateFault.{ConfStateFault}
use Rattle.conf_change.specs.declared.saved_configuration.ConfStateFault.TheVariants as line_fault

-- the first invariant that is broken, with the least id that breaks it
abbrev pub violation_of : Configuration → Option Violation
violation_of c =
    option_or (if keeps c ZeroId then None else Some violated.ZeroId)
    (option_or (option_map violated.NextNotOutgoing (find (λ id. not (has c.outgoing id)) (ascending c.learners_next)))
    (option_or (option_map violated.NextAndIncoming (find (has c.incoming) (ascending c.learners_next)))
    (option_or (option_map violated.LearnerAndVoter (find (λ id. has c.incoming id || has c.outgoing id) (ascending c.learners)))
    (if keeps c NotJointButAutoLeave then None else Some violated.NotJointButAutoLeave))))

-- the first id in a list that occurs in it again: 1 of 1 2 3 2 1
abbrev pub first_repeat : List ℕ → Option ℕ
first_repeat [] = None
first_repeat (id ∷ rest) = if has (ids_of rest) id then Some id else first_repeat rest

-- the first id that one of the four lists names twice
abbrev pub repeat_in : ConfStateLists → Option ℕ
repeat_in saved = option_or (option_or (option_or (first_repeat saved.voters) (first_repeat saved.voters_outgoing)) (first_repeat saved.learners)) (first_repeat saved.learners_next)

-- what is wrong with a ConfState: an id that is listed twice, or else what is wrong with the configuration that it
-- names
abbrev pub violation_in : ConfStateLists → Option Violation
violation_in saved = option_or (option_map violated.ListedTwice (repeat_in saved)) (violation_of (named_by saved))

-- the configuration, unless something is wrong with it
abbrev pub unless_violated : Configuration → Option Violation → Result Configuration ConfigurationFault
unless_violated c None = Ok c
unless_violated c (Some violation) = Err (NotAConfiguration violation)

-- the valid configuration that a ConfState describes, or what is wrong
abbrev pub valid_of : ConfStateLists → Result Configuration ConfigurationFault
valid_of saved = unless_violated (named_by saved) (violation_in saved)

-- the error of a text that is not a ConfState line, as the reason why it names no valid configuration
abbrev pub line_fault_of : ConfStateFault → ConfigurationFault
line_fault_of line_fault.BadConfState = BadConfState
line_fault_of line_fault.NoMemory = NoMemory

-- the valid configuration that the ConfState of a line describes, or what is wrong, such as that the line has none
abbrev pub unless_bad : Option ConfStateLists → Result Configuration ConfigurationFault
unless_bad None = Err BadConfState
unless_bad (Some saved) = valid_of saved

-- the valid configuration that a line describes, or what is wrong
abbrev pub configuration_in : List ℕ → Result Configuration ConfigurationFault
configuration_in line = unless_bad (conf_state_in line)
