-- Configurations in numbers: an array of a flag, five counts, and the ids that they count.
use Rattle.std.specs.Prelude.{ℕ, ◌+◌, Bool, ◌==◌, ◌&&◌, List, ◌∷◌, ◌++◌, length, nat_eq, nat_le, Result, Ok, Err, if◌then◌else◌}
use Rattle.std.specs.List.{slice_index, slice_range}
use Rattle.quorum_sets.specs.Ids.{Ids, ascending}
use Rattle.conf_change.specs.Configuration.{Configuration, has_voter_or_is_empty, member_ids}
use Rattle.conf_change.specs.ConfState.{ConfStateLists, lists_of}
use Rattle.conf_change.specs.Violation.{valid_of}
use Rattle.conf_change.specs.declared.configuration_line.ConfigurationFault.{ConfigurationFault}
use Rattle.conf_change.specs.declared.configuration_line.ConfigurationFault.TheVariants as fault
use Rattle.conf_change.specs.declared.violation.Violation.{Violation}
use Rattle.conf_change.specs.declared.violation.Violation.TheVariants as violated
use Rattle.confscript_c.specs.Answer.{status_answer, no_memory}
use Rattle.confscript_c.specs.Written.{OutResult}
use Rattle.confscript_c.specs.declared.answer.Answer.{Answer}
use Rattle.confscript_c.specs.declared.status.Status.TheVariants.{RepeatedId, NoVoter, ZeroId, NextNotOutgoing, NextAndIncoming, LearnerAndVoter, NotJointButAutoLeave, DifferentLengths}

-- ---- written
-- the number of the flag
abbrev pub flag_number : Bool → ℕ
flag_number auto_leave = if auto_leave then 1 else 0

-- the array of a saved configuration, with the ids that are catching up
abbrev pub array_of : ConfStateLists → List ℕ → List ℕ
array_of saved catching_up =
    flag_number saved.auto_leave ∷ length saved.voters ∷ length saved.voters_outgoing ∷ length saved.learners ∷ length saved.learners_next ∷ length catching_up
    ∷ saved.voters ++ saved.voters_outgoing ++ saved.learners ++ saved.learners_next ++ catching_up

-- the array of a configuration, with the members that are catching up; the ids of each part are in ascending order
abbrev pub numbers_of : Configuration → Ids → List ℕ
numbers_of c catching_up = array_of (lists_of c) (ascending catching_up)

-- ---- read
-- how many ids the array counts: its second to sixth numbers are the counts
abbrev pub counted : List ℕ → ℕ
counted numbers = slice_index numbers 1 + slice_index numbers 2 + slice_index numbers 3 + slice_index numbers 4 + slice_index numbers 5

-- whether the array has a flag, five counts, and as many ids as they count
abbrev pub has_form : List ℕ → Bool
has_form numbers = nat_le 6 (length numbers) && nat_le (slice_index numbers 0) 1 && nat_eq (length numbers) (6 + counted numbers)

-- the index of the first outgoing voter, and so on, as far as there are any
abbrev pub outgoing_at : List ℕ → ℕ
outgoing_at numbers = 6 + slice_index numbers 1

abbrev pub learners_at : List ℕ → ℕ
learners_at numbers = outgoing_at numbers + slice_index numbers 2

abbrev pub learners_next_at : List ℕ → ℕ
learners_next_at numbers = learners_at numbers + slice_index numbers 3

abbrev pub catching_up_at : List ℕ → ℕ
catching_up_at numbers = learners_next_at numbers + slice_index numbers 4

-- the saved configuration of an array; the ids that are catching up belong to the step before it, and are ignored
abbrev pub lists_in : List ℕ → ConfStateLists
lists_in numbers = record {
  voters = slice_range numbers 6 (outgoing_at numbers);
  voters_outgoing = slice_range numbers (outgoing_at numbers) (learners_at numbers);
  learners = slice_range numbers (learners_at numbers) (learners_next_at numbers);
  learners_next = slice_range numbers (learners_next_at numbers) (catching_up_at numbers);
  auto_leave = slice_index numbers 0 == 1;
}

-- ---- checked
-- the answer for an id that is listed twice or for a broken invariant, with the id
abbrev pub violation_answer : Violation → Answer
violation_answer (violated.ListedTwice id) = status_answer RepeatedId id
violation_answer violated.ZeroId = status_answer ZeroId 0
violation_answer (violated.NextNotOutgoing id) = status_answer NextNotOutgoing id
violation_answer (violated.NextAndIncoming id) = status_answer NextAndIncoming id
violation_answer (violated.LearnerAndVoter id) = status_answer LearnerAndVoter id
violation_answer violated.NotJointButAutoLeave = status_answer NotJointButAutoLeave 0

-- the answer for a configuration that is not valid, or this one if it could not be read
abbrev pub fault_answer : ConfigurationFault → Answer → Answer
fault_answer fault.BadConfState unread = unread
fault_answer (fault.NotAConfiguration violation) unread = violation_answer violation
fault_answer fault.NoMemory unread = no_memory

-- the configuration that a saved one describes, or the answer if it is not valid
abbrev pub valid_or_answer : Result Configuration ConfigurationFault → Result Configuration Answer
valid_or_answer (Ok c) = Ok c
valid_or_answer (Err why) = Err (fault_answer why (status_answer DifferentLengths 0))

-- the valid configuration of an array, or the answer if it has none
abbrev pub valid_configuration_of : List ℕ → Result Configuration Answer
valid_configuration_of numbers =
    if has_form numbers then valid_or_answer (valid_of (lists_in numbers)) else Err (status_answer DifferentLengths 0)

-- the configuration, or the answer if it has members but no incoming voter
abbrev pub with_voter : Configuration → Result Configuration Answer
with_voter c = if has_voter_or_is_empty c then Ok c else Err (status_answer NoVoter 0)

-- a valid configuration, or the answer if there is none or it has no voter
abbrev pub with_voter_or_answer : Result Configuration Answer → Result Configuration Answer
with_voter_or_answer (Ok c) = with_voter c
with_voter_or_answer (Err why) = Err why

-- the configuration of an array, or the answer if it has no valid one or that has members but no incoming voter
abbrev pub configuration_of : List ℕ → Result Configuration Answer
configuration_of numbers = with_voter_or_answer (valid_configuration_of numbers)

-- ---- restored
-- the array of a configuration all of whose members are catching up, if there is a configuration
abbrev pub restored_array : Result Configuration Answer → OutResult
restored_array (Ok c) = Ok (numbers_of c (member_ids c))
restored_array (Err why) = Err why

-- the result of `confscript_restore`
abbrev pub restore_result : List ℕ → OutResult
restore_result numbers = restored_array (configuration_of numbers)
