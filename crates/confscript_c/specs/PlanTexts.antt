-- The configurations that the two texts of `confscript_plan` denote. The answer for an error has the number of the text.
use Rattle.std.specs.Prelude.{ℕ, List, Result, Ok, Err}
use Rattle.conf_change.specs.Configuration.{Configuration}
use Rattle.plan_input.specs.Input.{current_in, target_in}
use Rattle.plan_input.specs.declared.text_fault.TextFault.{TextFault}
use Rattle.plan_input.specs.declared.text_fault.TextFault.TheVariants as fault
use Rattle.confscript_c.specs.Answer.{status_answer, no_memory}
use Rattle.confscript_c.specs.declared.answer.Answer.{Answer}
use Rattle.confscript_c.specs.declared.status.Status.TheVariants.{BadConfState, NotAConfiguration, UnknownForm, BadPrinted, BadJson, BadChangeList, NotAMember, AddedAgain}

-- the answer for an error of the text with this number; a change that is refused has the number of its id
abbrev pub text_answer : ℕ → TextFault → Answer
text_answer number fault.UnknownForm = status_answer UnknownForm number
text_answer number (fault.BadConfState hint) = status_answer BadConfState number
text_answer number (fault.BadPrinted hint) = status_answer BadPrinted number
text_answer number (fault.CommasBetween hint) = status_answer BadPrinted number
text_answer number (fault.BadJson hint) = status_answer BadJson number
text_answer number (fault.TextIds hint) = status_answer BadJson number
text_answer number (fault.NotAConfiguration violation) = status_answer NotAConfiguration number
text_answer number (fault.BadChange token hint) = status_answer BadChangeList number
text_answer number (fault.BareId token) = status_answer BadChangeList number
text_answer number fault.Empty = status_answer BadChangeList number
text_answer number (fault.NotAMember id) = status_answer NotAMember id
text_answer number (fault.AddedAgain id) = status_answer AddedAgain id
text_answer number fault.NoMemory = no_memory

-- the configuration of the text with this number, or the answer if it has none
abbrev pub read_at : ℕ → Result Configuration TextFault → Result Configuration Answer
read_at number (Ok c) = Ok c
read_at number (Err why) = Err (text_answer number why)

-- the current configuration, which the first text denotes
abbrev pub current_or_answer : List ℕ → Result Configuration Answer
current_or_answer text = read_at 1 (current_in text)

-- the target, which the second text denotes, if this is the current configuration
abbrev pub target_or_answer : Configuration → List ℕ → Result Configuration Answer
target_or_answer now text = read_at 2 (target_in now text)

-- a configuration with its target, or the answer if there is none
abbrev pub paired : Configuration → Result Configuration Answer → Result (Configuration × Configuration) Answer
paired now (Ok target) = Ok (now, target)
paired now (Err why) = Err why

-- the current configuration with its target; an error of the first text comes first
abbrev pub with_target : List ℕ → Result Configuration Answer → Result (Configuration × Configuration) Answer
with_target target (Ok now) = paired now (target_or_answer now target)
with_target target (Err why) = Err why

-- the configurations of two texts
abbrev pub pair_in : List ℕ → List ℕ → Result (Configuration × Configuration) Answer
pair_in now target = with_target target (current_or_answer now)
