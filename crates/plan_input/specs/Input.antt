-- The current configuration and the target that texts denote.
use Rattle.std.specs.Prelude.{◌≡◌, ◌⊎◌, ℕ, Bool, true, false, List, Option, Some, None, Result, Ok, Err, nat_eq, if◌then◌else◌}
use Rattle.std.specs.Char.{is_ascii_digit}
use Rattle.std.specs.List.{list_all, list_any}
use Rattle.raft_json.specs.SavedJson.{saved_in_json}
use Rattle.conf_change.specs.ChangeList.{BadToken, bad_token, changes_in, token_of}
use Rattle.conf_change.specs.Configuration.{Configuration}
use Rattle.conf_change.specs.ConfState.{ConfStateLists}
use Rattle.conf_change.specs.PrintedConfig.{config_in}
use Rattle.conf_change.specs.Violation.{valid_of, configuration_in}
use Rattle.conf_change.specs.declared.change.Change.{Change}
use Rattle.conf_change.specs.declared.change_list.TokenFault.{TokenFault}
use Rattle.conf_change.specs.declared.configuration_line.ConfigurationFault.{ConfigurationFault}
use Rattle.conf_change.specs.declared.configuration_line.ConfigurationFault.TheVariants as line_fault
use Rattle.plan_input.specs.Changed.{after_changes}
use Rattle.plan_input.specs.Form.{form_of}
use Rattle.plan_input.specs.HexadecimalId.{from_bracket, id_hint}
use Rattle.plan_input.specs.Refusal.{list_refusal}
use Rattle.plan_input.specs.ShortToken.{short_token}
use Rattle.plan_input.specs.TextIds.{has_text_ids_in}
use Rattle.plan_input.specs.declared.form.Form.{Form}
use Rattle.plan_input.specs.declared.form.Form.TheVariants.{Json, ConfStateLine, Printed, Other}
use Rattle.plan_input.specs.declared.text_fault.TextFault.{TextFault}
use Rattle.plan_input.specs.declared.text_fault.TextFault.TheVariants.{UnknownForm, BadConfState, BadPrinted, CommasBetween, BadJson, TextIds, NotAConfiguration, BadChange, BareId, NoMemory}

-- what is wrong with a text that is not JSON of a configuration, by whether an id in it is a text
abbrev pub json_fault : List ℕ → Bool → TextFault
json_fault text true = TextIds (id_hint (from_bracket text))
json_fault text false = BadJson (id_hint (from_bracket text))

-- what is wrong with a text that is not JSON of a configuration
abbrev pub bad_json : List ℕ → TextFault
bad_json text = json_fault text (has_text_ids_in text)

-- what is wrong with a text that is not a printed configuration
abbrev pub bad_printed : List ℕ → TextFault
bad_printed text = if list_any (nat_eq 44) text then CommasBetween (id_hint text) else BadPrinted (id_hint text)

-- what is wrong with a token that is not a change
abbrev pub bad_change : List ℕ → TextFault
bad_change token = if list_all is_ascii_digit token then BareId (short_token token) else BadChange (short_token token) (id_hint token)

-- the error of a ConfState line, or of a saved configuration, as that of this text
abbrev pub text_fault_of : List ℕ → ConfigurationFault → TextFault
text_fault_of text line_fault.BadConfState = BadConfState (id_hint text)
text_fault_of text (line_fault.NotAConfiguration violation) = NotAConfiguration violation
text_fault_of text line_fault.NoMemory = NoMemory

-- the error for a bad token of a list of changes; without one, memory ran out
abbrev pub change_fault : Option BadToken → TextFault
change_fault (Some bad) = bad_change (token_of bad)
change_fault None = NoMemory

-- the error of a list of changes, as that of a text
abbrev pub change_fault_of : TokenFault → TextFault
change_fault_of fault = change_fault (bad_token fault)

-- a configuration, or the error of this text
abbrev pub as_text : List ℕ → Result Configuration ConfigurationFault → Result Configuration TextFault
as_text text (Ok c) = Ok c
as_text text (Err fault) = Err (text_fault_of text fault)

-- the valid configuration that the saved one of this text describes; this error if there is no saved one
abbrev pub valid_or : List ℕ → TextFault → Option ConfStateLists → Result Configuration TextFault
valid_or text fault None = Err fault
valid_or text fault (Some saved) = as_text text (valid_of saved)

-- the valid configuration that a text denotes in this form, or what is wrong with it
abbrev pub configuration_as : Form → List ℕ → Result Configuration TextFault
configuration_as Json text = valid_or text (bad_json text) (saved_in_json text)
configuration_as ConfStateLine text = as_text text (configuration_in text)
configuration_as Printed text = valid_or text (bad_printed text) (config_in text)
configuration_as Other text = Err UnknownForm

-- the current configuration that a text denotes
abbrev pub current_in : List ℕ → Result Configuration TextFault
current_in text = configuration_as (form_of text) text

-- the target of a list of changes, unless it is refused
abbrev pub unless_refused : Configuration → List Change → Option TextFault → Result Configuration TextFault
unless_refused now changes None = Ok (after_changes now changes)
unless_refused now changes (Some why) = Err why

-- the target of a list of changes, or why it has none; without a list, the error of its first bad token
abbrev pub target_of_changes : Configuration → Result (List Change) BadToken → Result Configuration TextFault
target_of_changes now (Ok changes) = unless_refused now changes (list_refusal now changes)
target_of_changes now (Err bad) = Err (bad_change (token_of bad))

-- the target that a text denotes in this form: in no other form, it is a list of changes of the current configuration
abbrev pub target_as : Configuration → Form → List ℕ → Result Configuration TextFault
target_as now Json text = configuration_as Json text
target_as now ConfStateLine text = configuration_as ConfStateLine text
target_as now Printed text = configuration_as Printed text
target_as now Other text = target_of_changes now (changes_in text)

-- the target that a text denotes, if this is the current configuration
abbrev pub target_in : Configuration → List ℕ → Result Configuration TextFault
target_in now text = target_as now (form_of text) text

-- the error of a text that was read: what is wrong with it, or that memory ran out
abbrev pub IsFaultOf : Result Configuration TextFault → TextFault → Type 0
IsFaultOf read fault = (fault ≡ NoMemory) ⊎ (read ≡ Err fault)
