-- What is left of the output of a mode after some parts of its input, by the mode's state. A run is proved with it, part
-- by part: what was written, and then what is left, is the output.
use Rattle.std.specs.Prelude.{◌≡◌, ◌≤◌, ℕ, ◌+◌, ◌||◌, true, List, [], ◌∷◌, ◌++◌, flat_map, count_by, nat_lt, Option, Some, None, Result, Ok, Err, IfSome}
use Rattle.std.specs.List.{list_any}
use Rattle.std.specs.Io.KnownBytes.{Appends}
use Rattle.dd_file.specs.Position.{Position}
use Rattle.dd_file.specs.Grammar.{Next, Script, script_from, followed}
use Rattle.dd_file.specs.Rewritten.{Entry, is_directive, rest_of_script}
use Rattle.dd_file.specs.Items.{Item}
use Rattle.dd_file.specs.declared.fault.FileFault.{FileFault}
use Rattle.conf_session.specs.SessionState.{SessionState}
use Rattle.conf_tool.specs.Reports.{session_after_all, answered_entries, answered_text, differs, report, counts_line}
use Rattle.conf_tool.specs.Outputs.{Output, output, clean_unless, check_status, undone_unless, worse_of, pair_then, session_after_pair, ends_within, planned_pairs}
use Rattle.conf_change.specs.Configuration.{is_valid}
use Rattle.conf_tool.specs.Pairs.{NumberedLine, numbered, configuration_lines, pair_to, with_target}
use Rattle.conf_tool.specs.declared.pair.Current.{Current}
use Rattle.conf_tool.specs.declared.plan_options.PlanOptions.{PlanOptions}
use Rattle.conf_tool.specs.declared.status.Status.{Status}
use Rattle.conf_tool.specs.declared.plan_input_fault.PlanInputFault.{PlanInputFault}
use Rattle.conf_tool.specs.declared.tool_fault.ToolFault.TheVariants.{Script as ScriptFault}

-- a script of these items, ended by this error if there is one
abbrev pub script : {A : Type 0} → List A → Option FileFault → Script A
script items fault = record { items = items; fault = fault }

-- a script with these parts before the rest
abbrev pub prepended : {A : Type 0} → List A → Script A → Script A
prepended parts rest = script (parts ++ rest.items) rest.fault

-- an output with this text before its own
abbrev pub with_prefix : List ℕ → Output → Output
with_prefix text output = record { text = text ++ output.text; outcome = output.outcome }

-- an input is its next part, and then the rest
abbrev pub InTurn : {A : Type 0} → (Position → List ℕ → Next A) → Type 0
InTurn next = (position : Position) (bytes : List ℕ) → script_from next position bytes ≡ followed (script_from next) (next position bytes)

-- the replies to these parts were written, and what is left of the output comes after them
pub record WrotePrefix {A : Type 0} (total left : Script A → Output) (parts : List A) (before after : Option (List ℕ)) : Type 0 where
  pub text : List ℕ
  pub wrote : Appends before after text
  pub is : (rest : Script A) → total (prepended parts rest) ≡ with_prefix text (left rest)

-- What is left of the output of `check`, by the entries that are left and the counts so far.
abbrev pub rest_checked : ℕ → ℕ → List Entry → Option FileFault → Output
rest_checked directives mismatches entries None = record {
  text = flat_map report entries ++ counts_line (directives + count_by (λ entry. is_directive entry.item) entries) (mismatches + count_by differs entries);
  outcome = Ok (check_status (nat_lt 0 mismatches || list_any differs entries));
}
rest_checked directives mismatches entries (Some fault) = record { text = flat_map report entries; outcome = Err (ScriptFault fault) }

-- what is left of the output of `check`, by the session and the counts so far
abbrev pub check_left : SessionState → ℕ → ℕ → Script Item → Output
check_left session directives mismatches rest = rest_checked directives mismatches (answered_entries session rest.items) rest.fault

-- what is left of the output of `rewrite`, by the session and the newlines at the end of the text so far
abbrev pub rewrite_left : SessionState → ℕ → Script Item → Output
rewrite_left session newlines rest = output (rest_of_script newlines (answered_text session rest.items)) (clean_unless rest.fault)

-- what is left of the output of `undo`, by the session: all of it, since its reply is to the end
abbrev pub undo_left : SessionState → ℕ → Script Item → Output
undo_left session count rest = undone_unless (session_after_all session rest.items) count rest.fault

-- what is left of the output of `plan` after the first line of a pair, by what was read there
abbrev pub pairs_within : PlanOptions → SessionState → ℕ → Result Current PlanInputFault → List NumberedLine → Option FileFault → Output
pairs_within options session number first [] fault = ends_within first fault
pairs_within options session number first (second ∷ lines) fault =
    let pair = with_target (pair_to options second) first in
    pair_then options session number pair (planned_pairs options (session_after_pair options session pair) (number + 1) lines fault)

-- what is left of the output of `plan`, by the current configuration of the pair, if it was read
abbrev pub pairs_left : PlanOptions → SessionState → ℕ → Option Current → List NumberedLine → Option FileFault → Output
pairs_left options session number None lines fault = planned_pairs options session number lines fault
pairs_left options session number (Some now) lines fault = pairs_within options session number (Ok now) lines fault

-- an output, if the worst status of the pairs before it is this one
abbrev pub with_status : Status → Output → Output
with_status status output = record { text = output.text; outcome = worse_of status output.outcome }

-- What is left of the output of `plan` after this many lines, by the session, the number of the pair that is read, its
-- current configuration if that was read, and the status so far.
abbrev pub plan_left : PlanOptions → SessionState → ℕ → ℕ → Option Current → Status → Script (List ℕ) → Output
plan_left options session count number now status rest =
    with_status status (pairs_left options session number now (configuration_lines (numbered (count + 1) rest.items)) rest.fault)

-- `plan` has read this many lines, in which there are no more pairs
pub record HasPlanned (lines number : ℕ) (now : Option Current) (count : ℕ) : Type 0 where
  pub counted : lines ≡ count
  pub few : number ≤ count + 1
  pub valid : IfSome now (λ current. is_valid current.config ≡ true)
