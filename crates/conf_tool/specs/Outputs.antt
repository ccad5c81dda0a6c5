-- The output of each mode, as a function of its whole input and its options.
use Rattle.std.specs.Prelude.{ℕ, ◌+◌, Bool, true, false, ◌||◌, List, [], ◌∷◌, ◌++◌, flat_map, nat_lt, Option, Some, None, Result, Ok, Err, if◌then◌else◌}
use Rattle.ascii_text.specs.Lines.{newline}
use Rattle.std.specs.List.{list_any}
use Rattle.dd_file.specs.Grammar.{Script, script_of, listing_of}
use Rattle.dd_file.specs.Rewritten.{Entry, rewritten_text}
use Rattle.dd_file.specs.Items.{Item}
use Rattle.dd_file.specs.declared.fault.FileFault.{FileFault}
use Rattle.conf_change.specs.Configuration.{Configuration, empty_configuration}
use Rattle.conf_tool.specs.LineReply.{line_replies}
use Rattle.conf_tool.specs.NextReply.{is_refused, next_reply}
use Rattle.conf_change.specs.declared.floor.Floor.{Floor}
use Rattle.conf_change.specs.declared.step.Step.{Step}
use Rattle.conf_session.specs.SessionState.{SessionState, new_session}
use Rattle.conf_tool.specs.Reports.{session_after_all, answered_entries, differs, report, counts_text}
use Rattle.conf_session.specs.Undo.{undo_plan_of}
use Rattle.plan_output.specs.declared.output.Output.TheVariants.{Steps, Table, Json}
use Rattle.conf_tool.specs.UndoScript.{undo_items}
use Rattle.conf_tool.specs.declared.mode.Mode.{Mode}
use Rattle.conf_tool.specs.declared.mode.Mode.TheVariants.{Lines, Check, Rewrite, Undo, Plan, Next}
use Rattle.conf_tool.specs.declared.options.Options.{Options}
use Rattle.conf_tool.specs.declared.plan_options.PlanOptions.{PlanOptions}
use Rattle.conf_tool.specs.declared.plan_options.PlanOutput.{PlanOutput}
use Rattle.conf_tool.specs.declared.plan_options.PlanOutput.TheVariants.{Script as ScriptOutput, Text as TextOutput}
use Rattle.conf_tool.specs.declared.status.Status.{Status}
use Rattle.conf_tool.specs.declared.status.Status.TheVariants.{Clean, Different}
use Rattle.conf_session.specs.declared.undo_fault.UndoFault.{UndoFault}
use Rattle.conf_tool.specs.Pairs.{Pair, NumberedLine, numbered, configuration_lines, current_at, pair_at, pair_of_texts}
use Rattle.conf_tool.specs.PlanAnswer.{plan_text_between, plan_status, session_between}
use Rattle.conf_tool.specs.PlanScript.{default_session}
use Rattle.conf_tool.specs.declared.pair.Current.{Current}
use Rattle.conf_tool.specs.declared.plan_input_fault.PlanInputFault.{PlanInputFault}
use Rattle.conf_tool.specs.declared.plan_input_fault.PlanInputFault.TheVariants.{NotTwoLines, NoTarget}
use Rattle.conf_tool.specs.declared.tool_fault.ToolFault.{ToolFault}
use Rattle.conf_tool.specs.declared.tool_fault.ToolFault.TheVariants.{Script as ScriptFault, Configurations}

-- an output: what is written, and how the run ends, with a status or with an error in the input
pub record Output : Type 0 where
  pub text : List ℕ
  pub outcome : Result Status ToolFault

-- an output by its parts
abbrev pub output : List ℕ → Result Status ToolFault → Output
output text outcome = record { text = text; outcome = outcome }

-- a run ends clean unless its input has an error
abbrev pub clean_unless : Option FileFault → Result Status ToolFault
clean_unless None = Ok Clean
clean_unless (Some fault) = Err (ScriptFault fault)

-- the outcome of `next`: different if a line was refused, unless its input has an error
abbrev pub next_outcome : Bool → Option FileFault → Result Status ToolFault
next_outcome refused None = Ok (if refused then Different else Clean)
next_outcome refused (Some fault) = Err (ScriptFault fault)

-- the output of `lines` from a configuration on: the replies to the lines, up to an error
abbrev pub lines_output_from : Configuration → Script (List ℕ) → Output
lines_output_from c listing = record { text = line_replies c listing.items; outcome = clean_unless listing.fault }

-- the output of `lines`, which begins with the empty configuration
abbrev pub lines_output : List ℕ → Output
lines_output input = lines_output_from empty_configuration (listing_of input)

-- the status of `check`: different if a directive differs
abbrev pub check_status : Bool → Status
check_status false = Clean
check_status true = Different

-- the output of `check` for some entries: the reports on them, and the counts unless there is an error
abbrev pub checked_entries : List Entry → Option FileFault → Output
checked_entries entries None = record { text = flat_map report entries ++ counts_text entries; outcome = Ok (check_status (list_any differs entries)) }
checked_entries entries (Some fault) = record { text = flat_map report entries; outcome = Err (ScriptFault fault) }

-- the output of `check` for the items of a script
abbrev pub checked_script : ℕ → Floor → Script Item → Output
checked_script history floor script = checked_entries (answered_entries (new_session history floor) script.items) script.fault

-- the output of `check`, in a session that keeps this many earlier configurations and has this initial next index
abbrev pub checked : List ℕ → ℕ → Floor → Output
checked input history floor = checked_script history floor (script_of input)

-- the output of `rewrite` for the items of a script
abbrev pub rewritten_script : ℕ → Floor → Script Item → Output
rewritten_script history floor script = record {
  text = rewritten_text (answered_entries (new_session history floor) script.items);
  outcome = clean_unless script.fault;
}

-- the output of `rewrite`: the script up to an error, with its actual outputs
abbrev pub rewritten : List ℕ → ℕ → Floor → Output
rewritten input history floor = rewritten_script history floor (script_of input)

-- the status of `undo`: different if there is no plan
abbrev pub undo_status : Result (List Step) UndoFault → Status
undo_status (Ok steps) = Clean
undo_status (Err fault) = Different

-- the output of `undo` for a plan: its steps, or why there is none, with what the session prints for them
abbrev pub undone_with : SessionState → Result (List Step) UndoFault → Output
undone_with session plan = record { text = rewritten_text (answered_entries session (undo_items plan)); outcome = Ok (undo_status plan) }

-- the output of `undo` after it has run a script; empty if the script has an error
abbrev pub undone_unless : SessionState → ℕ → Option FileFault → Output
undone_unless session count None = undone_with session (undo_plan_of session count)
undone_unless session count (Some fault) = record { text = []; outcome = Err (ScriptFault fault) }

-- the output of `undo` for the items of a script
abbrev pub undone_script : ℕ → Floor → ℕ → Script Item → Output
undone_script history floor count script = undone_unless (session_after_all (new_session history floor) script.items) count script.fault

-- the output of `undo`: a script that undoes the last `count` changes of a script, at least one
abbrev pub undone_output : List ℕ → ℕ → Floor → ℕ → Output
undone_output input history floor count = undone_script history floor count (script_of input)

-- the output of a run that ends with this outcome and writes nothing more
abbrev pub ends : Result Status ToolFault → Output
ends outcome = output [] outcome

-- the text between the replies to two pairs, by the form of the output
abbrev pub separator : PlanOutput → List ℕ
separator ScriptOutput = newline
separator (TextOutput Steps) = newline
separator (TextOutput Table) = newline
separator (TextOutput Json) = []

-- the reply to the pair with this number, counted from 1, in this session, with the separator before it
abbrev pub pair_text : PlanOptions → SessionState → ℕ → Pair → List ℕ
pair_text options session number pair =
    (if nat_lt 1 number then separator options.output else []) ++ plan_text_between options session number pair

-- the outcome of a run that has this status so far: an error decides, otherwise the worse status
abbrev pub worse_of : Status → Result Status ToolFault → Result Status ToolFault
worse_of status (Err fault) = Err fault
worse_of Clean (Ok later) = Ok later
worse_of Different (Ok later) = Ok Different

-- the output of `plan` for a pair and the pairs after it; a line with an error ends it
abbrev pub pair_then : PlanOptions → SessionState → ℕ → Result Pair PlanInputFault → Output → Output
pair_then options session number (Err bad) rest = ends (Err (Configurations bad))
pair_then options session number (Ok pair) rest = record {
  text = pair_text options session number pair ++ rest.text;
  outcome = worse_of (plan_status options pair) rest.outcome;
}

-- the session after a pair
abbrev pub session_after_pair : PlanOptions → SessionState → Result Pair PlanInputFault → SessionState
session_after_pair options session (Err bad) = session
session_after_pair options session (Ok pair) = session_between options session pair

-- the output of `plan` at the end of its input, where the pair with this number would begin; no pair at all is an error
abbrev pub ends_before : ℕ → Option FileFault → Output
ends_before number (Some fault) = ends (Err (ScriptFault fault))
ends_before number None = ends (if nat_lt 1 number then Ok Clean else Err (Configurations NotTwoLines))

-- the output of `plan` at the end of its input, after the first line of a pair: an error
abbrev pub ends_within : Result Current PlanInputFault → Option FileFault → Output
ends_within (Err bad) fault = ends (Err (Configurations bad))
ends_within (Ok current) (Some fault) = ends (Err (ScriptFault fault))
ends_within (Ok current) None = ends (Err (Configurations (NoTarget current.origin)))

-- the output of `plan` for these lines, the first pair of which has this number and is answered in this session
abbrev pub planned_pairs : PlanOptions → SessionState → ℕ → List NumberedLine → Option FileFault → Output
planned_pairs options session number [] fault = ends_before number fault
planned_pairs options session number (line ∷ []) fault = ends_within (current_at options line) fault
planned_pairs options session number (first ∷ second ∷ lines) fault =
    let pair = pair_at options first second in
    pair_then options session number pair (planned_pairs options (session_after_pair options session pair) (number + 1) lines fault)

-- the output of `plan` for the lines of an input: one session answers all pairs
abbrev pub planned_script : PlanOptions → Script (List ℕ) → Output
planned_script options listing = planned_pairs options default_session 1 (configuration_lines (numbered 1 listing.items)) listing.fault

-- the output of `plan`: for each pair of lines the path from the configuration of the first to that of the second
abbrev pub planned_output : PlanOptions → List ℕ → Output
planned_output options input = planned_script options (listing_of input)

-- the output of `plan` for the values of --from and --to, which are one pair
unfoldable pub planned_texts : PlanOptions → List ℕ → List ℕ → Output
planned_texts options from to = pair_then options default_session 1 (pair_of_texts options from to) (ends (Ok Clean))

-- the output of `next` for lines, by whether a line before them was refused
abbrev pub next_output_from : Bool → Script (List ℕ) → Output
next_output_from refused listing = record {
  text = flat_map next_reply listing.items;
  outcome = next_outcome (refused || list_any is_refused listing.items) listing.fault;
}

-- the output of `next`: an answer to each line
abbrev pub next_output : List ℕ → Output
next_output input = next_output_from false (listing_of input)

-- the output of a mode, by its options
abbrev pub output_of : Mode → Options → List ℕ → Output
output_of Lines options input = lines_output input
output_of Check options input = checked input options.history options.floor
output_of Rewrite options input = rewritten input options.history options.floor
output_of Undo options input = undone_output input options.history options.floor options.steps
output_of Plan options input = planned_output options.plan input
output_of Next options input = next_output input
