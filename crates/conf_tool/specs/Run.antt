-- What the result of a run means for its input and for what was written. A status, and an error in the input, mean that
-- the whole output was written; any other error, that a prefix of it was.
use Rattle.std.specs.Prelude.{◌≡◌, ℕ, Bool, true, false, List, Option, Result, Ok, Err, ⊤}
use Rattle.std.specs.Io.KnownBytes.{Appends}
use Rattle.dd_file.specs.Device.{AppendsPart}
use Rattle.dd_file.specs.ReaderState.{fresh}
use Rattle.dd_file.specs.Answer.{Agrees}
use Rattle.dd_file.specs.declared.fault.FileFault.{FileFault}
use Rattle.dd_file.specs.declared.fault.FileFault.TheVariants.{InputTooLong, Syntax, Read as ReadOfScript, NoMemory as NoMemoryForScript}
use Rattle.conf_tool.specs.Outputs.{Output}
use Rattle.conf_tool.specs.declared.mode.Mode.{Mode}
use Rattle.conf_tool.specs.declared.mode.Mode.TheVariants.{Lines, Check, Rewrite, Undo, Plan, Next}
use Rattle.conf_tool.specs.declared.status.Status.{Status}
use Rattle.conf_tool.specs.declared.status.Status.TheVariants.{Clean, Different}
use Rattle.conf_tool.specs.declared.tool_fault.ToolFault.{ToolFault}
use Rattle.conf_tool.specs.declared.tool_fault.ToolFault.TheVariants.{Script, Configurations, Read, Write, NoMemory}

-- the whole output was written, and it ends with this status or error
abbrev pub Wrote : Output → Result Status ToolFault → Option (List ℕ) → Option (List ℕ) → Type 0
Wrote output outcome before after = (output.outcome ≡ outcome) × Appends before after output.text

-- what a result means for an output and for the bytes of the writer before and after
abbrev pub Means : Output → Result Status ToolFault → Option (List ℕ) → Option (List ℕ) → Type 0
Means output (Ok status) before after = Wrote output (Ok status) before after
Means output (Err (Script fault)) before after = Wrote output (Err (Script fault)) before after
Means output (Err (Configurations fault)) before after = Wrote output (Err (Configurations fault)) before after
Means output (Err Read) before after = AppendsPart before after output.text
Means output (Err Write) before after = AppendsPart before after output.text
Means output (Err NoMemory) before after = AppendsPart before after output.text

-- A run answers its input: what its result means holds for each input that agrees with what the reader gave. Nothing is
-- claimed of a reader or writer whose bytes are not known.
abbrev pub Answers : (List ℕ → Output) → Option (List ℕ) → Option (List ℕ) → Option (List ℕ) → Option (List ℕ) → Result Status ToolFault → Type 0
Answers output left_before left_after before after result =
    (input more : List ℕ) → Agrees fresh left_before left_after input more → Means (output input) result before after

-- an error of the reader as an error of the run: a failed read and `NoMemory` are not errors in the input
abbrev pub as_tool_fault : FileFault → ToolFault
as_tool_fault (Syntax line fault) = Script (Syntax line fault)
as_tool_fault (InputTooLong line) = Script (InputTooLong line)
as_tool_fault ReadOfScript = Read
as_tool_fault NoMemoryForScript = NoMemory

-- an error in the input of a mode that reads a script
abbrev pub IsScriptFault : FileFault → Type 0
IsScriptFault (Syntax line fault) = ⊤
IsScriptFault (InputTooLong line) = ⊤
IsScriptFault ReadOfScript = ⊥
IsScriptFault NoMemoryForScript = ⊥

-- the error of an input beyond the limit
abbrev pub IsInputTooLong : FileFault → Type 0
IsInputTooLong (Syntax line fault) = ⊥
IsInputTooLong (InputTooLong line) = ⊤
IsInputTooLong ReadOfScript = ⊥
IsInputTooLong NoMemoryForScript = ⊥

-- the errors in an input that a mode reports: `lines`, `plan` and `next` read lines, which have no syntax error
abbrev pub CanBeFaulty : Mode → FileFault → Type 0
CanBeFaulty Lines fault = IsInputTooLong fault
CanBeFaulty Check fault = IsScriptFault fault
CanBeFaulty Rewrite fault = IsScriptFault fault
CanBeFaulty Undo fault = IsScriptFault fault
CanBeFaulty Plan fault = IsInputTooLong fault
CanBeFaulty Next fault = IsInputTooLong fault

-- whether an error in a configuration ends a mode: only `plan`; `next` answers it
abbrev pub ReadsConfigurations : Mode → Type 0
ReadsConfigurations Lines = ⊥
ReadsConfigurations Check = ⊥
ReadsConfigurations Rewrite = ⊥
ReadsConfigurations Undo = ⊥
ReadsConfigurations Plan = ⊤
ReadsConfigurations Next = ⊥

-- the statuses that a mode has: `lines` and `rewrite` have nothing to compare, and end clean
abbrev pub CanBe : Mode → Status → Type 0
CanBe mode Clean = ⊤
CanBe Lines Different = ⊥
CanBe Check Different = ⊤
CanBe Rewrite Different = ⊥
CanBe Undo Different = ⊤
CanBe Plan Different = ⊤
CanBe Next Different = ⊤

-- the results that a mode has, whatever its reader and writer are
abbrev pub CanAnswer : Mode → Result Status ToolFault → Type 0
CanAnswer mode (Ok status) = CanBe mode status
CanAnswer mode (Err (Script fault)) = CanBeFaulty mode fault
CanAnswer mode (Err (Configurations fault)) = ReadsConfigurations mode
CanAnswer mode (Err Read) = ⊤
CanAnswer mode (Err Write) = ⊤
CanAnswer mode (Err NoMemory) = ⊤

-- What stops a mode at a part of its input: no memory, or an error in the input, with which the output ends whatever
-- input follows.
abbrev pub IsStop : Mode → ToolFault → Type 0 → Type 0
IsStop mode (Script fault) Ends = ⊥
IsStop mode (Configurations fault) Ends = ReadsConfigurations mode × Ends
IsStop mode Read Ends = ⊥
IsStop mode Write Ends = ⊥
IsStop mode NoMemory Ends = ⊤

-- whether the result is that a read failed
abbrev pub is_read_failure : {X : Type 0} → Result X ToolFault → Bool
is_read_failure (Ok x) = false
is_read_failure (Err (Script fault)) = false
is_read_failure (Err (Configurations fault)) = false
is_read_failure (Err Read) = true
is_read_failure (Err Write) = false
is_read_failure (Err NoMemory) = false

-- whether the result is that a write failed
abbrev pub is_write_failure : {X : Type 0} → Result X ToolFault → Bool
is_write_failure (Ok x) = false
is_write_failure (Err (Script fault)) = false
is_write_failure (Err (Configurations fault)) = false
is_write_failure (Err Read) = false
is_write_failure (Err Write) = true
is_write_failure (Err NoMemory) = false

-- whether a result means that the whole output was written: a status, or an error in the input
abbrev pub is_whole_output : Result Status ToolFault → Bool
is_whole_output (Ok status) = true
is_whole_output (Err (Script fault)) = true
is_whole_output (Err (Configurations fault)) = true
is_whole_output (Err Read) = false
is_whole_output (Err Write) = false
is_whole_output (Err NoMemory) = false

-- What a result means for whether the writer had failed before the run and has failed after it. After a failed read or
-- `NoMemory`, the flush at the end may have failed too.
abbrev pub ReportsWrite : Bool → Bool → Result Status ToolFault → Type 0
ReportsWrite before after (Ok status) = after ≡ before
ReportsWrite before after (Err (Script fault)) = after ≡ before
ReportsWrite before after (Err (Configurations fault)) = after ≡ before
ReportsWrite before after (Err Read) = ⊤
ReportsWrite before after (Err Write) = after ≡ true
ReportsWrite before after (Err NoMemory) = ⊤
