-- The exit status of the program for each way in which a run ends.
use Rattle.std.specs.Prelude.{◌≡◌, ℕ, List, Option, Result, Ok, Err}
use Rattle.std.specs.Process.{exit_status}
use Rattle.std.specs.declared.process.ExitCode.{ExitCode}
use Rattle.conf_tool.specs.Outputs.{Output}
use Rattle.conf_tool.specs.Run.{Answers, Means}
use Rattle.conf_tool.specs.declared.status.Status.{Status}
use Rattle.conf_tool.specs.declared.status.Status.TheVariants.{Clean, Different}
use Rattle.conf_tool.specs.declared.tool_fault.ToolFault.{ToolFault}
use Rattle.conf_tool.specs.declared.tool_fault.ToolFault.TheVariants.{Script, Configurations, Read, Write, NoMemory}

-- the exit status of a result
abbrev pub exit_status_of : Result Status ToolFault → ℕ
exit_status_of (Ok Clean) = 0
exit_status_of (Ok Different) = 1
exit_status_of (Err (Script fault)) = 2
exit_status_of (Err (Configurations fault)) = 2
exit_status_of (Err Read) = 3
exit_status_of (Err Write) = 3
exit_status_of (Err NoMemory) = 3

-- a run that answers its input, of which only the exit status is known
abbrev pub ExitsWith : (List ℕ → Output) → Option (List ℕ) → Option (List ℕ) → Option (List ℕ) → Option (List ℕ) → ExitCode → Type 0
ExitsWith output left_before left_after before after code =
    (result : Result Status ToolFault) × Answers output left_before left_after before after result × (exit_status code ≡ exit_status_of result)

-- a run with this output, of which only the exit status is known
abbrev pub PlansWith : Output → Option (List ℕ) → Option (List ℕ) → ExitCode → Type 0
PlansWith output before after code = (result : Result Status ToolFault) × Means output result before after × (exit_status code ≡ exit_status_of result)
