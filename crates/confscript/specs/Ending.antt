-- How the program ends: its exit status, and what was written to standard output. Bytes are an option, since those of
-- some readers and writers are not known; then nothing is claimed of them.
use Rattle.std.specs.Prelude.{◌≡◌, ◌≢◌, ◌⊎◌, ℕ, Bool, List, [], ◌++◌, Option, Some, None, IfSome, Result, ⊤}
use Rattle.std.specs.Process.{exit_status}
use Rattle.std.specs.Io.KnownBytes.{Appends, Keeps}
use Rattle.std.specs.declared.process.ExitCode.{ExitCode}
use Rattle.clap.specs.Words.{Text, fault_of, kind_of, subcommand_of}
use Rattle.clap.specs.declared.error.kind.ErrorKind.{ErrorKind}
use Rattle.clap.specs.declared.error.kind.ErrorKind.TheVariants.{DisplayHelp, DisplayVersion, OutOfMemory}
use Rattle.dd_file.specs.Gathered.{buffered_writer, NothingBuffered}
use Rattle.dd_file.specs.declared.blocks.Blocks.{Blocks}
use Rattle.conf_tool.specs.CommandLine.{IsInvocation, IsRefusal}
use Rattle.conf_tool.specs.ExitStatus.{exit_status_of}
use Rattle.conf_tool.specs.Outputs.{Output}
use Rattle.conf_tool.specs.Program.{OfProgram}
use Rattle.conf_tool.specs.Run.{CanAnswer}
use Rattle.conf_tool.specs.declared.argument_fault.ArgumentFault.{ArgumentFault}
use Rattle.conf_tool.specs.declared.argument_fault.ArgumentFault.TheVariants.{Clap, NoMemory}
use Rattle.conf_tool.specs.declared.invocation.Invocation.{Invocation}
use Rattle.conf_tool.specs.declared.mode.Mode.{Mode}
use Rattle.conf_tool.specs.declared.status.Status.{Status}
use Rattle.conf_tool.specs.declared.tool_fault.ToolFault.{ToolFault}
use Rattle.confscript.specs.Asked.{output_asked}

-- the known bytes of a writer are a prefix of those that it had before and then this text
abbrev pub AppendsAtMost : Option (List ℕ) → Option (List ℕ) → List ℕ → Type 0
AppendsAtMost None after text = ⊤
AppendsAtMost (Some xs) None text = ⊥
AppendsAtMost (Some xs) (Some ys) text = (rest : List ℕ) × (xs ++ text ≡ ys ++ rest)

-- A run that is to have this output ends with this exit status, with these bytes of standard output before and after.
-- Unless the status is 3, it is that of the outcome, and the whole output was written. What was written is a prefix of
-- the output.
pub record EndsAs (output : Output) (before after : Option (List ℕ)) (code : ExitCode) : Type 0 where
  pub status : exit_status code ≢ 3 → exit_status code ≡ exit_status_of output.outcome
  pub whole : exit_status code ≢ 3 → Appends before after output.text
  pub part : AppendsAtMost before after output.text

-- the exit status is one that the mode has, whatever its input is
abbrev pub CanEnd : Mode → ExitCode → Type 0
CanEnd mode code = (result : Result Status ToolFault) × CanAnswer mode result × (exit_status code ≡ exit_status_of result)

-- What is asked for ends with this exit status, with these bytes of files and of standard input. If those of the input
-- are not known, the status is one that the mode has.
pub record EndsFor (files : List ℕ → Option (List ℕ)) (standard before after : Option (List ℕ)) (invocation : Invocation) (code : ExitCode) : Type 0 where
  pub output : IfSome (output_asked files standard invocation) (λ output. EndsAs output before after code)
  pub kinds : invocation.pair ≡ None → CanEnd invocation.mode code

-- A run that writes to blocks ends with this exit status. Unless it is 3, no write has failed during the run, and
-- nothing is left in the blocks.
pub record WritesOut {W : Type 0} (has_failed : W → Bool) (before after : Blocks W) (code : ExitCode) : Type 0 where
  pub unfailed : exit_status code ≢ 3 → has_failed (buffered_writer after) ≡ has_failed (buffered_writer before)
  pub flushed : exit_status code ≢ 3 → NothingBuffered after

-- the exit status after an error of `clap`: help and the version are shown, or that fails; others are in the arguments
pub record EndsWithError (kind : ErrorKind) (code : ExitCode) : Type 0 where
  pub memory : kind ≡ OutOfMemory → exit_status code ≡ 3
  pub shown : (kind ≡ DisplayHelp) ⊎ (kind ≡ DisplayVersion) → (exit_status code ≡ 0) ⊎ (exit_status code ≡ 3)
  pub refused : kind ≢ OutOfMemory → kind ≢ DisplayHelp → kind ≢ DisplayVersion → exit_status code ≡ 2

-- the exit status after arguments are refused for this reason
abbrev pub EndsForFault : ArgumentFault → ExitCode → Type 0
EndsForFault (Clap error) code = EndsWithError (kind_of error) code
EndsForFault NoMemory code = exit_status code ≡ 3
EndsForFault fault code = exit_status code ≡ 2

-- The arguments are in order, and what they ask for is done.
pub record EndsAsAsked (arguments : List Text) (files : List ℕ → Option (List ℕ)) (standard before after : Option (List ℕ)) (code : ExitCode) : Type 0 where
  pub invocation : Invocation
  pub taken : OfProgram (λ program. fault_of program arguments ≡ [])
  pub asked : OfProgram (λ program. IsInvocation (subcommand_of program arguments) invocation)
  pub ends : EndsFor files standard before after invocation code

-- The arguments are refused, and no output is written. (Help and the version are printed by `clap`.)
pub record EndsRefused (arguments : List Text) (before after : Option (List ℕ)) (code : ExitCode) : Type 0 where
  pub fault : ArgumentFault
  pub reason : OfProgram (λ program. IsRefusal program arguments fault)
  pub ends : EndsForFault fault code
  pub unwritten : Keeps before after

-- How the program ends with these arguments, with these bytes of files and of standard input, and of standard output
-- before and after.
abbrev pub EndsForArguments : List Text → (List ℕ → Option (List ℕ)) → Option (List ℕ) → Option (List ℕ) → Option (List ℕ) → ExitCode → Type 0
EndsForArguments arguments files standard before after code =
    EndsAsAsked arguments files standard before after code ⊎ EndsRefused arguments before after code
