use Rattle.std.proofs.Common.{◌≡◌, [], map, take}
use Rattle.clap.specs.Words.{app_of}
use Rattle.conf_tool.specs.Program.{command_with, option_of}
use Rattle.conf_tool.proofs.program.command_with.Given as goal

-- the mode has the options so far
abbrev pub invariant-loop-option : goal.invariant-loop-option
invariant-loop-option l = app_of l.command ≡ record { top = command_with l.fn.mode.name.now (map option_of (take l.option-index l.options)); subs = [] }
