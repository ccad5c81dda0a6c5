use Rattle.std.proofs.Common.{◌≡◌, map, take}
use Rattle.std.specs.Prelude.{◌==◌}
use Rattle.clap.specs.Words.{app_of}
use Rattle.conf_tool.specs.Program.{mode_command, modes, program}
use Rattle.conf_tool.proofs.program.program.Given as goal

-- the program has the modes so far
abbrev pub invariant-loop-mode : goal.invariant-loop-mode
invariant-loop-mode l = app_of l.program ≡ record { top = record ((program l.fn.names).top) { is_leaf = l.mode-index == 0 }; subs = map (mode_command l.fn.names) (take l.mode-index modes) }
