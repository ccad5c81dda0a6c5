-- What the arguments ask for, where the bytes of files and of standard input are known.
use Rattle.std.specs.Prelude.{ℕ, List, Option, Some, None, option_map, bytes_eq, codes, if◌then◌else◌}
use Rattle.conf_tool.specs.Outputs.{Output, output_of, planned_texts}
use Rattle.conf_tool.specs.declared.invocation.Invocation.{Invocation}
use Rattle.conf_tool.specs.declared.pair_arguments.PairArguments.{PairArguments}

-- the bytes of FILE, or those of standard input if FILE is left out or `-`, if they are known
abbrev pub bytes_named : (List ℕ → Option (List ℕ)) → Option (List ℕ) → Option (List ℕ) → Option (List ℕ)
bytes_named files standard None = standard
bytes_named files standard (Some name) = if bytes_eq name (codes "-") then standard else files name

-- the output of the mode over FILE or standard input, if its bytes are known
abbrev pub output_over : (List ℕ → Option (List ℕ)) → Option (List ℕ) → Invocation → Option Output
output_over files standard invocation =
    option_map (output_of invocation.mode invocation.options) (bytes_named files standard (option_map (λ name. name.now) invocation.file))

-- the output that the arguments ask for: the plan for their pair, if they have one, or else that of the mode
abbrev pub output_with : (List ℕ → Option (List ℕ)) → Option (List ℕ) → Invocation → Option PairArguments → Option Output
output_with files standard invocation (Some pair) = Some (planned_texts invocation.options.plan pair.from.now pair.to.now)
output_with files standard invocation None = output_over files standard invocation

-- the output that the arguments ask for, if the bytes of the input are known
abbrev pub output_asked : (List ℕ → Option (List ℕ)) → Option (List ℕ) → Invocation → Option Output
output_asked files standard invocation = output_with files standard invocation invocation.pair
