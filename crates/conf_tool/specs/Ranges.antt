-- The range of the options.
use Rattle.std.specs.Prelude.{◌≤◌}
use Rattle.conf_tool.specs.declared.options.Options.{Options}

-- the options are in range: from 0 to 1000 earlier configurations are kept, and from 1 to 1000 changes are undone
pub record IsInRange (options : Options) : Type 0 where
  pub history : options.history ≤ 1000
  pub least : 1 ≤ options.steps
  pub most : options.steps ≤ 1000
