-- How an error names where a configuration of `plan` is written.
use Rattle.std.specs.Prelude.{ℕ, List, ◌++◌, codes, decimal}
use Rattle.conf_tool.specs.declared.origin.Origin.{Origin}
use Rattle.conf_tool.specs.declared.origin.Origin.TheVariants.{Line, From, To}

-- the line with its number, or the option
abbrev pub origin_text : Origin → List ℕ
origin_text (Line number) = codes "line " ++ decimal number
origin_text From = codes "--from"
origin_text To = codes "--to"
