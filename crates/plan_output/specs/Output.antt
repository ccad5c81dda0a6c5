-- The text of a path in each output.
use Rattle.std.specs.Prelude.{ℕ, List, Option}
use Rattle.quorum_sets.specs.Ids.{Ids}
use Rattle.conf_change.specs.Configuration.{Configuration}
use Rattle.conf_change.specs.declared.step.Step.{Step}
use Rattle.plan_output.specs.Json.{json_text}
use Rattle.plan_output.specs.Steps.{steps_text}
use Rattle.plan_output.specs.Table.{table_text}
use Rattle.plan_output.specs.declared.output.Output.{Output}
use Rattle.plan_output.specs.declared.output.Output.TheVariants.{Steps, Table, Json}

-- the text of a path with this number, with the ids that are down, if any are given
abbrev pub text_as : Output → ℕ → Option Ids → Configuration → List Step → List ℕ
text_as Steps number down now steps = steps_text down now steps
text_as Table number down now steps = table_text now steps down
text_as Json number down now steps = json_text number now steps down
