use Rattle.std.proofs.Common.{refl, ap, ◌∙◌}
use Rattle.serde_json.specs.Data.{no_members}
use Rattle.serde_json.specs.Written.{members_have_float}
use Rattle.driver_json.proofs.NoFloats.{has_float-Object, members_have_float-ids_members}
use Rattle.driver_json.proofs.answer.named_value.Goals as goal

pub returns-clause-no_float : goal.returns-clause-no_float
returns-clause-no_float c = has_float-Object _ (ap members_have_float c.in_ok-ids_members.ensures ∙ members_have_float-ids_members c.args.name.now c.args.ids.now no_members refl)
