use Rattle.std.proofs.Common.{refl, ap, ◌∙◌}
use Rattle.std.specs.Prelude.{codes}
use Rattle.serde_json.specs.Data.{no_members}
use Rattle.serde_json.specs.View.{view, members_view}
use Rattle.serde_json.specs.Written.{has_float, members_have_float}
use Rattle.driver_json.proofs.NoFloats.{has_float-Object, members_have_float-ids_members, members_have_float-put}
use Rattle.driver_json.proofs.answer.reason_value.Goals as goal

pub returns-clause-no_float : goal.returns-clause-no_float
returns-clause-no_float c =
    has_float-Object _
    (ap members_have_float c.in_ok-put.ensures.ok
    ∙ members_have_float-put (codes "why") (view c.in_ok-try_from_str.field-0) (members_view c.in_ok-members.members.entries) (ap has_float c.in_ok-try_from_str.ensures) (ap members_have_float c.in_ok-members.ensures ∙ members_have_float-ids_members c.args.name.now c.as_slice.result.now no_members refl))
