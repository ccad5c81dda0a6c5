use Rattle.std.proofs.Common.{Ok, Err, sym, ap, subst, ◌∙◌}
use Rattle.quorum_sets.specs.AscendingLists.{IsAscending}
use Rattle.plan_output.specs.Names.{number_in}
use Rattle.plan_output.proofs.NumberedIds.{number_in-searched}
use Rattle.plan_output.proofs.names.Names.number.Goals as goal

pub returns-in-Ok : goal.returns-in-Ok
returns-in-Ok c =
    number_in-searched c.as_slice.result.now c.args.id (Ok c.in-Ok.index) c.in-Ok.ensures.position
    (subst IsAscending (sym c.as_slice.ensures.value) c.self.invariant)
    ∙ ap (λ numbered. number_in numbered c.args.id) (c.as_slice.ensures.value ∙ c.self.view_is)

pub returns-in-Err : goal.returns-in-Err
returns-in-Err c =
    number_in-searched c.as_slice.result.now c.args.id (Err c.in-Err.field-0) c.in-Err.ensures.position
    (subst IsAscending (sym c.as_slice.ensures.value) c.self.invariant)
    ∙ ap (λ numbered. number_in numbered c.args.id) (c.as_slice.ensures.value ∙ c.self.view_is)
