use Rattle.std.proofs.Common.{ℕ, Bool, not, ◌++◌, ap, ◌∙◌}
use Rattle.quorum_sets.specs.Ids.{has}
use Rattle.conf_plan.specs.OneAtATime.{joining, retiring}
use Rattle.conf_plan.proofs.one_at_a_time.add_moves_of_up.Goals as goal

pub returns : goal.returns
returns g c =
    let start = c.args.start.now in
    let target = c.args.target.now in
    let is_up : ℕ → Bool = λ id. not (has (g.S.MemberSet.ids c.args.down.now) id) in
    let joins = c.as_slice.ensures ∙ c.in_ok-add_joining.ensures ∙ ap (λ ids. ids ++ joining is_up start target) c.new-joins.ensures.items in
    let retires = c.as_slice-2.ensures ∙ c.in_ok-add_retiring.ensures ∙ ap (λ ids. ids ++ retiring is_up start target) c.new-retires.ensures.items in
    rw (joins, retires) at c.add_in_turn.ensures
