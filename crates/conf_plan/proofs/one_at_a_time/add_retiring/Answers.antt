use Rattle.std.proofs.Common.{rules, ℕ, Bool, cond, not, ◌&&◌, ◌++◌, ◌∙◌, sym, ap}
use Rattle.quorum_sets.specs.Ids.{has}
use Rattle.conf_plan.proofs.OnTheWay.OrderOfIds.{ascending-where}
use Rattle.conf_plan.proofs.PlannedSteps.Cases.{OnOk-weaker}
use Rattle.conf_plan.proofs.one_at_a_time.add_retiring.Goals as goal

pub returns : goal.returns
returns g c =
    let down = g.S.MemberSet.ids c.args.down.now in
    let retires : ℕ → Bool = λ id. not (has c.args.target.now.incoming id) && cond c.args.are_down (has down id) (not (has down id)) in
    rw (← c.start.view_is) (OnOk-weaker c.add_filtered.result
    (λ added. added ∙ ap (λ ids. c.args.list.now.items ++ ids) (sym (ascending-where retires (g.S.MemberSet.ids c.start.inside.incoming.now))))
    (c.add_filtered.ensures retires (λ id answer given. search rules)))
