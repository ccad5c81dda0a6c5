use Rattle.std.proofs.Common.{rules, ℕ, Bool, cond, not, ◌&&◌, ◌++◌, ◌∙◌, sym, ap, append_assoc}
use Rattle.std.specs.Prelude.{filter}
use Rattle.quorum_sets.specs.Ids.{has, ascending}
use Rattle.conf_change.specs.Configuration.{Configuration}
use Rattle.conf_plan.specs.Planned.{single_with}
use Rattle.conf_plan.proofs.OnTheWay.OrderOfIds.{joining-filtered}
use Rattle.conf_plan.proofs.PlannedSteps.Cases.{OnOk-weaker}
use Rattle.conf_plan.proofs.one_at_a_time.add_joining.Goals as goal

pub returns : goal.returns
returns g c =
    let own = g.S.MemberSet.ids in
    let learners = own c.start.inside.learners.now in
    let incoming = own c.start.inside.incoming.now in
    let down = own c.args.down.now in
    let before = c.args.list.now.items in
    let to = ascending c.args.target.now.incoming in
    let to_is = ap (λ (d : Configuration). ascending d.incoming) c.target.view_is in
    let passes : ℕ → Bool = λ id. cond c.args.are_down (has down id) (not (has down id)) in
    let learns : ℕ → Bool = λ id. has learners id && (not (has incoming id) && passes id) in
    let joins : ℕ → Bool = λ id. not (has learners id) && (not (has incoming id) && passes id) in
    let learning = c.in_ok-add_filtered.ensures learns (λ id answer given. search rules) ∙ ap (λ ids. before ++ filter learns ids) to_is in
    rw (← c.start.view_is) (OnOk-weaker c.add_filtered-2.result
    (λ added. added ∙ (λ i. learning i ++ filter joins (to_is i)) ∙ append_assoc before (filter learns to) (filter joins to)
    ∙ ap (λ ids. before ++ ids) (sym (joining-filtered passes (single_with incoming learners) c.args.target.now)))
    (c.add_filtered-2.ensures joins (λ id answer given. search rules)))
