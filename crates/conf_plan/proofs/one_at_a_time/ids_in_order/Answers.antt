use Rattle.std.proofs.Common.{rules, ℕ, Bool, not, ◌||◌, ◌++◌, sym, ap, ◌∙◌, append_assoc}
use Rattle.quorum_sets.specs.Ids.{has}
use Rattle.conf_plan.specs.OneAtATime.{joining, retiring, leaving_learners, new_learners, in_turn}
use Rattle.conf_plan.proofs.OnTheWay.OrderOfIds.{ascending-where}
use Rattle.conf_plan.proofs.one_at_a_time.ids_in_order.Goals as goal

pub returns : goal.returns
returns g c =
    let own = g.S.MemberSet.ids in
    let start = c.args.start.now in
    let target = c.args.target.now in
    let votes = has (own c.start.inside.incoming.now) in
    let learns = has (own c.start.inside.learners.now) in
    let will_vote = has (own c.target.inside.incoming) in
    let will_learn = has (own c.target.inside.learners) in
    let is_down = has (own c.args.down.now) in
    let is_up : ℕ → Bool = λ id. not (is_down id) in
    let leaves : ℕ → Bool = λ id. not (votes id || will_vote id || will_learn id) in
    let comes : ℕ → Bool = λ id. not (votes id || will_vote id || learns id) in
    let first = retiring is_down start target in
    let leaving = leaving_learners start target in
    let turns = in_turn (joining is_up start target) (retiring is_up start target) in
    let last = joining is_down start target in
    let new = new_learners start target in
    let leaves_is = sym (ascending-where leaves (own c.start.inside.learners.now)) ∙ (λ i. leaving_learners (c.start.view_is i) (c.target.view_is i)) in
    let comes_is = sym (ascending-where comes (own c.target.inside.learners)) ∙ (λ i. new_learners (c.start.view_is i) (c.target.view_is i)) in
    let with_first = c.in_ok-add_retiring.ensures ∙ ap (λ ids. ids ++ first) c.new-ids.ensures.items in
    let with_leaving = c.in_ok-add_filtered.ensures leaves (λ id answer given. search rules) ∙ (λ i. with_first i ++ leaves_is i) in
    let with_turns = c.in_ok-add_moves_of_up.ensures ∙ ap (λ ids. ids ++ turns) with_leaving in
    let with_last = c.in_ok-add_joining.ensures ∙ ap (λ ids. ids ++ last) with_turns in
    c.in_ok-add_filtered-2.ensures comes (λ id answer given. search rules)
    ∙ (λ i. with_last i ++ comes_is i)
    ∙ append_assoc ((first ++ leaving) ++ turns) last new ∙ append_assoc (first ++ leaving) turns (last ++ new) ∙ append_assoc first leaving (turns ++ (last ++ new))
