use Rattle.std.proofs.Common.{rules, ◌≡◌, ◌∙◌, not, ◌&&◌, ap, arith}
use Rattle.std.proofs.lemmas.Result.{IfOk-weaker}
use Rattle.quorum_sets.specs.Ids.{has, ascending, ids_where, union}
use Rattle.conf_change.specs.Configuration.{Configuration, is_member}
use Rattle.conf_plan.specs.Planned.{single_with}
use Rattle.conf_plan.proofs.FindingMoves.ResultingConfiguration.{is_member-single_with}
use Rattle.conf_plan.proofs.learners_first.newcomers.Goals as goal

pub returns : goal.returns
returns g c =
    let incoming = g.S.MemberSet.ids c.start.inside.incoming.now in
    let learners = g.S.MemberSet.ids c.start.inside.learners.now in
    let start = single_with incoming learners in
    let voters_are = c.in_ok-voters.ensures ∙ ap (λ (d : Configuration). union d.incoming d.outgoing) c.target.view_is in
    rw (← c.start.view_is) (IfOk-weaker c.filtered.result (λ ids. g.S.MemberSet.ids ids ≡ ids_where (λ id. not (is_member start id)) (ascending (g.S.MemberSet.ids c.in_ok-voters.voters))) _
    (λ ids is. is ∙ ap (λ s. ids_where (λ id. not (is_member start id)) (ascending s)) voters_are)
    (c.filtered.ensures (λ id. not (is_member start id)) (λ id answer given.
    let plain : answer ≡ (not (has incoming id) && not (has learners id)) = search rules in
    grind (arith, plain, is_member-single_with incoming learners id))))
