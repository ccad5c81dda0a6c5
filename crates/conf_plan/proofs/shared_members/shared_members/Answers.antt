use Rattle.std.proofs.Common.{arith, rules, ◌≡◌, ap, ◌∙◌}
use Rattle.std.proofs.lemmas.Result.{IfOk-weaker}
use Rattle.quorum_sets.specs.Ids.{ascending, ids_where, union}
use Rattle.quorum_sets.proofs.Offered.{has-ascending, has-ids_where, has-same_ids, has-union}
use Rattle.conf_plan.specs.Planned.{is_shared, single_with}
use Rattle.conf_plan.proofs.FindingMoves.ResultingConfiguration.{is_member-single_with}
use Rattle.conf_plan.proofs.PlannedSteps.IntoJoint.{has-shared_members}
use Rattle.conf_plan.proofs.shared_members.shared_members.Goals as goal

pub returns : goal.returns
returns g c =
    let own = g.S.MemberSet.ids in
    let target = c.args.target.now in
    let voters = own c.start.inside.incoming.now in
    let learners = own c.start.inside.learners.now in
    let all = union voters learners in
    rw (← c.start.view_is) (IfOk-weaker c.filtered.result (λ shared. own shared ≡ ids_where (is_shared target) (ascending (own c.in_ok-members.members))) _
    (λ shared is.
    is ∙ ap (λ s. ids_where (is_shared target) (ascending s)) c.in_ok-members.ensures
    ∙ has-same_ids _ _ (λ q.
    grind (
      arith,
      has-ids_where (is_shared target) (ascending all) q,
      has-ascending all q,
      has-union voters learners q,
      is_member-single_with voters learners q,
      has-shared_members (single_with voters learners) target q,
    )))
    (c.filtered.ensures (is_shared target) (λ id answer given. search rules)))
