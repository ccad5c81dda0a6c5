use Rattle.std.proofs.Common.{◌++◌, filter, ap, ◌∙◌}
use Rattle.std.proofs.lemmas.Result.{IfOk-weaker}
use Rattle.quorum_sets.specs.Ids.{ascending, ids_of}
use Rattle.conf_plan.proofs.filtered.filtered.Goals as goal

pub returns : goal.returns
returns g c = λ passes answers.
    let passing = filter passes (ascending (g.S.MemberSet.ids c.args.ids.now)) in
    IfOk-weaker c.of_list.result _ _ (λ s is. is ∙ ap ids_of (c.as_slice.ensures ∙ c.in_ok-add_filtered.ensures passes answers ∙ ap (λ list. list ++ passing) c.new-list.ensures.items)) c.of_list.ensures
